use Rattle.ev_sites.proofs.Meetings.{begun_anew}
use Rattle.ev_sites.proofs.sessions.begun_anew.Goals as goal

pub returns : goal.returns
returns c = begun_anew
