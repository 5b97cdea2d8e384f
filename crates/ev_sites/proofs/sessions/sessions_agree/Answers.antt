use Rattle.ev_sites.proofs.Meetings.{sessions_agree, all_sessions_agree}
use Rattle.ev_sites.proofs.sessions.sessions_agree.Goals as goal

pub returns : goal.returns
returns c = record { two = sessions_agree; all = all_sessions_agree }
