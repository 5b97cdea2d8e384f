use Rattle.ev_view.proofs.Ranking.{owner_leads}
use Rattle.ev_view.proofs.laws.owner_leads.Goals as goal

pub returns : goal.returns
returns c = owner_leads
