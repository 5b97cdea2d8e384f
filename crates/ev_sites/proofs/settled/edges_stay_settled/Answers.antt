use Rattle.ev_sites.proofs.Staying.{edges_stay_settled}
use Rattle.ev_sites.proofs.settled.edges_stay_settled.Goals as goal

pub returns : goal.returns
returns c = edges_stay_settled c.every_event_settles.ensures c.stays_settled.ensures
