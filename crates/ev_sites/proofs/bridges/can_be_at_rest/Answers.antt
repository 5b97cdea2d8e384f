use Rattle.ev_sites.proofs.Ring.{a_ring, some_rests}
use Rattle.ev_sites.proofs.bridges.can_be_at_rest.Goals as goal

pub returns : goal.returns
returns c = some_rests _ _ _ _ _ _ _ _ _ (a_ring c.settled_by_lists.ensures c.runs_happen.ensures)
