use Rattle.ev_sites.proofs.Ring.{a_ring, ring_rests}
use Rattle.ev_sites.proofs.bridges.ring_can_be_at_rest.Goals as goal

pub returns : goal.returns
returns c = ring_rests _ _ _ _ _ _ _ _ _ (a_ring c.settled_by_lists.ensures c.runs_happen.ensures)
