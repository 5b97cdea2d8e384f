use Rattle.ev_sites.proofs.Later.{laws_of, ring_is_cut}
use Rattle.ev_sites.proofs.bridges.ring_can_be_cut.Goals as goal

pub returns : goal.returns
returns c = ring_is_cut (laws_of c.settled_by_lists.ensures c.runs_happen.ensures c.roles_last.ensures
    c.lasting_is_reached.ensures c.losing_keeps_tree.ensures c.passing_is_in_tree.ensures)
