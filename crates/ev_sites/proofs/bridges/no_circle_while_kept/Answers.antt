use Rattle.ev_sites.proofs.After.{while_kept}
use Rattle.ev_sites.proofs.bridges.no_circle_while_kept.Goals as goal

pub returns : goal.returns
returns c = λ rest now is at_rest kept x ports way.
    c.no_circle_within.ensures rest now is at_rest
    (while_kept c.roles_last.ensures c.lasting_is_reached.ensures c.losing_keeps_tree.ensures
    c.passing_is_in_tree.ensures rest now is kept) x ports way
