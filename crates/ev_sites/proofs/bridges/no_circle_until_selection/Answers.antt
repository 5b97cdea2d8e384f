use Rattle.ev_sites.proofs.After.{until_selection}
use Rattle.ev_sites.proofs.bridges.no_circle_until_selection.Goals as goal

pub returns : goal.returns
returns c = λ rest now is at_rest later x ports way.
    c.no_circle_while_kept.ensures rest now is at_rest (until_selection at_rest later) x ports way
