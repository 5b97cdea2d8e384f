use Rattle.ev_sites.proofs.After.{no_circle_within}
use Rattle.ev_sites.proofs.bridges.no_circle_within.Goals as goal

pub returns : goal.returns
returns c = λ rest now is at_rest within x ports way.
    no_circle_within c.bridge_laws.ensures rest now is at_rest within x ports way
