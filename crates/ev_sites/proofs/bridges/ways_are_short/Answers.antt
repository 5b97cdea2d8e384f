use Rattle.ev_sites.proofs.Ways.{leads, short}
use Rattle.ev_sites.proofs.bridges.ways_are_short.Goals as goal

pub returns : goal.returns
returns c = λ net is x y ports way. short c.bridge_laws.ensures net is ports x y
    (leads c.bridge_laws.ensures net is ports x y way)
