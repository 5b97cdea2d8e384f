use Rattle.ev_sites.proofs.Ways.{comes_back_by_none, leads, quietly}
use Rattle.ev_sites.proofs.bridges.no_circle.Goals as goal

pub returns : goal.returns
returns c = λ net is rest x ports way. comes_back_by_none c.bridge_laws.ensures net is x ports
    (leads c.bridge_laws.ensures net is ports x x (quietly c.bridge_laws.ensures net is rest ports x x way))
