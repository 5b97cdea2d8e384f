use Rattle.ev_sites.proofs.Ways.{comes_back_by_none, leads}
use Rattle.ev_sites.proofs.bridges.no_quiet_circle.Goals as goal

pub returns : goal.returns
returns c = λ net is x ports way. comes_back_by_none c.bridge_laws.ensures net is x ports
    (leads c.bridge_laws.ensures net is ports x x way)
