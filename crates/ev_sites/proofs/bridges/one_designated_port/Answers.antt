use Rattle.ev_sites.proofs.Ways.{one_designated}
use Rattle.ev_sites.proofs.bridges.one_designated_port.Goals as goal

pub returns : goal.returns
returns c = λ net is x y s t a b at_x at_y joined quiet ss st da db.
    one_designated c.bridge_laws.ensures net is x y s t a b at_x at_y joined quiet ss st da db
