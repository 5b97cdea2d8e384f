use Rattle.ev_sites.proofs.Through.{none_comes_back}
use Rattle.ev_sites.proofs.laws.no_circle_through_tunnels.Goals as goal

pub returns : goal.returns
returns c = λ sites rest x points way. none_comes_back c.no_circle.ensures sites rest x points way
