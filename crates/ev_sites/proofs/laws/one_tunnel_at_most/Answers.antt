use Rattle.ev_sites.proofs.Through.{none_twice}
use Rattle.ev_sites.proofs.laws.one_tunnel_at_most.Goals as goal

pub returns : goal.returns
returns c =
    λ sites rest x y z w points first goes second. none_twice c.no_circle.ensures sites rest x y z w points first goes
    second
