use Rattle.route_join.proofs.Indexed.{found_as}
use Rattle.route_join.proofs.groups.Groups.get.Goals as goal
use Rattle.std.proofs.Common.{refl}

pub returns : goal.returns
returns c = found_as c.self.invariant c.self.view_is refl c.get.ensures.value
