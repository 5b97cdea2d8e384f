use Rattle.route_join.proofs.Owners.{owner_along}
use Rattle.route_join.proofs.laws.owner_along.Goals as goal

pub returns : goal.returns
returns c = owner_along
