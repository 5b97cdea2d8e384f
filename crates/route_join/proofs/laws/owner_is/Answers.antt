use Rattle.route_join.proofs.Owners.{owner_is}
use Rattle.route_join.proofs.laws.owner_is.Goals as goal

pub returns : goal.returns
returns c = owner_is
