use Rattle.route_join.proofs.Holding.{same_owner}
use Rattle.route_join.proofs.laws.same_owner.Goals as goal

pub returns : goal.returns
returns c = same_owner
