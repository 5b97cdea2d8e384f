use Rattle.route_join.proofs.Joins.{one_joined}
use Rattle.route_join.proofs.laws.one_joined.Goals as goal

pub returns : goal.returns
returns c = one_joined
