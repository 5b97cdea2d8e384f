use Rattle.route_join.proofs.Joins.{join_is}
use Rattle.route_join.proofs.laws.join_is.Goals as goal

pub returns : goal.returns
returns c = join_is
