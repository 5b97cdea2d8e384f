use Rattle.route_join.proofs.Joins.{join_associates}
use Rattle.route_join.proofs.laws.join_associates.Goals as goal

pub returns : goal.returns
returns c = join_associates
