use Rattle.route_join.proofs.Joins.{join_commutes}
use Rattle.route_join.proofs.laws.join_commutes.Goals as goal

pub returns : goal.returns
returns c = join_commutes
