use Rattle.route_join.proofs.Joins.{none_taken}
use Rattle.route_join.proofs.laws.none_taken.Goals as goal

pub returns : goal.returns
returns c = none_taken
