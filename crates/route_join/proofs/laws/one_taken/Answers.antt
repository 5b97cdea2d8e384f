use Rattle.route_join.proofs.Joins.{one_taken}
use Rattle.route_join.proofs.laws.one_taken.Goals as goal

pub returns : goal.returns
returns c = one_taken
