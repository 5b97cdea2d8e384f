use Rattle.route_join.proofs.Joins.{all_taken}
use Rattle.route_join.proofs.laws.all_taken.Goals as goal

pub returns : goal.returns
returns c = all_taken
