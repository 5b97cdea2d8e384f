use Rattle.route_join.proofs.Joins.{join_repeats}
use Rattle.route_join.proofs.laws.join_repeats.Goals as goal

pub returns : goal.returns
returns c = join_repeats
