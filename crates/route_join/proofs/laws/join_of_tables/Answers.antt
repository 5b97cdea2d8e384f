use Rattle.route_join.proofs.Joins.{join_of_tables}
use Rattle.route_join.proofs.laws.join_of_tables.Goals as goal

pub returns : goal.returns
returns c = join_of_tables
