use Rattle.route_join.proofs.Joins.{join_of_tables}
use Rattle.ev_edge.specs.Edge.{table_of}
use Rattle.ev_fabric.proofs.laws.sets_join.Goals as goal

pub returns : goal.returns
returns c = λ us vs a b. join_of_tables us vs (table_of a) (table_of b)
