use Rattle.route_join.proofs.Joins.{join_commutes, join_associates, join_repeats}
use Rattle.ev_edge.specs.Edge.{table_of}
use Rattle.ev_fabric.proofs.laws.tables_join.Goals as goal

pub returns : goal.returns
returns c = λ a b d. record {
  commutes = join_commutes (table_of a) (table_of b);
  associates = join_associates (table_of a) (table_of b) (table_of d);
  repeats = join_repeats (table_of a);
}
