use Rattle.route_join.proofs.Tables.{one_table}
use Rattle.route_join.proofs.laws.one_table.Goals as goal

pub returns : goal.returns
returns c = one_table
