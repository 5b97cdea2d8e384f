use Rattle.mac_arena.proofs.Tables.{found_by}
use Rattle.mac_arena.proofs.Naming.{lists_named}
use Rattle.mac_arena.proofs.table.MacTable.len.Goals as goal

pub returns-clause-lists : goal.returns-clause-lists
returns-clause-lists c = lists_named (found_by c.self.invariant c.self.view_is)
