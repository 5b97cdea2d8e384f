use Rattle.mac_arena.proofs.Tables.{found_by, first_free_cases}
use Rattle.mac_arena.proofs.table.MacTable.place.Goals as goal

pub returns-clause-room : goal.returns-clause-room
returns-clause-room c = (first_free_cases (found_by c.self.invariant c.self.view_is) c.first_free.result
    c.first_free.ensures).0

pub returns-clause-none : goal.returns-clause-none
returns-clause-none c = (first_free_cases (found_by c.self.invariant c.self.view_is) c.first_free.result
    c.first_free.ensures).1
