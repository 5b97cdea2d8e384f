use Rattle.mac_arena.proofs.Going.{unpinned_exact, unpinned_first}
use Rattle.mac_arena.proofs.laws.going_by_flush.Goals as goal

pub returns-clause-exactly : goal.returns-clause-exactly
returns-clause-exactly c = unpinned_exact c.args.table.now c.args.port c.requires c.len-count.ensures.lists

pub returns-clause-in_turn : goal.returns-clause-in_turn
returns-clause-in_turn c = λ s. unpinned_first c.args.table.now c.args.port s c.len-count.ensures.lists
