use Rattle.mac_arena.proofs.Going.{due_exact, due_first}
use Rattle.mac_arena.proofs.laws.going_by_age.Goals as goal

pub returns-clause-exactly : goal.returns-clause-exactly
returns-clause-exactly c = due_exact c.args.table.now c.args.limit c.len-count.ensures.lists

pub returns-clause-in_turn : goal.returns-clause-in_turn
returns-clause-in_turn c = λ s. due_first c.args.table.now c.args.limit s c.len-count.ensures.lists
