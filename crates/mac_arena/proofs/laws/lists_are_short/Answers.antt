use Rattle.mac_arena.proofs.Looking.{few}
use Rattle.mac_arena.proofs.laws.lists_are_short.Goals as goal

pub returns : goal.returns
returns c = few c.args.table.now c.len-count.ensures.lists
