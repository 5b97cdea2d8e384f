use Rattle.mac_arena.proofs.Tables.{nothing_found}
use Rattle.mac_arena.proofs.table.MacTable.new.Goals as goal

pub invariant_of-result : goal.invariant_of-result
invariant_of-result c = rw (c.in_ok-orders.ensures, c.in_ok-slots.ensures)
    (nothing_found c.args.capacity c.args.ports c.args.buckets c.args.salt c.requires.some).table

pub returns : goal.returns
returns c = rw (c.in_ok-orders.ensures, c.in_ok-slots.ensures)
    (nothing_found c.args.capacity c.args.ports c.args.buckets c.args.salt c.requires.some).seen
