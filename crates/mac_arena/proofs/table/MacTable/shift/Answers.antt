use Rattle.std.proofs.Common.{◌∙◌}
use Rattle.mac_arena.specs.Inner.Slot.{shifted_to}
use Rattle.mac_arena.proofs.Steps.{not_twice}
use Rattle.mac_arena.proofs.Tables.{found_by, slot_changed, low, is_ported, is_shifted, at_new}
use Rattle.mac_arena.proofs.table.MacTable.shift.Goals as goal

pub shift-requires-clause-linked : goal.shift-requires-clause-linked
shift-requires-clause-linked c = is_ported (found_by c.self.invariant c.self.view_is) c.args.node c.requires.at

pub shift-requires-clause-once : goal.shift-requires-clause-once
shift-requires-clause-once c = not_twice c.self.inside.orders.ports c.args.node c.self.invariant.ports_apart

pub invariant_of-self : goal.invariant_of-self
invariant_of-self c =
    let found = found_by c.self.invariant c.self.view_is in
    let slot = slot_changed found c.args.node c.requires.at (shifted_to c.args.port) c.index_mut.ensures.value
    c.shift-2.ensures in
    rw (c.shift.ensures, c.place_of_port.ensures)
    (is_shifted found c.args.node c.requires.at c.args.port c.requires.some c.requires.port slot).table

pub returns-clause-after : goal.returns-clause-after
returns-clause-after c =
    let found = found_by c.self.invariant c.self.view_is in
    let slot = slot_changed found c.args.node c.requires.at (shifted_to c.args.port) c.index_mut.ensures.value
    c.shift-2.ensures in
    rw (c.shift.ensures, c.place_of_port.ensures)
    (is_shifted found c.args.node c.requires.at c.args.port c.requires.some c.requires.port slot).seen

pub returns-clause-at : goal.returns-clause-at
returns-clause-at c =
    let found = found_by c.self.invariant c.self.view_is in
    let slot = slot_changed found c.args.node c.requires.at (shifted_to c.args.port) c.index_mut.ensures.value
    c.shift-2.ensures in
    rw (c.shift.ensures, c.place_of_port.ensures)
    (at_new c.self.inside.slots.items c.args.node (low found c.args.node c.requires.at)
    (is_shifted found c.args.node c.requires.at c.args.port c.requires.some c.requires.port slot) ∙ slot)
