use Rattle.std.proofs.Common.{ap, not, ◌∙◌}
use Rattle.mac_arena.specs.Inner.Slot.{held_on}
use Rattle.mac_arena.proofs.Tables.{found_by, slot_changed, low, ageing_is, is_held, at_new}
use Rattle.mac_arena.proofs.table.MacTable.hold.Goals as goal

pub hold-requires-clause-ageing : goal.hold-requires-clause-ageing
hold-requires-clause-ageing c = ageing_is (found_by c.self.invariant c.self.view_is) c.args.node c.requires.at
    ∙ ap not c.requires.ageing

pub invariant_of-self : goal.invariant_of-self
invariant_of-self c =
    let found = found_by c.self.invariant c.self.view_is in
    let slot = slot_changed found c.args.node c.requires.at held_on c.index_mut.ensures.value c.hold-2.ensures in
    rw c.hold.ensures (is_held found c.args.node c.requires.at slot).table

pub returns-clause-after : goal.returns-clause-after
returns-clause-after c =
    let found = found_by c.self.invariant c.self.view_is in
    let slot = slot_changed found c.args.node c.requires.at held_on c.index_mut.ensures.value c.hold-2.ensures in
    rw c.hold.ensures (is_held found c.args.node c.requires.at slot).seen

pub returns-clause-at : goal.returns-clause-at
returns-clause-at c =
    let found = found_by c.self.invariant c.self.view_is in
    let slot = slot_changed found c.args.node c.requires.at held_on c.index_mut.ensures.value c.hold-2.ensures in
    rw c.hold.ensures (at_new c.self.inside.slots.items c.args.node (low found c.args.node c.requires.at)
    (is_held found c.args.node c.requires.at slot) ∙ slot)
