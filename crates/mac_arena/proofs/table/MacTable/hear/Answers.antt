use Rattle.std.proofs.Common.{ap, not, ◌∙◌}
use Rattle.mac_arena.specs.Inner.Slot.{heard_on}
use Rattle.mac_arena.proofs.Tables.{found_by, slot_changed, ageing_is, is_heard}
use Rattle.mac_arena.proofs.table.MacTable.hear.Goals as goal

pub age-requires-clause-ageless : goal.age-requires-clause-ageless
age-requires-clause-ageless c = ageing_is (found_by c.self.invariant c.self.view_is) c.args.node c.requires.at
    ∙ ap not c.requires.pinned

pub invariant_of-self : goal.invariant_of-self
invariant_of-self c =
    let found = found_by c.self.invariant c.self.view_is in
    rw c.age.ensures (is_heard found c.args.node c.requires.at c.args.second c.requires.pinned c.requires.latest
    (slot_changed found c.args.node c.requires.at (heard_on c.args.second) c.index_mut.ensures.value
    c.hear.ensures)).table

pub returns : goal.returns
returns c =
    let found = found_by c.self.invariant c.self.view_is in
    rw c.age.ensures (is_heard found c.args.node c.requires.at c.args.second c.requires.pinned c.requires.latest
    (slot_changed found c.args.node c.requires.at (heard_on c.args.second) c.index_mut.ensures.value
    c.hear.ensures)).seen
