use Rattle.std.proofs.Common.{rules, sym, ◌∙◌}
use Rattle.mac_arena.proofs.Tables.{found_by, oldest_low, ageing_front, read_slot}
use Rattle.mac_arena.proofs.table.MacTable.oldest.Goals as goal

pub index-requires : goal.index-requires
index-requires c =
    let found = found_by c.self.invariant c.self.view_is in
    let low = (oldest_low found c.in-Some.node (sym c.in-Some.ensures)).2 in search rules

pub returns-in_default-learned : goal.returns-in_default-learned
returns-in_default-learned c =
    let found = found_by c.self.invariant c.self.view_is in
    let there = oldest_low found c.in-Some.node (sym c.in-Some.ensures) in
    let is = c.learned.ensures ∙ read_slot c.self.inside.slots.items c.in-Some.node c.index.result.now there.2
    c.index.ensures in
    absurd (c.in_default-learned.not-Some there.0 (is ∙ there.1))

pub returns : goal.returns
returns c =
    let found = found_by c.self.invariant c.self.view_is in
    let there = oldest_low found c.in-Some.node (sym c.in-Some.ensures) in
    let is = c.learned.ensures ∙ read_slot c.self.inside.slots.items c.in-Some.node c.index.result.now there.2
    c.index.ensures in
    sym (rw (← c.in-Some.ensures, ← is, c.in-Some-learned.is) at (ageing_front found))
