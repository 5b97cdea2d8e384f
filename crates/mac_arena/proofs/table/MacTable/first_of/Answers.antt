use Rattle.std.proofs.Common.{rules, sym, ap, ◌∙◌, ◌≡◌, true, false}
use Rattle.std.proofs.lemmas.Option.{same_Some}
use Rattle.idx_links.specs.Links.{list_at}
use Rattle.mac_arena.specs.Learning.{first_unpinned, stations_at}
use Rattle.mac_arena.proofs.Tables.{found_by, at_port, read_slot, unpinned_step}
use Rattle.mac_arena.proofs.table.MacTable.first_of.Goals as goal
use Rattle.mac_arena.proofs.table.MacTable.first_of.Goals.{in-Some-learned+else-not-learned, in_default-learned}

pub index-requires : goal.index-requires
index-requires c =
    let found = found_by c.self.invariant c.self.view_is in
    let there = at_port found c.place_of_port-list.result c.loop.counter c.loop.invariant.at c.in-Some.is in
    let low = there.2 in search rules

pub returns-then-not-learned : goal.returns-then-not-learned
returns-then-not-learned c =
    let found = found_by c.self.invariant c.self.view_is in
    let there = at_port found c.place_of_port-list.result c.loop.counter c.loop.invariant.at c.in-Some.is in
    let is = c.learned.ensures ∙ read_slot c.self.inside.slots.items c.in-Some.node c.index.result.now there.2
    c.index.ensures in
    let x = c.in-Some-learned.learned in
    let unpinned : x.entry.pinned ≡ false = search rules in
    sym (c.loop.invariant.rest ∙ rw unpinned at (unpinned_step found
    (list_at c.self.inside.orders.ports c.place_of_port-list.result) c.loop.counter c.in-Some.node x
    (sym c.loop.invariant.at ∙ c.in-Some.is) (sym is ∙ c.in-Some-learned.is)))
    ∙ ap (λ l. first_unpinned c.args.self.now (stations_at c.args.self.now.ports l)) c.place_of_port-list.ensures

pub next_at_port-at-requires-clause-node : goal.next_at_port-at-requires-clause-node
next_at_port-at-requires-clause-node c = (at_port (found_by c.self.invariant c.self.view_is)
    c.place_of_port-list.result c.loop.counter c.loop.invariant.at c.in-Some.is).3

pub next_at_port-at-requires-clause-linked : goal.next_at_port-at-requires-clause-linked
next_at_port-at-requires-clause-linked c = (at_port (found_by c.self.invariant c.self.view_is)
    c.place_of_port-list.result c.loop.counter c.loop.invariant.at c.in-Some.is).4

pub loop-preserved : goal.loop-preserved
loop-preserved c =
    let found = found_by c.self.invariant c.self.view_is in
    let there = at_port found c.place_of_port-list.result c.loop.counter c.loop.invariant.at c.in-Some.is in
    let is = c.learned.ensures ∙ read_slot c.self.inside.slots.items c.in-Some.node c.index.result.now there.2
    c.index.ensures in
    let x = there.0 in
    let pinned : x.entry.pinned ≡ true = elim c.match-learned.branch [
      | in-Some-learned+else-not-learned w ↦
          (let yes : w.in-Some-learned.learned.entry.pinned ≡ true = search rules in
          rw (same_Some w.in-Some-learned.learned x (sym w.in-Some-learned.is ∙ is ∙ there.1)) at yes)
      | in_default-learned w ↦ absurd (w.in_default-learned.not-Some x (is ∙ there.1))
    ] in
    record {
      at = c.next_at_port-at.ensures c.place_of_port-list.result c.loop.counter (sym c.loop.invariant.at
          ∙ c.in-Some.is);
      rest = c.loop.invariant.rest ∙ rw pinned at (unpinned_step found
          (list_at c.self.inside.orders.ports c.place_of_port-list.result) c.loop.counter c.in-Some.node x
          (sym c.loop.invariant.at ∙ c.in-Some.is) there.1);
    }
