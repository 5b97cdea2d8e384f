use Rattle.std.proofs.Common.{rules, arith, sym, ◌∙◌, ◌≡◌, ◌≤◌, length}
use Rattle.std.proofs.lemmas.Option.{same_Some}
use Rattle.idx_links.specs.Links.{list_at}
use Rattle.mac_arena.proofs.Entries.{differs}
use Rattle.mac_arena.proofs.Tables.{found_by, at_chain, read_slot, slot_is, not_there, not_ageing, bucket_is, pass_one}
use Rattle.mac_arena.proofs.table.MacTable.find.Goals as goal
use Rattle.mac_arena.proofs.table.MacTable.find.Goals.{in-Some-learned+else-eq, in_default-learned}

pub index-requires : goal.index-requires
index-requires c =
    let found = found_by c.self.invariant c.self.view_is in
    let there = at_chain found c.args.bucket c.loop.counter c.loop.invariant.at c.in-Some.is in
    let low = there.2 in search rules

pub returns-then-eq-clause-found : goal.returns-then-eq-clause-found
returns-then-eq-clause-found c =
    let found = found_by c.self.invariant c.self.view_is in
    let there = at_chain found c.args.bucket c.loop.counter c.loop.invariant.at c.in-Some.is in
    let is = c.learned.ensures ∙ read_slot c.self.inside.slots.items c.in-Some.node c.index.result.now there.2
    c.index.ensures in
    slot_is found c.in-Some.node ∙ sym is ∙ c.in-Some-learned.is

pub returns-then-eq-clause-timeless : goal.returns-then-eq-clause-timeless
returns-then-eq-clause-timeless c =
    let found = found_by c.self.invariant c.self.view_is in
    let there = at_chain found c.args.bucket c.loop.counter c.loop.invariant.at c.in-Some.is in
    let is = c.learned.ensures ∙ read_slot c.self.inside.slots.items c.in-Some.node c.index.result.now there.2
    c.index.ensures in
    c.self.invariant.timeless c.in-Some.node c.in-Some-learned.learned (sym is ∙ c.in-Some-learned.is)

pub next_in_chain-at-requires-clause-node : goal.next_in_chain-at-requires-clause-node
next_in_chain-at-requires-clause-node c = (at_chain (found_by c.self.invariant c.self.view_is) c.args.bucket
    c.loop.counter c.loop.invariant.at c.in-Some.is).3

pub next_in_chain-at-requires-clause-linked : goal.next_in_chain-at-requires-clause-linked
next_in_chain-at-requires-clause-linked c = (at_chain (found_by c.self.invariant c.self.view_is) c.args.bucket
    c.loop.counter c.loop.invariant.at c.in-Some.is).4

pub loop-preserved : goal.loop-preserved
loop-preserved c =
    let found = found_by c.self.invariant c.self.view_is in
    let there = at_chain found c.args.bucket c.loop.counter c.loop.invariant.at c.in-Some.is in
    let is = c.learned.ensures ∙ read_slot c.self.inside.slots.items c.in-Some.node c.index.result.now there.2
    c.index.ensures in
    record {
      at = c.next_in_chain-at.ensures c.args.bucket c.loop.counter (sym c.loop.invariant.at ∙ c.in-Some.is);
      passed = pass_one c.self.inside.slots.items _ c.args.key.now c.loop.counter c.in-Some.node c.loop.invariant.passed
          (sym c.loop.invariant.at ∙ c.in-Some.is)
          (elim c.match-learned.branch [
            | in-Some-learned+else-eq w ↦ (λ x at e.
                differs w.in-Some-learned.learned.station c.args.key.now (sym w.if-eq.false ∙ w.eq.ensures)
                (rw (same_Some w.in-Some-learned.learned x (sym w.in-Some-learned.is ∙ is ∙ at)) e))
            | in_default-learned w ↦ (λ x at e. w.in_default-learned.not-Some x (is ∙ at))
          ]);
    }

pub returns-clause-missing : goal.returns-clause-missing
returns-clause-missing c =
    let found = found_by c.self.invariant c.self.view_is in
    let bucket = c.requires ∙ bucket_is found c.args.key.now in
    not_there found c.args.key.now c.loop.counter (rw bucket at c.loop.invariant.passed)
    (let long = c.chain_len-end.ensures in let end = c.loop-test.false in rw bucket at
    (let h : length (list_at c.self.inside.orders.chains c.args.bucket) ≤ c.loop.counter = omega (arith, long, end) in
    h))

pub returns-then-eq-clause-still : goal.returns-then-eq-clause-still
returns-then-eq-clause-still c =
    let found = found_by c.self.invariant c.self.view_is in
    let there = at_chain found c.args.bucket c.loop.counter c.loop.invariant.at c.in-Some.is in
    let is = c.learned.ensures ∙ read_slot c.self.inside.slots.items c.in-Some.node c.index.result.now there.2
    c.index.ensures in
    let same : c.in-Some-learned.learned.station ≡ c.args.key.now = search rules in
    λ p. rw same at (not_ageing found c.in-Some.node _ (slot_is found c.in-Some.node ∙ sym is ∙ c.in-Some-learned.is) p)
