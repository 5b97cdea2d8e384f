use Rattle.std.proofs.Common.{arith, ◌≡◌, ℕ, ◌++◌, List, sym, ap, subst, ◌∙◌, append_assoc}
use Rattle.route_wire.specs.Fields.{Fields}
use Rattle.route_join.specs.Table.{IsTableOf}
use Rattle.std.specs.Prelude.{Result}
use Rattle.ev_edge.specs.declared.event.Event.{Event}
use Rattle.ev_edge.specs.declared.refusal.Refusal as edges
use Rattle.ev_edge.specs.declared.reply.Reply.{Reply}
use Rattle.ev_edge.specs.Edge.{Edge, table_of}
use Rattle.ev_edge.specs.Steps.{answered}
use Rattle.ev_edge.specs.Changes.{Changes, accepted}
use Rattle.ev_edge.proofs.Changing.{steps_change}
use Rattle.ev_book.specs.Journal.{AreOwnSince}
use Rattle.ev_book.proofs.Compacting.{no_fewer}
use Rattle.ev_book.proofs.Reaching.{still_holds}
use Rattle.ev_book.proofs.Stepping.{own_in, are_own, fits_brought, fits_room, still_table, touched_by_there}
use Rattle.ev_book.proofs.journal.step_within.Goals as goal

owned : (e : Edge) (event : Event) (result : Result Reply edges.Refusal) (e' : Edge) (before : ℕ)
    → before ≡ e.routes.speaker.counter → (h : Changes e event result e')
    → AreOwnSince e'.routes.speaker before (own_in h)
owned e event result e' before is h = subst (λ n. AreOwnSince e'.routes.speaker n (own_in h)) (sym is) (are_own h)

pub append_own-requires-clause-numbered : goal.append_own-requires-clause-numbered
append_own-requires-clause-numbered c =
    let h = steps_change c.args.edge.now c.args.event.now
    (answered c.step_into-answer.result c.step_into-answer.new.reply) c.step_into-answer.new.self
    c.always_good.ensures c.step_into-answer.ensures in (
      own_in h,
      owned c.args.edge.now c.args.event.now (answered c.step_into-answer.result c.step_into-answer.new.reply)
          c.step_into-answer.new.self c.counter-before.result c.counter-before.ensures h,
    )

pub append_taken-requires : goal.append_taken-requires
append_taken-requires c =
    let one = fits_brought c.args.event.now c.args.edge.now.routes in
    let there = c.requires.room in
    omega (arith, one, there)

pub append_own-requires-clause-room : goal.append_own-requires-clause-room
append_own-requires-clause-room c =
    let h = steps_change c.args.edge.now c.args.event.now
    (answered c.step_into-answer.result c.step_into-answer.new.reply) c.step_into-answer.new.self
    c.always_good.ensures c.step_into-answer.ensures in
    let room = fits_room c.args.edge.now c.args.event.now
    (answered c.step_into-answer.result c.step_into-answer.new.reply) c.step_into-answer.new.self
    c.step_into-answer.ensures h in
    let before = c.counter-before.ensures in
    let there = c.requires.room in
    let len = c.append_taken.ensures.len in
    let capacity = c.append_taken.ensures.capacity in
    omega (arith, room, before, there, len, capacity)

changes : (c : goal.After-append_own) → Changes c.args.edge.now c.args.event.now
    (answered c.step_into-answer.result c.step_into-answer.new.reply) c.step_into-answer.new.self
changes c = steps_change c.args.edge.now c.args.event.now
    (answered c.step_into-answer.result c.step_into-answer.new.reply) c.step_into-answer.new.self c.always_good.ensures
    c.step_into-answer.ensures

written : (c : goal.After-append_own) → c.append_own.new.journal.items ≡ c.args.journal.now.items
    ++ (accepted c.args.event.now (answered c.step_into-answer.result c.step_into-answer.new.reply)
    ++ own_in (changes c))
written c =
    c.append_own.ensures (own_in (changes c)) (owned c.args.edge.now c.args.event.now
    (answered c.step_into-answer.result c.step_into-answer.new.reply) c.step_into-answer.new.self
    c.counter-before.result c.counter-before.ensures (changes c))
    ∙ ap (λ (xs : List Fields). xs ++ own_in (changes c))
    (c.append_taken.ensures.items c.step_into-answer.new.reply)
    ∙ append_assoc c.args.journal.now.items (accepted c.args.event.now
    (answered c.step_into-answer.result c.step_into-answer.new.reply)) (own_in (changes c))

grown : (c : goal.After-append_own) → IsTableOf (c.args.journal.now.items
    ++ (accepted c.args.event.now (answered c.step_into-answer.result c.step_into-answer.new.reply)
    ++ own_in (changes c))) (table_of c.step_into-answer.new.self)
grown c = still_table c.args.journal.now.items (changes c) c.requires.table

pub returns-clause-grows : goal.returns-clause-grows
returns-clause-grows c = record {
  steps = c.step_into-answer.ensures;
  own = own_in (changes c);
  are_own = are_own (changes c);
  journal = written c;
}

pub returns-clause-table : goal.returns-clause-table
returns-clause-table c = subst (λ us. IsTableOf us (table_of c.step_into-answer.new.self)) (sym (written c)) (grown c)

pub returns-clause-registers : goal.returns-clause-registers
returns-clause-registers c = no_fewer c.args.journal.now.items
    (accepted c.args.event.now (answered c.step_into-answer.result c.step_into-answer.new.reply) ++ own_in (changes c))
    (table_of c.args.edge.now) (table_of c.step_into-answer.new.self) c.requires.table (grown c)

pub returns-clause-marks : goal.returns-clause-marks
returns-clause-marks c = still_holds c.args.journal.now.items
    (accepted c.args.event.now (answered c.step_into-answer.result c.step_into-answer.new.reply) ++ own_in (changes c))
    (table_of c.args.edge.now) (table_of c.step_into-answer.new.self) c.requires.table (grown c)

pub returns-clause-mark : goal.returns-clause-mark
returns-clause-mark c = touched_by_there c.args.edge.now c.args.event.now
    (answered c.step_into-answer.result c.step_into-answer.new.reply) c.step_into-answer.new.self
    c.args.journal.now.items (own_in (changes c)) c.step_into-answer.ensures (grown c)
