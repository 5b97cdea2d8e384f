use Rattle.std.proofs.Common.{rules, arith, ◌++◌, ◌∷◌, [], sym, ap, ◌∙◌, append_assoc}
use Rattle.ev_book.proofs.Owned.{next_own, no_gap}
use Rattle.ev_book.proofs.journal.append_own.Goals as goal

pub unreachable-requires : goal.unreachable-requires
unreachable-requires c =
    let test = c.loop-offset-test.true in
    let counter = c.counter.ensures in
    no_gap c.args.edge.now.routes.speaker c.args.before c.loop-offset.offset c.requires.numbered
    (omega (arith, test, counter)) c.in_default.ensures.none

pub loop-offset-preserved : goal.loop-offset-preserved
loop-offset-preserved c = record {
  items = λ own h.
      let test = c.loop-offset-test.true in
      let counter = c.counter.ensures in
      let all = h.all in
      let next = next_own c.args.edge.now.routes.speaker c.always_good.ensures.routes.numbers c.args.before own h
      c.loop-offset.offset (omega (arith, test, counter, all)) c.in-Some.update c.in-Some.ensures.some in
      c.push_reserved.ensures.items ∙ ap (λ xs. xs ++ c.in-Some.update ∷ []) (c.loop-offset.invariant.items own h)
      ∙ append_assoc c.args.journal.now.items _ (c.in-Some.update ∷ [])
      ∙ ap (λ xs. c.args.journal.now.items ++ xs) (sym next);
  room = search rules;
}
