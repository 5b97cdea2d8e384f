use Rattle.std.proofs.Common.{append_assoc, below_more, sym, ◌∙◌}
use Rattle.std.proofs.lemmas.List.{take_more}
use Rattle.route_wire.proofs.feed.take_head.Goals as goal

pub loop-i-preserved : goal.loop-i-preserved
loop-i-preserved c = record {
  moved = simp (
    c.push.ensures.items,
    c.loop-i.invariant.moved,
    append_assoc,
    take_more c.args.piece.now c.loop-i.i 0 c.loop-i-test.true,
  );
  unfinished = below_more _ _ c.loop-i.invariant.unfinished
      (rw (← c.loop-i.invariant.moved, ← c.as_slice.ensures.value)
      (sym c.is_unfinished.ensures ∙ c.if-not-is_unfinished.false));
}
