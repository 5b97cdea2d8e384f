use Rattle.std.proofs.Common.{refl, arith}
use Rattle.ev_view.specs.LinkLines.{link_line}
use Rattle.ev_view.proofs.Each.{written_from}
use Rattle.ev_view.proofs.link_lines.put_lines.Goals as goal

pub loop-place-preserved : goal.loop-place-preserved
loop-place-preserved g c =
    let place = c.loop-place.place in
    written_from (link_line c.args.number) 0 c.args.rows.now place place _ _ (g.W.Out.end c.args.out.now)
    (g.W.Out.end c.loop-place.out) (g.W.Out.end c.put_line.new.out) (omega arith) c.loop-place.invariant
    c.in_ok-put_line.ensures refl c.loop-place-test.true
