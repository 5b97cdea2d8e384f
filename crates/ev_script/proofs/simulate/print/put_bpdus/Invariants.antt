use Rattle.std.proofs.Common.{◌≡◌, take}
use Rattle.ether_wire.specs.Ends.{with_text}
use Rattle.ev_script.specs.Printing.{bpdu_lines}
use Rattle.ev_script.proofs.simulate.print.put_bpdus.Given as goal

abbrev pub invariant-loop-sent : goal.invariant-loop-sent
invariant-loop-sent g l = g.W.Out.end l.out
    ≡ with_text (g.W.Out.end l.initial.out) (bpdu_lines l.edge (take l.sent-index l.bpdus))
