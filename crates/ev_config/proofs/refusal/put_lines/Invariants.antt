use Rattle.std.proofs.Common.{◌≡◌, ℕ, List, take}
use Rattle.ether_wire.specs.Ends.{with_text}
use Rattle.ev_config.specs.Inner.Faults.{faults_view}
use Rattle.ev_config.specs.Told.{lines_text, AreAbout}
use Rattle.ev_config.proofs.refusal.put_lines.Given as goal

abbrev pub invariant-loop-fault : goal.invariant-loop-fault
invariant-loop-fault g l = (lines : List (List ℕ)) × AreAbout l.wanted (faults_view (take l.fault-index l.faults)) lines
    × (g.N.Out.end l.notes ≡ with_text (g.N.Out.end l.initial.notes) (lines_text lines))
