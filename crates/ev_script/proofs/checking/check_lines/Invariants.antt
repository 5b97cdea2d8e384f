use Rattle.std.proofs.Common.{◌+◌, ◌≤◌, length}
use Rattle.ev_script.specs.Faults.{LooksAt}
use Rattle.ev_script.proofs.checking.check_lines.Given as goal

abbrev pub invariant-lines : goal.invariant-lines
invariant-lines g l = record {
  looks : LooksAt l.name l.script l.rest (g.N.Out.end l.initial.notes) (g.N.Out.end l.notes) l.found;
  few : l.found.count + length l.rest ≤ length l.script;
}

abbrev pub decreases-lines : goal.decreases-lines
decreases-lines g l = length l.rest
