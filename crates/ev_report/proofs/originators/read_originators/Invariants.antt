use Rattle.std.proofs.Common.{◌≡◌, length}
use Rattle.std.specs.Prelude.{eqb}
use Rattle.std.specs.List.{IsDistinct}
use Rattle.ev_report.specs.Originators.{parts, originators_from, originators_of_text}
use Rattle.ev_report.proofs.originators.read_originators.Given as goal

abbrev pub invariant-loop-part : goal.invariant-loop-part
invariant-loop-part l = record {
  value : originators_from l.originators.items (parts 44 l.rest) ≡ originators_of_text l.list;
  distinct : IsDistinct eqb l.originators.items;
}

abbrev pub decreases-loop-part : goal.decreases-loop-part
decreases-loop-part l = length l.rest
