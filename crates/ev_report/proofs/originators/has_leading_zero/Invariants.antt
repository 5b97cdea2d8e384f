use Rattle.std.proofs.Common.{◌≡◌, length}
use Rattle.std.specs.List.{list_any}
use Rattle.ev_report.specs.Originators.{parts, is_zero_led, has_leading_zero}
use Rattle.ev_report.proofs.originators.has_leading_zero.Given as goal

abbrev pub invariant-loop-number : goal.invariant-loop-number
invariant-loop-number l = list_any is_zero_led (parts 46 l.rest) ≡ has_leading_zero l.text

abbrev pub decreases-loop-number : goal.decreases-loop-number
decreases-loop-number l = length l.rest
