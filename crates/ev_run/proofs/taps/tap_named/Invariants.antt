use Rattle.std.proofs.Common.{◌≡◌, drop}
use Rattle.ev_run.specs.Inner.Taps.{tap_named}
use Rattle.ev_run.proofs.taps.tap_named.Given as goal

abbrev pub invariant-loop-tap : goal.invariant-loop-tap
invariant-loop-tap l = tap_named (drop l.tap-index l.taps) l.name ≡ tap_named l.taps l.name
