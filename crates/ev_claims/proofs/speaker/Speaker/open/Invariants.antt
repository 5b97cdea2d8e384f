use Rattle.std.proofs.Common.{◌≡◌, ◌+◌, ◌<◌, ◌^◌, length, drop}
use Rattle.ev_claims.specs.Opening.{after_floods}
use Rattle.ev_claims.proofs.speaker.Speaker.open.Given as goal

abbrev pub invariant-loop-vni : goal.invariant-loop-vni
invariant-loop-vni l = record {
  same : after_floods l.self (drop l.vni-index l.vnis) ≡ after_floods l.initial.self l.vnis;
  number : l.self.counter + length (drop l.vni-index l.vnis) < 2 ^ 64;
}
