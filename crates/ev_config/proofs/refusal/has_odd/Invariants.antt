use Rattle.std.proofs.Common.{◌≡◌, false, take}
use Rattle.std.specs.List.{list_any}
use Rattle.ev_config.specs.Told.{is_odd}
use Rattle.ev_config.proofs.refusal.has_odd.Given as goal

abbrev pub invariant-loop-octet : goal.invariant-loop-octet
invariant-loop-octet l = list_any is_odd (take l.octet-index l.octets) ≡ false
