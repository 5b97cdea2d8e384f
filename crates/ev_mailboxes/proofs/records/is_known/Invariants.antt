use Rattle.std.proofs.Common.{◌≡◌, false, take}
use Rattle.std.specs.List.{list_any}
use Rattle.ev_mailboxes.specs.Records.{is_same}
use Rattle.ev_mailboxes.proofs.records.is_known.Given as goal

abbrev pub invariant-loop-known : goal.invariant-loop-known
invariant-loop-known l = list_any (is_same l.refused) (take l.known-index l.all) ≡ false
