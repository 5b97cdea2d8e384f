use Rattle.std.proofs.Common.{◌≡◌, ◌+◌, ◌*◌, ◌≤◌, ◌++◌, length}
use Rattle.ev_script.specs.Script.{octets_of}
use Rattle.ev_script.proofs.script.hex.Hex.octets.Given as goal

abbrev pub invariant-pairs : goal.invariant-pairs
invariant-pairs l = record {
  so_far : l.octets.items ++ octets_of l.rest ≡ octets_of l.fn.self.digits.now;
  few : 2 * length l.octets.items + length l.rest ≤ 20000;
}

abbrev pub decreases-pairs : goal.decreases-pairs
decreases-pairs l = length l.rest
