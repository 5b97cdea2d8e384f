use Rattle.std.proofs.Common.{◌≡◌, ◌≤◌, length, vec_len, vec_capacity}
use Rattle.ev_peers.proofs.sending.all_dropped.Given as goal

abbrev pub invariant-loop-line : goal.invariant-loop-line
invariant-loop-line g l = record {
  len : vec_len l.dropped ≡ l.line-index;
  room : length l.lines ≤ vec_capacity l.dropped;
}
