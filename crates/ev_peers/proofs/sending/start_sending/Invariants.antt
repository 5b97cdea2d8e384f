use Rattle.std.proofs.Common.{◌+◌, ◌≤◌, vec_len, vec_capacity}
use Rattle.ev_peers.proofs.sending.start_sending.Given as goal

abbrev pub invariant-loop-link : goal.invariant-loop-link
invariant-loop-link g l = record {
  lines : vec_len l.outputs ≤ vec_len l.shared.lines;
  words : vec_len l.outputs ≤ vec_len l.shared.no_sending;
  room : vec_len l.running + vec_len l.outputs ≤ vec_capacity l.running;
}

abbrev pub decreases-loop-link : goal.decreases-loop-link
decreases-loop-link g l = vec_len l.outputs
