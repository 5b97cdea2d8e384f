use Rattle.std.proofs.Common.{◌≡◌, ◌+◌, vec_len, vec_capacity}
use Rattle.ev_peers.proofs.entering.join_entering.Given as goal

abbrev pub invariant-loop-handle : goal.invariant-loop-handle
invariant-loop-handle g l = record {
  all : vec_len l.passes + vec_len l.running ≡ vec_len l.fn.entering.passes + vec_len l.fn.entering.running;
  capacity : vec_capacity l.passes ≡ vec_capacity l.fn.entering.passes;
}

abbrev pub decreases-loop-handle : goal.decreases-loop-handle
decreases-loop-handle g l = vec_len l.running
