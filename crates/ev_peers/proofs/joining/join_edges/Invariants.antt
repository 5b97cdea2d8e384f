use Rattle.std.proofs.Common.{◌≡◌, ◌+◌, ◌≤◌, List, reverse, vec_len, vec_capacity}
use Rattle.ev_peers.specs.EdgeThreads.{EdgeSetup}
use Rattle.ev_peers.specs.Inner.Handles.{AreHandles}
use Rattle.ev_peers.proofs.Threads.{Joined}
use Rattle.ev_peers.proofs.joining.join_edges.Given as goal

abbrev pub invariant-loop-handle : goal.invariant-loop-handle
invariant-loop-handle g l = record {
  all : vec_len l.ended + vec_len l.running ≡ vec_len l.fn.running;
  room : vec_len l.fn.running ≤ vec_capacity l.ended;
  left : vec_len l.left + vec_len l.running ≡ vec_len l.fn.running;
  left_room : vec_len l.fn.running ≤ vec_capacity l.left;
  joined : (setups : List (EdgeSetup g.row.O.Denot)) → AreHandles 0 (reverse setups) l.fn.running.items
      → Joined setups l.ended.items l.left.items l.running.items;
}

abbrev pub decreases-loop-handle : goal.decreases-loop-handle
decreases-loop-handle g l = vec_len l.running
