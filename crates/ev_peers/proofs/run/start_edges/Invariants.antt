use Rattle.std.proofs.Common.{◌≡◌, ◌+◌, ◌++◌, ◌≤◌, List, reverse, vec_len, vec_capacity}
use Rattle.ev_peers.specs.Inner.History.{AreSeatsOf}
use Rattle.ev_peers.specs.Inner.Handles.{Handle, AreHandles}
use Rattle.ev_peers.proofs.run.start_edges.Given as goal

abbrev pub invariant-loop-setup : goal.invariant-loop-setup
invariant-loop-setup g l = record {
  all : vec_len l.running + vec_len l.setups ≡ vec_len l.fn.setups;
  room : vec_len l.fn.setups ≤ vec_capacity l.running;
  each : vec_len l.seats ≡ vec_len l.setups;
  seats : AreSeatsOf l.setups.items l.seats.items;
  handles : (rest : List Handle) → AreHandles 0 (reverse l.setups.items) rest
      → AreHandles 0 (reverse l.fn.setups.items) (l.running.items ++ rest);
}

abbrev pub decreases-loop-setup : goal.decreases-loop-setup
decreases-loop-setup g l = vec_len l.setups
