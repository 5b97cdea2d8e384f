use Rattle.std.proofs.Common.{◌≡◌, ◌+◌, ◌≤◌, vec_len, vec_capacity}
use Rattle.ev_peers.proofs.entering.start_entering.Given as goal

abbrev pub invariant-loop-task : goal.invariant-loop-task
invariant-loop-task g l = record {
  words : vec_len l.tasks ≤ vec_len l.shared.no_entering;
  fresh : vec_len l.fresh ≡ vec_len l.tasks;
  running : vec_len l.running + vec_len l.tasks ≤ vec_capacity l.running;
  passes : vec_len l.passes + vec_len l.tasks + 1 ≤ vec_capacity l.passes;
  all : vec_len l.running + vec_len l.passes + vec_len l.tasks ≡ vec_len l.fn.entering.running
      + vec_len l.fn.entering.passes + vec_len l.fn.tasks;
  capacity : vec_capacity l.passes ≡ vec_capacity l.fn.entering.passes;
}

abbrev pub decreases-loop-task : goal.decreases-loop-task
decreases-loop-task g l = vec_len l.tasks
