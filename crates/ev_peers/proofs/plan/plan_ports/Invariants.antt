use Rattle.std.proofs.Common.{◌≡◌, ◌+◌, ◌++◌, ◌≤◌, reverse, vec_len, vec_capacity}
use Rattle.ev_peers.specs.Inner.Plan.{port_tasks, outputs_back}
use Rattle.ev_peers.proofs.plan.plan_ports.Given as goal

abbrev pub invariant-loop-link : goal.invariant-loop-link
invariant-loop-link g l = record {
  few : vec_len l.links ≤ vec_len l.fn.links;
  tasks_len : vec_len l.tasks + vec_len l.links ≡ vec_len l.fn.tasks + vec_len l.fn.links;
  outputs_len : vec_len l.outputs + vec_len l.links ≡ vec_len l.fn.outputs + vec_len l.fn.links;
  tasks_room : vec_capacity l.tasks ≡ vec_capacity l.fn.tasks;
  outputs_room : vec_capacity l.outputs ≡ vec_capacity l.fn.outputs;
  tasks : l.tasks.items ++ port_tasks l.config.ports.items (reverse l.links.items)
      ≡ l.fn.tasks.items ++ port_tasks l.config.ports.items (reverse l.fn.links.items);
  outputs : l.outputs.items ++ outputs_back l.links.items
      ≡ l.fn.outputs.items ++ outputs_back l.fn.links.items;
}

abbrev pub decreases-loop-link : goal.decreases-loop-link
decreases-loop-link g l = vec_len l.links
