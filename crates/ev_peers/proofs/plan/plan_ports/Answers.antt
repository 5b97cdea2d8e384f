use Rattle.std.proofs.Common.{rules}
use Rattle.ev_peers.proofs.Plans.{one_task, one_output}
use Rattle.ev_peers.proofs.plan.plan_ports.Goals as goal

pub loop-link-preserved : goal.loop-link-preserved
loop-link-preserved g c = record {
  few = search rules;
  tasks_len = search rules;
  outputs_len = search rules;
  tasks_room = search rules;
  outputs_room = search rules;
  tasks = one_task c.args.config.now.ports.items c.pop.new.self.items c.loop-link.links.items c.in-Some.link
      c.loop-link.tasks.items _ _ c.in-Some.ensures.items (search rules) c.loop-link.invariant.tasks;
  outputs = one_output c.pop.new.self.items c.loop-link.links.items c.in-Some.link
      c.loop-link.outputs.items _ _ c.in-Some.ensures.items (search rules) c.loop-link.invariant.outputs;
}
