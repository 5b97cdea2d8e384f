use Rattle.std.proofs.Common.{rules, subst}
use Rattle.ev_peers.proofs.Threads.{none_joined, one_joined, all_joined}
use Rattle.ev_peers.proofs.joining.join_edges.Goals as goal

pub loop-handle-init : goal.loop-handle-init
loop-handle-init g c = record {
  all = search rules;
  room = search rules;
  left = search rules;
  left_room = search rules;
  joined = λ setups h. none_joined setups c.args.ended.items c.args.left.items c.args.running.items (search rules)
      (search rules) h;
}

pub loop-handle-preserved : goal.loop-handle-preserved
loop-handle-preserved g c = record {
  all = search rules;
  room = search rules;
  left = search rules;
  left_room = search rules;
  joined = λ setups h. one_joined setups c.loop-handle.ended.items _ c.loop-handle.left.items _ c.pop.new.self.items
      c.loop-handle.running.items c.in-Some.handle c.join_edge.result c.in-Some.ensures.items (search rules)
      (search rules) c.join_edge.ensures (c.loop-handle.invariant.joined setups h);
}

pub returns-clause-each : goal.returns-clause-each
returns-clause-each g c = λ setups h. all_joined setups c.loop-handle.ended.items c.loop-handle.left.items
    c.loop-handle.running.items (search rules) (c.loop-handle.invariant.joined setups h)

pub returns-clause-seated : goal.returns-clause-seated
returns-clause-seated g c = λ setups h. (c.loop-handle.invariant.joined setups h).seated
