use Rattle.std.proofs.Common.{ℕ, Some, ap, rules, subst}
use Rattle.ev_peers.specs.Working.{standing, Takes}
use Rattle.ev_links.proofs.Coming.{goes_on}
use Rattle.ev_peers.proofs.workers.peer_worker.Goals as goal

pub loop-preserved-in-Some-next : goal.loop-preserved-in-Some-next
loop-preserved-in-Some-next g c = record {
  took =
      let before = standing c.loop.worker.pass (g.O.Outlet.parcels c.loop.worker.outlet)
      (g.O.Outlet.records c.loop.worker.outlet) in
      let after = standing c.enter_message.new.worker.pass (g.O.Outlet.parcels c.enter_message.new.worker.outlet)
      (g.O.Outlet.records c.enter_message.new.worker.outlet) in
      goes_on (Takes c.args.worker.now.shared_edge.now.bridge) (Some (g.I.UpdatesIn.came c.args.updates.now))
      (Some (g.I.UpdatesIn.came c.loop.updates)) (Some (g.I.UpdatesIn.came c.next-in-loop.new.self))
      (standing c.args.worker.now.pass (g.O.Outlet.parcels c.args.worker.now.outlet)
      (g.O.Outlet.records c.args.worker.now.outlet)) before after c.loop.invariant.took
      (record {
        thing = c.in-Some-next.message;
        told = ap Some c.in-Some-next.ensures;
        done = subst (λ (b : ℕ). Takes b before c.in-Some-next.message after) (search rules)
            c.enter_message.ensures.takes;
      });
  stays = search rules;
}

pub loop-preserved : goal.loop-preserved
loop-preserved g c = record {
  took =
      let before = standing c.loop.worker.pass (g.O.Outlet.parcels c.loop.worker.outlet)
      (g.O.Outlet.records c.loop.worker.outlet) in
      let after = standing c.enter_message.new.worker.pass (g.O.Outlet.parcels c.enter_message.new.worker.outlet)
      (g.O.Outlet.records c.enter_message.new.worker.outlet) in
      goes_on (Takes c.args.worker.now.shared_edge.now.bridge) (Some (g.I.UpdatesIn.came c.args.updates.now))
      (Some (g.I.UpdatesIn.came c.loop.updates)) (Some (g.I.UpdatesIn.came c.next-in-loop.new.self))
      (standing c.args.worker.now.pass (g.O.Outlet.parcels c.args.worker.now.outlet)
      (g.O.Outlet.records c.args.worker.now.outlet)) before after c.loop.invariant.took
      (record {
        thing = c.in-Some-next.message;
        told = ap Some c.in-Some-next.ensures;
        done = subst (λ (b : ℕ). Takes b before c.in-Some-next.message after) (search rules)
            c.enter_message.ensures.takes;
      });
  stays = search rules;
}
