use Rattle.std.proofs.Common.{◌≡◌, true}
use Rattle.ev_peers.specs.Working.{standing, hearing, Answers}
use Rattle.ev_links.specs.Coming.{DoesAll}
use Rattle.ev_peers.proofs.workers.hear_all.Given as goal

-- all calls so far were answered
abbrev pub invariant-loop : goal.invariant-loop
invariant-loop g l = record {
  answered : DoesAll (Answers l.initial.worker.shared_edge.now.bridge l.source) (g.I.LinkIn.came l.initial.link)
      (hearing true (standing l.initial.worker.pass (g.O.Outlet.parcels l.initial.worker.outlet)
      (g.O.Outlet.records l.initial.worker.outlet))) (g.I.LinkIn.came l.link)
      (hearing l.works (standing l.worker.pass (g.O.Outlet.parcels l.worker.outlet)
      (g.O.Outlet.records l.worker.outlet)));
  stays : l.worker.shared_edge ≡ l.initial.worker.shared_edge;
}
