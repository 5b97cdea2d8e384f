use Rattle.std.proofs.Common.{◌≡◌, ◌+◌}
use Rattle.ev_links.specs.Coming.{DoesAll}
use Rattle.ev_peers.specs.Sending.{gone, Sends}
use Rattle.ev_peers.proofs.workers.out_worker.Given as goal

-- all datagrams so far were sent, or lost and counted
abbrev pub invariant-loop : goal.invariant-loop
invariant-loop g l = record {
  lost : g.O.LinkOut.failed l.link ≡ g.O.LinkOut.failed l.initial.link + l.lost;
  sends : DoesAll Sends (g.I.PacketsIn.came l.initial.packets)
      (gone (g.O.LinkOut.sent l.initial.link) (g.O.LinkOut.failed l.initial.link)) (g.I.PacketsIn.came l.packets)
      (gone (g.O.LinkOut.sent l.link) (g.O.LinkOut.failed l.link));
}
