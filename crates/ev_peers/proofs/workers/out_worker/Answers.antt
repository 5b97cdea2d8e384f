use Rattle.std.proofs.Common.{ℕ, List, rules, subst, take}
use Rattle.ev_links.specs.Links.{packet}
use Rattle.ev_peers.specs.Sending.{gone, Sends}
use Rattle.ev_links.proofs.Coming.{goes_on}
use Rattle.ev_peers.proofs.workers.out_worker.Goals as goal

pub loop-preserved : goal.loop-preserved
loop-preserved g c = record {
  lost = search rules;
  sends =
      let before = gone (g.O.LinkOut.sent c.loop.link) (g.O.LinkOut.failed c.loop.link) in
      let after = gone (g.O.LinkOut.sent c.send_one-lost.new.link) (g.O.LinkOut.failed c.send_one-lost.new.link) in
      let octets = take c.in-Some-next.packet.1 c.next-in-loop.new.buffer in
      goes_on Sends (g.I.PacketsIn.came c.args.packets.now) (g.I.PacketsIn.came c.loop.packets)
      (g.I.PacketsIn.came c.next-in-loop.new.self) (gone (g.O.LinkOut.sent c.args.link.now)
      (g.O.LinkOut.failed c.args.link.now)) before after c.loop.invariant.sends (record {
        thing = packet c.in-Some-next.packet.0 octets;
        told = c.in-Some-next.ensures.came;
        done = subst (λ (o : List ℕ). Sends before (packet c.in-Some-next.packet.0 o) after) c.front.ensures
            c.send_one-lost.ensures.sends;
      });
}
