use Rattle.std.proofs.Common.{◌≡◌, ℕ, Bool, true, List, Option, rules, subst}
use Rattle.ev_links.specs.Links.{Call}
use Rattle.ev_links.specs.Inner.Coming.{DoesOne}
use Rattle.ev_peers.specs.Working.{standing, Hearing, hearing, Answers}
use Rattle.ev_peers.specs.Inner.Working.{TurnsOnce}
use Rattle.ev_peers.specs.declared.workers.Inlet.{Inlet}
use Rattle.ev_links.proofs.Coming.{goes_on}
use Rattle.ev_peers.proofs.workers.hear_all.Goals as goal

-- if it wasn't the end, a call was answered
answered : (b : Bool) (now bridge : ℕ) (source : Inlet) (came : Option (List (Option Call))) (h : Hearing)
    (came' : Option (List (Option Call))) (h' : Hearing) → b ≡ true → now ≡ bridge
    → TurnsOnce b now source came h came' h' → DoesOne (Answers bridge source) came h came' h'
answered b now bridge source came h came' h' e same t = subst (λ (x : ℕ). DoesOne (Answers x source) came h came' h')
    same (subst (λ (x : Bool). TurnsOnce x now source came h came' h') e t)

pub loop-preserved : goal.loop-preserved
loop-preserved g c = record {
  answered =
      let bridge = c.args.worker.now.shared_edge.now.bridge in
      let came = g.I.LinkIn.came c.loop.link in
      let came' = g.I.LinkIn.came c.turn.new.link in
      let h = hearing c.loop.works (standing c.loop.worker.pass (g.O.Outlet.parcels c.loop.worker.outlet)
      (g.O.Outlet.records c.loop.worker.outlet)) in
      let h' = hearing c.turn.new.works (standing c.turn.new.worker.pass
      (g.O.Outlet.parcels c.turn.new.worker.outlet) (g.O.Outlet.records c.turn.new.worker.outlet)) in
      goes_on (Answers bridge c.args.source.now) (g.I.LinkIn.came c.args.link.now) came came'
      (hearing true (standing c.args.worker.now.pass (g.O.Outlet.parcels c.args.worker.now.outlet)
      (g.O.Outlet.records c.args.worker.now.outlet))) h h' c.loop.invariant.answered
      (answered c.turn.result c.loop.worker.shared_edge.now.bridge bridge c.args.source.now came h came' h'
      (search rules) (search rules) c.turn.ensures.turns);
  stays = search rules;
}
