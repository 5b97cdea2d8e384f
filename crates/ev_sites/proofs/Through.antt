-- A way through sites at rest stays in its site, or crosses one tunnel and ends in another site.
use Rattle.std.proofs.Common.{◌≡◌, ◌≢◌, ◌⊎◌, inl, inr, ℕ, zero, suc, ◌+◌, true, Some, List, [], ◌∷◌, slice_get, refl}
use Rattle.std.proofs.Common.{sym, ap, ◌∙◌, arith}
use Rattle.std.proofs.lemmas.Option.{same_Some}
use Rattle.ether_wire.specs.Ports.{IsPort, has_port}
use Rattle.ev_tunnel.specs.declared.decision.Decision.{Decision}
use Rattle.rstp_run.specs.Events.{Passes}
use Rattle.ev_sites.specs.Network.{Spot, Network, PassesAt, Crosses, Travels, NoCircle}
use Rattle.ev_sites.specs.Network.{CanBeAtRest}
use Rattle.ev_edge.specs.Edge.{Edge, address_of}
use Rattle.ev_sites.specs.Sites.{Site, IsSiteAt, AreAtRest, Point, IsEdgeOf, DecidesAt, Leaves, ByTunnel, Hops, Goes}
use Rattle.ev_sites.specs.Sites.{SitesCanBeAtRest}
use Rattle.ev_sites.proofs.Back.{longer, never_back}
use Rattle.ev_sites.proofs.Leaving.{frame_sent, tunnel_passes, tunnel_other}

-- ---- the form of a hop

-- by an edge from a tunnel: not its own, and by ports that pass
record Came (e : Edge) (from : ℕ) (d : Decision) : Type 0 where
  pub other : from ≢ address_of e
  pub passes : (q : ℕ) → IsPort q → has_port d.local q ≡ true → Passes e.tree q

-- a port of the edge's bridge that passes there, passes in the site's network
passes_at : (s : Site) (e : Edge) (x : Spot) → IsEdgeOf s e → x.bridge ≡ s.attached → Passes e.tree (x.place + 1)
    → PassesAt s.net x
passes_at s e x edge here passes = (e.tree, rw here edge.bridge, passes)

-- an edge forwards a frame of its own site as any bridge does
edge_crosses : {s : Site} {x y : Spot} {d : Decision} → DecidesAt s x d → Leaves s d y → Crosses s.net x y
edge_crosses {s} {x} {d} at leaves =
    let e = at.before in
    let sent = frame_sent e (x.place + 1) at.after (omega arith) _ at.result d at.step at.decision
    (leaves.out.place + 1)
    leaves.among.0 leaves.among.1 in
    record {
      out = leaves.out;
      bridge = leaves.bridge ∙ sym at.here;
      other = λ same. sent.other (ap (λ (z : Spot). z.place + 1) same);
      segment = leaves.segment;
      apart = leaves.apart;
      enters = passes_at s e x at.edge at.here sent.enters;
      leaves = passes_at s e leaves.out at.edge leaves.bridge sent.leaves;
      arrives = leaves.arrives;
    }

-- a hop within a site
record Within (sites : List Site) (x y : Point) : Type 0 where
  pub site : Site
  pub at : IsSiteAt sites x.site site
  pub same : y.site ≡ x.site
  pub crosses : Crosses site.net x.spot y.spot

-- a hop is a crossing within its site, or by a tunnel
hop_is : {sites : List Site} {x y : Point} → Hops sites x y → Within sites x y ⊎ ByTunnel sites x y
hop_is (inl h) = inl (record { site = h.site; at = h.at; same = h.same; crosses = h.crosses })
hop_is {x} {y} (inr (inl h)) =
    inl (record {
      site = h.site;
      at = h.at;
      same = h.same;
      crosses = edge_crosses
          h.decides h.leaves;
    })
hop_is (inr (inr h)) = inr h

came : (sites : List Site) (x y : Point) (h : ByTunnel sites x y)
    → Came h.decides_far.before h.near.address h.decision_far
came sites x y h =
    let far = h.decides_far in
    record {
      other =
          tunnel_other far.before far.octets far.result far.after far.step far.decision;
      passes = tunnel_passes far.before _ far.result far.after far.step far.decision;
    }

-- the far end of a tunnel is in another site
elsewhere : (sites : List Site) (x y : Point) → ByTunnel sites x y → y.site ≢ x.site
elsewhere sites x y h same =
    (came sites x y h).other (ap (λ (s : Site). s.address) (sym (same_Some h.far h.near (sym h.at_far ∙ (rw same)
    ∙ h.at_near))) ∙ sym h.decides_far.edge.address)

-- ---- ways

abbrev spots : List Point → List Spot
spots [] = []
spots (z ∷ later) = z.spot ∷ spots later

-- the way never leaves its site, and is one of the site's network
record Stays (sites : List Site) (points : List Point) (x w : Point) : Type 0 where
  pub same : w.site ≡ x.site
  pub way : (s : Site) → IsSiteAt sites x.site s → Travels s.net (spots points) x.spot w.spot

-- a way and one more hop
on_to : (sites : List Site) (points : List Point) (y z w : Point) → Goes sites points y z → Hops sites z w
    → (longer_way : List Point) × Goes sites longer_way y w
on_to sites [] y z w goes hop = (w ∷ [], (rw goes hop, refl))
on_to sites (v ∷ later) y z w goes hop =
    let more = on_to sites later v z w goes.1 hop in
    (v ∷ more.0, (goes.0, more.1))

module _ (law : NoCircle) (sites : List Site) (rest : AreAtRest sites) where
  -- after a tunnel the frame stays in the site: it never comes back to the bridge by which it would leave it
  after_tunnel : (points : List Point) (z w : Point) (s : Site) (o y : Spot) (before : List Spot)
      → IsSiteAt sites z.site s → o.bridge ≡ s.attached
      → PassesAt s.net o → PassesAt s.net y → s.net.segment o ≡ s.net.segment y → o ≢ y → Travels s.net before y z.spot
      → Goes sites points z w → w.site ≡ z.site
  after_tunnel [] z w s o y before at here leaves arrives segment apart way goes = ap (λ (p : Point). p.site) (sym goes)
  after_tunnel (v ∷ later) z w s o y before at here leaves arrives segment apart way goes =
      elim (hop_is goes.0) [
        | inl h ↦ (
            let further = longer s.net before y z.spot v.spot way (rw (same_Some h.site s (sym h.at
            ∙ at)) at h.crosses) in
            after_tunnel later v w s o y (further.first ∷ further.later) ((rw h.same)
            ∙ at) here leaves arrives segment apart
            further.way
            goes.1 ∙ h.same)
        | inr h ↦ (
            absurd (never_back law s.net (rest.networks z.site s at) (rest.rest z.site s at) o y z.spot before leaves
            arrives segment apart way (h.decides.here ∙ ap (λ (t : Site). t.attached) (same_Some h.near s
            (sym h.at_near ∙ at)) ∙ sym here)))
      ]

  -- so a way that begins after a tunnel stays in the site to which that tunnel leads
  behind : (points : List Point) (x z w : Point) → ByTunnel sites x z → Goes sites points z w → w.site ≡ z.site
  behind points x z w h goes =
      let e = h.decides_far in
      let out_passes =
      passes_at h.far e.before h.leaves.out e.edge h.leaves.bridge
      ((came sites x z h).passes (h.leaves.out.place + 1) h.leaves.among.0 h.leaves.among.1) in
      after_tunnel points z w h.far h.leaves.out z.spot [] h.at_far h.leaves.bridge out_passes h.leaves.arrives
      h.leaves.segment h.leaves.apart refl goes

  pub none_twice : (x y z w : Point) (points : List Point) → ByTunnel sites x y → Goes sites points y z
      → ByTunnel sites z w → ⊥
  none_twice x y z w points first goes second =
      let more = on_to sites points y z w goes (inr (inr second)) in
      elsewhere sites z w second (behind more.0 x y w first more.1 ∙ sym (behind points x y z first goes))

  ends_elsewhere : (points : List Point) (x z w : Point) → ByTunnel sites x z → Goes sites points z w → w.site ≢ x.site
  ends_elsewhere points x z w h goes same = elsewhere sites x z h (sym (behind points x z w h goes) ∙ same)

  stays_or_leaves : (points : List Point) (x w : Point) → Goes sites points x w
      → Stays sites points x w ⊎ (w.site ≢ x.site)
  stays_or_leaves [] x w goes =
      inl (record { same = ap (λ (p : Point). p.site) (sym goes); way = λ s at. ap (λ (p : Point). p.spot) goes })
  stays_or_leaves (z ∷ later) x w goes = elim (hop_is goes.0) [
    | inr h ↦ inr (ends_elsewhere later x z w h goes.1)
    | inl h ↦ on h (stays_or_leaves later z w goes.1)
  ]
    where
      on : Within sites x z → Stays sites later z w ⊎ (w.site ≢ z.site)
          → Stays sites (z ∷ later) x w ⊎ (w.site ≢ x.site)
      on h (inr away) = inr (λ same. away (same ∙ sym h.same))
      on h (inl more) = inl (record {
        same = more.same ∙ h.same;
        way = λ s at. ((
          rw (same_Some h.site s (sym h.at ∙ at)) at h.crosses,
          more.way s
              ((rw h.same) ∙ at),
        ));
      })

  site_of : (x z : Point) → Hops sites x z → (s : Site) × IsSiteAt sites x.site s
  site_of x z (inl h) = (h.site, h.at)
  site_of x z (inr (inl h)) = (h.site, h.at)
  site_of x z (inr (inr h)) = (h.near, h.at_near)

  pub none_comes_back : (x : Point) (points : List Point) → Goes sites points x x → points ≡ []
  none_comes_back x [] goes = refl
  none_comes_back x (z ∷ later) goes = elim (stays_or_leaves (z ∷ later) x x goes) [
    | inr away ↦ absurd (away refl)
    | inl stays ↦ (
        let first = site_of x z goes.0 in
        let s = first.0 in
        absurd ((cc (law s.net (rest.networks x.site s first.1) (rest.rest x.site s first.1) x.spot
        (z.spot ∷ spots later) (stays.way s first.1)))))
  ]

-- ---- sites at rest

pub sites_at_rest : NoCircle → CanBeAtRest → SitesCanBeAtRest
sites_at_rest law (net, x, y, is, rest, crosses) =
    let first : Site = record { net = net; attached = y.bridge; address = 1 } in (
      first,
      (record { net = net; attached = y.bridge; address = 2 }),
      (record { site = 0; spot = x }),
      (record { site = 0; spot = y }),
      record {
        networks = λ i s at. rw (the_net net i s at) is;
        rest = λ i s at. rw (the_net net i s at) rest;
      },
      record {
        site = first;
        at = refl;
        same = refl;
        other = λ same. (never_back law net is rest crosses.out y y [] crosses.leaves crosses.arrives crosses.segment
            crosses.apart
            refl) (sym same ∙ sym crosses.bridge);
        crosses = crosses;
      },
      refl,
      λ same. absurd (omega (arith, same)),
    )
  where
    the_net : (net : Network) (i : ℕ) (s : Site)
        → slice_get (record { net = net; attached = y.bridge; address = 1 }
        ∷ record { net = net; attached = y.bridge; address = 2 } ∷ []) i ≡ Some s → s.net ≡ net
    the_net net zero s at = ap (λ (t : Site). t.net) (sym (same_Some _ s at))
    the_net net (suc zero) s at = ap (λ (t : Site). t.net) (sym (same_Some _ s at))
    the_net net (suc (suc i)) s at = absurd ((cc))
