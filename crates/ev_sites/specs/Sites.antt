-- Sites of a fabric, each a network of bridges that is attached to one edge, and the ways of frames through them.
use Rattle.std.specs.Prelude.{◌≡◌, ◌≢◌, ◌⊎◌, ℕ, ◌+◌, true, Some, Result, List, [], ◌∷◌, Contains, slice_get}
use Rattle.ether_wire.specs.Ports.{IsPort, has_port}
use Rattle.ev_tunnel.specs.declared.decision.Decision.{Decision}
use Rattle.ev_sites.specs.Network.{Spot, Network, IsBridgeAt, IsNetwork, IsAtRest, PassesAt, Crosses, Travels}
use Rattle.ev_edge.specs.declared.refusal.Refusal.{Refusal}
use Rattle.ev_edge.specs.declared.reply.Reply.{Reply}
use Rattle.ev_edge.specs.Arrival.{frame_arrival, tunnel_arrival}
use Rattle.ev_edge.specs.Edge.{Edge, address_of}
use Rattle.ev_edge.specs.Laws.{decision_in}
use Rattle.ev_edge.specs.Steps.{FrameSteps, TunnelSteps}

-- ---- sites

-- A network, the place in it of the bridge that is the edge's, and the edge's address. Each site has its own network,
-- so no bridge and no segment is in two sites.
pub record Site : Type 0 where
  pub net : Network
  pub attached : ℕ
  pub address : ℕ

abbrev pub IsSiteAt : List Site → ℕ → Site → Type 0
IsSiteAt sites i s = slice_get sites i ≡ Some s

-- each site's network is at rest
pub record AreAtRest (sites : List Site) : Type 0 where
  pub networks : (i : ℕ) (s : Site) → IsSiteAt sites i s → IsNetwork s.net
  pub rest : (i : ℕ) (s : Site) → IsSiteAt sites i s → IsAtRest s.net

-- a port of a fabric: the place of its site, and the port there
pub record Point : Type 0 where
  pub site : ℕ
  pub spot : Spot

-- the edge is the site's, with any learning table and any routes: its bridge is the one at that place
pub record IsEdgeOf (s : Site) (e : Edge) : Type 0 where
  pub bridge : IsBridgeAt s.net s.attached e.tree
  pub address : address_of e ≡ s.address

-- ---- an edge's decision about a frame

-- the site's edge, in some state, answers octets that come in at x, a port of its own bridge, by this decision
pub record DecidesAt (s : Site) (x : Spot) (d : Decision) : Type 0 where
  pub here : x.bridge ≡ s.attached
  pub before : Edge
  pub octets : List ℕ
  pub result : Result Reply Refusal
  pub after : Edge
  pub edge : IsEdgeOf s before
  pub step : FrameSteps (frame_arrival before (x.place + 1) octets) before (x.place + 1) result after
  pub decision : decision_in result ≡ Some d

-- the site's edge, in some state, answers a datagram from the edge of this address by this decision
pub record DecidesFrom (s : Site) (from : ℕ) (d : Decision) : Type 0 where
  pub before : Edge
  pub octets : List ℕ
  pub result : Result Reply Refusal
  pub after : Edge
  pub edge : IsEdgeOf s before
  pub step : TunnelSteps (tunnel_arrival before from octets) before result after
  pub decision : decision_in result ≡ Some d

-- A decision's frame leaves the edge's bridge by one of the decision's ports, crosses that port's segment, and comes in
-- at another port y of the segment, which passes.
pub record Leaves (s : Site) (d : Decision) (y : Spot) : Type 0 where
  pub out : Spot
  pub bridge : out.bridge ≡ s.attached
  pub among : IsPort (out.place + 1) × (has_port d.local (out.place + 1) ≡ true)
  pub segment : s.net.segment out ≡ s.net.segment y
  pub apart : out ≢ y
  pub arrives : PassesAt s.net y

-- ---- ways of frames

-- from x to y by a bridge of a site that isn't the edge's
pub record ByBridge (sites : List Site) (x y : Point) : Type 0 where
  pub site : Site
  pub at : IsSiteAt sites x.site site
  pub same : y.site ≡ x.site
  pub other : x.spot.bridge ≢ site.attached
  pub crosses : Crosses site.net x.spot y.spot

-- from x to y by a site's edge
pub record ByEdge (sites : List Site) (x y : Point) : Type 0 where
  pub site : Site
  pub at : IsSiteAt sites x.site site
  pub same : y.site ≡ x.site
  pub decision : Decision
  pub decides : DecidesAt site x.spot decision
  pub leaves : Leaves site decision y.spot

-- From x to y by the edges of two sites and a tunnel. The datagram may hold anything.
pub record ByTunnel (sites : List Site) (x y : Point) : Type 0 where
  pub near : Site
  pub far : Site
  pub at_near : IsSiteAt sites x.site near
  pub at_far : IsSiteAt sites y.site far
  pub decision : Decision
  pub decides : DecidesAt near x.spot decision
  pub goes : Contains decision.remote.items far.address
  pub decision_far : Decision
  pub decides_far : DecidesFrom far near.address decision_far
  pub leaves : Leaves far decision_far y.spot

abbrev pub Hops : List Site → Point → Point → Type 0
Hops sites x y = ByBridge sites x y ⊎ (ByEdge sites x y ⊎ ByTunnel sites x y)

-- a frame that comes in at x comes in at these ports, one after the other, of which y is the last
abbrev pub Goes : List Site → List Point → Point → Point → Type 0
Goes sites [] x y = x ≡ y
Goes sites (z ∷ later) x y = Hops sites x z × Goes sites later z y

-- ---- the laws

-- In a network at rest, a frame that left a bridge by the port o and crossed to y never comes in at that bridge.
abbrev pub NeverBackToItsBridge : Type 0
NeverBackToItsBridge =
    (net : Network) → IsNetwork net → IsAtRest net → (o y w : Spot) (ports : List Spot)
    → PassesAt net o → PassesAt net y → net.segment o ≡ net.segment y → o ≢ y
    → Travels net ports y w → w.bridge ≢ o.bridge

-- if all sites are at rest, a frame that comes in at a port at which it came in before has gone nowhere
abbrev pub NoCircleThroughTunnels : Type 0
NoCircleThroughTunnels =
    (sites : List Site) → AreAtRest sites → (x : Point) (points : List Point) → Goes sites points x x → points ≡ []

-- a frame that came through a tunnel goes through none again
abbrev pub OneTunnelAtMost : Type 0
OneTunnelAtMost =
    (sites : List Site) → AreAtRest sites → (x y z w : Point) (points : List Point)
    → ByTunnel sites x y → Goes sites points y z → ByTunnel sites z w → ⊥

-- there are two sites at rest, and a frame in the first of them that crosses to the edge's bridge
abbrev pub SitesCanBeAtRest : Type 0
SitesCanBeAtRest =
    (first : Site) × (second : Site) × (x : Point) × (y : Point) × AreAtRest (first ∷ second ∷ [])
    × ByBridge (first ∷ second ∷ []) x y × (y.spot.bridge ≡ first.attached) × (first.address ≢ second.address)
