-- An edge, and when it is good.
use Rattle.std.specs.Prelude.{◌≡◌, ℕ, ◌<◌, ◌≤◌, ◌^◌, ◌↔◌, true, false, IsSome, Contains, length, List, filter}
use Rattle.std.specs.FinMap.{FinMap}
use Rattle.ether_wire.specs.Addr.{is_group}
use Rattle.ether_wire.specs.Ports.{has_port}
use Rattle.route_join.specs.Table.{Table}
use Rattle.route_join.specs.Owner.{IsOwner}
use Rattle.mac_arena.specs.declared.station.Station.{Station}
use Rattle.mac_arena.specs.Station.{station_cmp}
use Rattle.mac_arena.specs.Learning.{Learning, entry_at, IsLatest}
use Rattle.ev_tunnel.specs.Decision.{is_away}
use Rattle.rstp_run.specs.Rules.{Tree}
use Rattle.rstp_run.specs.Events.{IsPort, Passes}
use Rattle.ev_mobility.specs.declared.window.Window.{Window}
use Rattle.ev_mobility.specs.Moves.{Moves}
use Rattle.ev_claims.specs.Speaker.{own_advert}
use Rattle.ev_edge.specs.declared.limits.Quota.{Quota}
use Rattle.ev_edge.specs.declared.storms.Storm.{Storm}
use Rattle.ev_edge.specs.Limits.{AreKept}
use Rattle.ev_claims.specs.LocalRoutes.{LocalRoutes, AreGood, key_of}

-- The local routes, the second, how many seconds an entry lives, the bridge, the windows of the stations that have
-- moved, the other edges that are away: the edge gives them no frame; the quota of each port, port 1 first; and the
-- storm limit of each, with its count. Ports are numbered from 1.
pub record Edge : Type 0 where
  pub routes : LocalRoutes
  pub clock : ℕ
  pub ageing : ℕ
  pub tree : Tree
  pub windows : FinMap station_cmp Window
  pub away : List ℕ
  pub quotas : List Quota
  pub storms : List Storm

abbrev pub edge_of : LocalRoutes → ℕ → ℕ → Tree → Moves → List ℕ → List Quota → List Storm → Edge
edge_of routes clock ageing tree moves away quotas storms = record {
  routes = routes;
  clock = clock;
  ageing = ageing;
  tree = tree;
  windows = moves.windows;
  away = away;
  quotas = quotas;
  storms = storms;
}

abbrev pub table_of : Edge → Table
table_of e = e.routes.speaker.table

abbrev pub address_of : Edge → ℕ
address_of e = e.routes.speaker.address

-- a station that the edge advertises is its own
abbrev pub OwnsAt : LocalRoutes → Station → Type 0
OwnsAt c s = IsSome (own_advert c.speaker (key_of s)) → IsOwner c.speaker.table s.vni s.mac c.speaker.address

-- no group address is learnt
abbrev pub AreIndividual : Learning → Type 0
AreIndividual t = (s : Station) → IsSome (entry_at t s) → is_group s.mac ≡ false

-- each port is of a network that the edge serves
abbrev pub ServesPorts : LocalRoutes → Type 0
ServesPorts c = (v : ℕ) → Contains c.ports v → Contains c.vnis v

-- the edges that are away are those of the listed originators, in their order
abbrev pub AreListed : List ℕ → Table → Type 0
AreListed away t = away ≡ filter (is_away away) t.originators

-- The edge owns what it advertises, no station's last second is later than now, and no group address is learnt; it
-- serves the VNIs of its ports; its learning table has a bucket; its bridge has its ports; the edges that are away are
-- listed ones, in the order of the list; and no port has brought more new stations in its window than its limit allows.
pub record KeepsEdge (e : Edge) : Type 0 where
  pub owns : (s : Station) → OwnsAt e.routes s
  pub latest : IsLatest e.routes.learned e.clock
  pub individual : AreIndividual e.routes.learned
  pub served : ServesPorts e.routes
  pub buckets : 0 < length e.routes.learned.chains
  pub ports : length e.tree.ports ≡ length e.routes.ports
  pub early : e.clock ≤ 2 ^ 63
  pub away : AreListed e.away (table_of e)
  pub quotas : AreKept e.quotas e.clock

-- the good edge: also its routes and its stations match each other, and the lists name the learning map
pub record IsGoodEdge (e : Edge) : Type 0 where
  pub routes : AreGood e.routes
  pub keeps : KeepsEdge e

-- the set of the ports that pass
abbrev pub ArePassing : Tree → ℕ → Type 0
ArePassing tree set = (p : ℕ) → (has_port set p ≡ true) ↔ (IsPort p (length tree.ports) × Passes tree p)

-- the invariant of an edge in memory: also the set of passing ports
pub record IsEdge (e : Edge) (passing : ℕ) : Type 0 where
  pub keeps : KeepsEdge e
  pub exact : ArePassing e.tree passing
