-- The routes that an edge originates and the stations that it has learnt: they match each other, and each event changes
-- both.
use Rattle.std.specs.Prelude.{◌≡◌, ℕ, zero, suc, ◌+◌, ◌≤◌, ◌^◌, ◌↔◌, Bool, true, false, Option, Some, None, IsSome}
use Rattle.std.specs.Prelude.{List, [], ◌∷◌, Contains, slice_get, length, if◌then◌else◌}
use Rattle.std.specs.Option.{option_map}
use Rattle.std.specs.FinMap.{len}
use Rattle.route_wire.specs.declared.update.Ip.{Ip}
use Rattle.route_wire.specs.declared.update.Key.{Key}
use Rattle.route_wire.specs.declared.update.Key.TheVariants.{Flood, Mac}
use Rattle.route_wire.specs.declared.update.Advert.{Advert}
use Rattle.route_wire.specs.declared.update.Content.{Content}
use Rattle.route_wire.specs.declared.update.Content.TheVariants.{Withdrawn, Advert as Advertised}
use Rattle.route_wire.specs.Fields.{Fields}
use Rattle.ether_wire.specs.Ports.{place_of_port}
use Rattle.mac_arena.specs.declared.station.Station.{Station}
use Rattle.mac_arena.specs.declared.station.Entry.{Entry}
use Rattle.mac_arena.specs.declared.table.Learnt.TheVariants.{New}
use Rattle.mac_arena.specs.Learning.{Learning, entry_at, is_pinned, after_learn, learnt_of, after_pin as pinned_on}
use Rattle.mac_arena.specs.Learning.{after_removal as gone, stations_at}
use Rattle.mac_arena.specs.ListsName.{ListsName}
use Rattle.ev_claims.specs.Speaker.{Speaker, KeepsNumbers, own_advert, is_at, is_beaten, after_originating}
use Rattle.ev_claims.specs.Speaker.{after_importing}
use Rattle.ev_claims.specs.Speaker.{after_importing_own, after_announcing}

-- The ports are given by the VNI of each, port 1 first; the VNIs are those that the edge serves.
pub record LocalRoutes : Type 0 where
  pub speaker : Speaker
  pub learned : Learning
  pub ports : List ℕ
  pub vnis : List ℕ

abbrev pub routes_of : Speaker → Learning → List ℕ → List ℕ → LocalRoutes
routes_of speaker learned ports vnis = record { speaker = speaker; learned = learned; ports = ports; vnis = vnis }

-- the key under which an edge advertises a station: it has no IP address
abbrev pub key_of : Station → Key
key_of s = Mac s.vni s.mac None

abbrev pub station_of : Key → Option Station
station_of (Flood v) = None
station_of (Mac v m ip) = Some (record { vni = v; mac = m })

abbrev pub entries : LocalRoutes → ℕ
entries e = len e.learned.entries

-- how many stations the learning map has room for
abbrev pub capacity : LocalRoutes → ℕ
capacity e = length e.learned.places

-- how many stations are at a port, learnt or pinned
abbrev pub stations_on : LocalRoutes → ℕ → ℕ
stations_on e port = length (stations_at e.learned.ports (place_of_port port))

-- the VNI that a port belongs to, counted from 1
abbrev pub vni_at : List ℕ → ℕ → Option ℕ
vni_at ports zero = None
vni_at ports (suc l) = slice_get ports l

abbrev pub is_member : List ℕ → ℕ → ℕ → Bool
is_member ports vni port = is_at (vni_at ports port) vni

-- The learning map and the own registers match: the learnt stations are those that the edge advertises, and the pinned
-- ones those that it advertises as static; none is advertised with an IP address; each station is at a port of its VNI;
-- the edge is on the flood lists of exactly its VNIs. The learning map fits, and the counter leaves a number below 2^64
-- for each withdrawal that may come.
pub record KeepsRoutes (e : LocalRoutes) : Type 0 where
  pub kinds : (s : Station) → option_map (λ (x : Entry). x.pinned) (entry_at e.learned s)
      ≡ option_map (λ (a : Advert). a.is_static) (own_advert e.speaker (key_of s))
  pub bare : (s : Station) (ip : Ip) → own_advert e.speaker (Mac s.vni s.mac (Some ip)) ≡ None
  pub ports : (s : Station) (x : Entry) → entry_at e.learned s ≡ Some x → vni_at e.ports x.port ≡ Some s.vni
  pub floods : (v : ℕ) → IsSome (own_advert e.speaker (Flood v)) ↔ Contains e.vnis v
  pub fits : entries e ≤ capacity e
  pub small : capacity e ≤ 65536
  pub left : e.speaker.counter + entries e ≤ 2 ^ 63 + capacity e
  pub lists : length e.learned.ports ≡ length e.ports
  pub few : length e.ports ≤ 64

-- all that is kept: the lists of the learning map name it, too
pub record AreGood (e : LocalRoutes) : Type 0 where
  pub routes : KeepsRoutes e
  pub numbers : KeepsNumbers e.speaker
  pub lists : ListsName e.learned

-- ---- a station comes

-- a station that isn't static; the route has no second label
abbrev pub moving : ℕ → Content
moving n = Advertised (record { is_static = false; sequence = n; label2 = None })

-- a station that can't move
abbrev pub fixed : Content
fixed = Advertised (record { is_static = true; sequence = 0; label2 = None })

-- a new station is learnt on a port at a second, and advertised with a sequence number
abbrev pub after_advert : LocalRoutes → Station → ℕ → ℕ → ℕ → LocalRoutes
after_advert e s port second n = record e {
  learned = after_learn e.learned s port second New;
  speaker = after_originating e.speaker (key_of s) (moving n);
}

-- a learnt station sends again, on the same port or on another; no update is made
abbrev pub after_refresh : LocalRoutes → Station → ℕ → ℕ → LocalRoutes
after_refresh e s port second = record e { learned = after_learn e.learned s port second (learnt_of e.learned s port) }

-- the station is pinned on a port, learnt or not, and advertised as static
abbrev pub after_pin : LocalRoutes → Station → ℕ → LocalRoutes
after_pin e s port = record e {
  learned = pinned_on e.learned s port;
  speaker = after_originating e.speaker (key_of s)
      fixed;
}

-- a pinned station is pinned on another port; no update is made
abbrev pub after_shift : LocalRoutes → Station → ℕ → LocalRoutes
after_shift e s port = record e { learned = pinned_on e.learned s port }

-- ---- stations go

-- the station is taken out and withdrawn
abbrev pub after_removal : LocalRoutes → Station → LocalRoutes
after_removal e s = record e { learned = gone e.learned s; speaker = after_originating e.speaker (key_of s) Withdrawn }

-- the stations in this order
abbrev pub after_removals : LocalRoutes → List Station → LocalRoutes
after_removals e [] = e
after_removals e (s ∷ ss) = after_removals (after_removal e s) ss

-- ---- updates come

abbrev pub after_update : LocalRoutes → Fields → LocalRoutes
after_update e u = record e { speaker = after_importing e.speaker u }

-- an own update
abbrev pub after_own : LocalRoutes → Fields → LocalRoutes
after_own e u = record e { speaker = after_importing_own e.speaker u }

abbrev pub is_lost : LocalRoutes → Station → Bool
is_lost e s = is_beaten e.speaker s.vni s.mac

abbrev pub after_losing_at : LocalRoutes → Station → LocalRoutes
after_losing_at e s = if is_lost e s then after_removal e s else e

abbrev pub after_losing : LocalRoutes → Key → LocalRoutes
after_losing e (Flood v) = e
after_losing e (Mac v m ip) = after_losing_at e (record { vni = v; mac = m })

-- another's update: a station that it takes from the edge is withdrawn in the same step
abbrev pub after_take : LocalRoutes → Fields → LocalRoutes
after_take e u = after_losing (after_update e u) u.register.key

abbrev pub lost_at : LocalRoutes → Station → Option Entry
lost_at e s = if is_lost e s then entry_at e.learned s else None

abbrev pub lost_entry : LocalRoutes → Key → Option Entry
lost_entry e (Flood v) = None
lost_entry e (Mac v m ip) = lost_at e (record { vni = v; mac = m })

-- whether another's update takes a pinned station from the edge
abbrev pub loses_pinned : LocalRoutes → Fields → Bool
loses_pinned e u = is_pinned (lost_entry (after_update e u) u.register.key)

-- ---- announcing

abbrev pub after_announcement : LocalRoutes → LocalRoutes
after_announcement e = record e { speaker = after_announcing e.speaker }
