-- Two edges with one VNI as they are opened: the laws' first premise can be met.
use Rattle.std.proofs.Common.{◌≡◌, ◌≤◌, ◌==◌, ◌&&◌, ℕ, zero, suc, true, false, Some, None, List, [], ◌∷◌, refl, sym, ap}
use Rattle.std.proofs.Common.{subst, ◌∙◌, eqb, arith, lit<, lit≤, ◌++◌}
use Rattle.std.specs.Prelude.{Contains, is_none, slice_get, slice_index_or, nat_lt}
use Rattle.std.specs.List.{IsDistinct}
use Rattle.std.proofs.lemmas.Bool.Decides.{nat_tests}
use Rattle.std.proofs.lemmas.List.Sorted.{IsPermutation-refl}
use Rattle.std.specs.FinMap.{empty, get-empty}
use Rattle.route_wire.specs.declared.update.Key.TheVariants.{Flood}
use Rattle.route_wire.specs.declared.update.Content.TheVariants.{Advert as Advertised}
use Rattle.route_wire.specs.Fields.{flood_advert}
use Rattle.mac_arena.specs.declared.station.Station.{Station}
use Rattle.mac_arena.specs.declared.station.Entry.{Entry}
use Rattle.mac_arena.specs.Station.{station_cmp}
use Rattle.mac_arena.specs.Learning.{Learning, entry_at, nothing_learnt, stations_at}
use Rattle.mac_arena.specs.ListsName.{ListsName, ages}
use Rattle.idx_links.specs.Links.{has}
use Rattle.rstp_state.specs.declared.start.Settings.{Settings}
use Rattle.rstp_run.specs.Events.{start}
use Rattle.ev_claims.specs.Speaker.{Speaker, after_originating, silent}
use Rattle.ev_claims.specs.LocalRoutes.{LocalRoutes}
use Rattle.ev_claims.specs.Opening as routes
use Rattle.ev_claims.proofs.Hearing.{silent_speaker}
use Rattle.ev_claims.proofs.Numbers.{said_numbers}
use Rattle.ev_claims.proofs.Opened.{opened_routes}
use Rattle.ev_edge.specs.declared.config.PortConfig.{PortConfig}
use Rattle.ev_edge.specs.declared.config.EdgeConfig.{EdgeConfig}
use Rattle.ev_edge.specs.Config.{IsConfig, settings_of}
use Rattle.ev_edge.specs.Edge.{Edge, IsGoodEdge}
use Rattle.ev_edge.specs.Opening.{IsOpening, start_of}
use Rattle.ev_edge.specs.declared.limits.Quota.{Quota}
use Rattle.ev_edge.specs.declared.storms.Storm.{Storm}
use Rattle.ev_edge.specs.Limits.{no_limits, quotas_of}
use Rattle.ev_edge.specs.Storms.{storms_of}
use Rattle.ev_edge.proofs.Opened as edge
use Rattle.ev_edge.proofs.Quotas.{opened_kept}
use Rattle.ev_fabric.specs.Fabric.{Fabric}
use Rattle.ev_fabric.specs.Opening.{AreConfigs, IsStart, ListsAll}
use Rattle.ev_fabric.specs.Witnesses.{FabricOpens}
use Rattle.ev_fabric.proofs.Opened.{start_sound}

-- ---- the configurations of the edges

-- a port that leads to no bridge
abbrev pub port_of : PortConfig
port_of = record {
  vni = 5001;
  settings = record {
    priority = 128;
    cost = 20000;
    admin_edge = true;
    auto_edge = false;
    point_to_point = true;
  };
  limits = no_limits;
}

-- the quotas of two such ports
abbrev pub unlimited : List Quota
unlimited = quotas_of (port_of ∷ port_of ∷ [])

-- and their storm limits
abbrev pub no_storms : List Storm
no_storms = storms_of (port_of ∷ port_of ∷ [])

abbrev pub listeners : List ℕ
listeners = 0x0a000001 ∷ 0x0a000002 ∷ 0x0a000003 ∷ []

-- The edge of this address has two ports of VNI 5001, room for one station, and accepts updates from 10.0.0.1, 10.0.0.2
-- and 10.0.0.3.
abbrev pub config_of : Settings → ℕ → EdgeConfig
config_of tree address = record {
  address = address;
  incarnation = 0;
  originators = record { items = listeners };
  vnis = record { items = 5001 ∷ [] };
  tree = tree;
  ageing = 300;
  capacity = 1;
  buckets = 1;
  salt = 0;
  ports = record { items = port_of ∷ port_of ∷ [] };
}

pub all_differ : IsDistinct eqb listeners
unfolding IsDistinct
all_differ = ((refl, (refl, tt)), ((refl, tt), (tt, tt)))

abbrev pub addresses : List ℕ
addresses = 0x0a000001 ∷ 0x0a000002 ∷ []

pub differ : IsDistinct eqb addresses
unfolding IsDistinct
differ = ((refl, tt), (tt, tt))

pub two_listen : (o : ℕ) → Contains addresses o → Contains listeners o
two_listen o (zero, l, e) = (zero, lit< tt, e)
two_listen o (suc zero, l, e) = (suc zero, lit< tt, e)
two_listen o (suc (suc n), l, e) = absurd (omega arith)

pub one_network : IsDistinct eqb (5001 ∷ [])
unfolding IsDistinct
one_network = (tt, tt)

pub served : (v : ℕ) → Contains (5001 ∷ 5001 ∷ []) v → Contains (5001 ∷ []) v
served v (zero, l, e) = (zero, lit< tt, e)
served v (suc zero, l, e) = (zero, lit< tt, e)
served v (suc (suc n), l, e) = absurd (omega arith)

pub fits : (tree : Settings) (address : ℕ) → 1 ≤ tree.hello → Contains listeners address → IsConfig
    (config_of tree address)
fits tree address hello listed = record {
  originators = record { some = lit< tt; few = lit≤ tt; distinct = all_differ };
  listed = listed;
  distinct = one_network;
  some_port = lit≤ tt;
  served = served;
  some_place = lit≤ tt;
  places = lit≤ tt;
  some_bucket = lit≤ tt;
  buckets = lit≤ tt;
  hello = hello;
}

abbrev pub configs_of : Settings → List EdgeConfig
configs_of tree = config_of tree 0x0a000001 ∷ config_of tree 0x0a000002 ∷ []

pub pushed : (xs ys new : List EdgeConfig) (c : EdgeConfig) → new ≡ xs ++ c ∷ [] → xs ≡ ys → new ≡ ys ++ c ∷ []
pushed xs ys new c e p = e ∙ λ i. p i ++ c ∷ []

-- a property of two or three elements holds for each element of their list
pub each : (P : EdgeConfig → Type 0) (x y : EdgeConfig) → P x → P y → (c : EdgeConfig) → Contains (x ∷ y ∷ []) c → P c
each P x y h k c (zero, l, e) = rw e at h
each P x y h k c (suc zero, l, e) = rw e at k
each P x y h k c (suc (suc n), l, e) = absurd (omega arith)

pub each_of_three : (P : EdgeConfig → Type 0) (x y z : EdgeConfig) → P x → P y → P z → (c : EdgeConfig)
    → Contains (x ∷ y ∷ z ∷ []) c → P c
each_of_three P x y z h k m c (zero, l, e) = rw e at h
each_of_three P x y z h k m c (suc n, l, e) = each P y z k m c (n, omega arith, e)

pub are_configs : (tree : Settings) → 1 ≤ tree.hello → AreConfigs (configs_of tree)
are_configs tree hello = record {
  some = lit< tt;
  few = lit≤ tt;
  apart = differ;
  configs = each IsConfig (config_of tree 0x0a000001) (config_of tree 0x0a000002)
      (fits tree 0x0a000001 hello (zero, lit< tt, refl)) (fits tree 0x0a000002 hello (suc zero, lit< tt, refl));
  listed = each (ListsAll addresses) (config_of tree 0x0a000001) (config_of tree 0x0a000002) two_listen two_listen;
}

-- ---- the edges

abbrev pub nobody_learnt : Learning
nobody_learnt = nothing_learnt 1 2 1 0

abbrev pub opened_speaker : ℕ → Speaker
opened_speaker address = after_originating (silent address 0 listeners) (Flood 5001) (Advertised flood_advert)

abbrev pub opened_routes_of : ℕ → LocalRoutes
opened_routes_of address = record {
  speaker = opened_speaker address;
  learned = nobody_learnt;
  ports = 5001 ∷ 5001 ∷ [];
  vnis = 5001 ∷ [];
}

abbrev pub edge_of : Settings → ℕ → Edge
edge_of tree address = record {
  routes = opened_routes_of address;
  clock = 0;
  ageing = 300;
  tree = start tree (settings_of (port_of ∷ port_of ∷ []));
  windows = empty;
  away = [];
  quotas = unlimited;
  storms = no_storms;
}

abbrev pub fabric_of : Settings → Fabric
fabric_of tree = record {
  edges = edge_of tree 0x0a000001 ∷ edge_of tree 0x0a000002 ∷ [];
  configs = configs_of tree;
  pool = [];
}

opens_routes : (tree : Settings) (address : ℕ) → routes.IsOpening (start_of (config_of tree address))
    (opened_routes_of address)
opens_routes tree address = record {
  vnis = IsPermutation-refl (5001 ∷ []);
  ascending = λ k d from within. absurd (omega arith);
  speaker = refl;
  learned = refl;
  ports = refl;
}

pub opens : (tree : Settings) (address : ℕ) → IsOpening (config_of tree address) (edge_of tree address)
opens tree address = record {
  routes = opens_routes tree address;
  clock = refl;
  ageing = refl;
  tree = refl;
  windows = refl;
  away = refl;
  quotas = refl;
  storms = refl;
}

-- ---- they are good

none : (s : Station) → entry_at nobody_learnt s ≡ None
none s = get-empty {X = Entry} station_cmp s

no_entry : {A : Type 0} (s : Station) {x : Entry} → entry_at nobody_learnt s ≡ Some x → A
no_entry s {x} at = let e : None ≡ Some x = sym (none s) ∙ at in let no : ⊥ = cc in absurd no

no_chain : (b : ℕ) → stations_at nobody_learnt.chains b ≡ []
no_chain zero = refl
no_chain (suc b) = refl

no_port : (l : ℕ) → stations_at nobody_learnt.ports l ≡ []
no_port zero = refl
no_port (suc zero) = refl
no_port (suc (suc l)) = refl

no_place : (n : ℕ) {s : Station} → slice_index_or nobody_learnt.places n None ≡ Some s → ⊥
no_place zero at = cc
no_place (suc n) at = cc

free : (n : ℕ) → has nobody_learnt.free n ≡ (nat_lt n 1 && is_none (slice_index_or nobody_learnt.places n None))
free zero = refl
free (suc n) =
    let other : (0 == suc n) ≡ false = grind (arith, nat_tests) in
    let past : nat_lt (suc n) 1 ≡ false = grind (arith, nat_tests) in
    rw other (sym (rw past))

lists_name : ListsName nobody_learnt
lists_name = record {
  chains = λ b s. rw (no_chain b) (sym (rw (none s)));
  chains_once = λ b. rw (no_chain b) tt;
  ports = λ l s. rw (no_port l) (sym (rw (none s)));
  ports_once = λ l. rw (no_port l) tt;
  ageing = λ s. sym (ap ages (none s));
  ageing_once = tt;
  rises = tt;
  pinned_at_zero = λ s x at pinned. no_entry s at;
  placed = λ s x at. no_entry s at;
  known = λ n s at. absurd (no_place n at);
  one_place = λ n m s at_n at_m. absurd (no_place n at_n);
  free = free;
  free_once = (refl, tt);
}

pub good : (tree : Settings) (address : ℕ) → Contains listeners address → IsGoodEdge (edge_of tree address)
good tree address listed = record {
  routes = record {
    routes = opened_routes address 0 listeners (5001 ∷ []) (5001 ∷ 5001 ∷ []) 1 1 0 (lit≤ tt) (lit≤ tt) (lit≤ tt);
    numbers = said_numbers (silent address 0 listeners) (Flood 5001) (Advertised flood_advert)
        (silent_speaker address 0 listeners listed).numbers;
    lists = lists_name;
  };
  keeps = (edge.opened (start_of (config_of tree address)) (opened_routes_of address) tree
      (settings_of (port_of ∷ port_of ∷ [])) 300 (start tree (settings_of (port_of ∷ port_of ∷ [])))
      (record { windows = empty; places = [] }) unlimited no_storms (opens_routes tree address) refl refl served
      (lit< tt) (opened_kept (port_of ∷ port_of ∷ []))).keeps;
}

-- ---- the fabric

pub is_start : (tree : Settings) → IsStart (configs_of tree) (fabric_of tree)
is_start tree = record {
  configs = refl;
  opened = record { count = refl; opened = opened_at; good = good_at };
  quiet = refl;
}
  where
    opened_at : (i : ℕ) (c : EdgeConfig) (a : Edge) → slice_get (configs_of tree) i ≡ Some c
        → slice_get (fabric_of tree).edges i ≡ Some a → IsOpening c a
    opened_at zero c a at_c at_a = let p : config_of tree 0x0a000001 ≡ c = cc in
        let q : edge_of tree 0x0a000001 ≡ a = cc in subst (λ d. IsOpening d a) p
        (subst (IsOpening (config_of tree 0x0a000001)) q (opens tree 0x0a000001))
    opened_at (suc zero) c a at_c at_a = let p : config_of tree 0x0a000002 ≡ c = cc in
        let q : edge_of tree 0x0a000002 ≡ a = cc in subst (λ d. IsOpening d a) p
        (subst (IsOpening (config_of tree 0x0a000002)) q (opens tree 0x0a000002))
    opened_at (suc (suc i)) c a at_c at_a = let e : ⊥ = cc in absurd e

    good_at : (i : ℕ) (a : Edge) → slice_get (fabric_of tree).edges i ≡ Some a → IsGoodEdge a
    good_at zero a at = let q : edge_of tree 0x0a000001 ≡ a = cc in
        subst IsGoodEdge q (good tree 0x0a000001 (zero, lit< tt, refl))
    good_at (suc zero) a at = let q : edge_of tree 0x0a000002 ≡ a = cc in
        subst IsGoodEdge q (good tree 0x0a000002 (suc zero, lit< tt, refl))
    good_at (suc (suc i)) a at = let e : ⊥ = cc in absurd e

abbrev usual : Settings
usual = record { identifier = 0x8000000000000001; hello = 2; max_age = 20; forward_delay = 15; hold = 6 }

pub a_fabric_opens : FabricOpens
a_fabric_opens = (
  configs_of usual,
  fabric_of usual,
  are_configs usual (lit≤ tt),
  is_start usual,
  lit≤ tt,
  start_sound (configs_of usual) (fabric_of usual) (are_configs usual (lit≤ tt)) (is_start usual),
)
