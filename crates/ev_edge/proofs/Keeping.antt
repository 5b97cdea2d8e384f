-- An edge stays good when its local routes change.
use Rattle.std.proofs.Common.{◌≡◌, ℕ, ◌+◌, ◌≤◌, ◌^◌, Bool, true, false, cond, Result, Ok, Err, List, [], ◌∷◌, length}
use Rattle.std.proofs.Common.{refl, sym, ap, ◌∙◌, arith}
use Rattle.std.specs.Prelude.{OnOk, OnErr, nat_le, ◌==◌, ◌-◌, filter}
use Rattle.std.proofs.lemmas.Bool.Decides.{nat_tests}
use Rattle.ether_wire.specs.Addr.{is_group}
use Rattle.route_wire.specs.declared.update.Key.{Key}
use Rattle.route_wire.specs.declared.update.Key.TheVariants.{Flood, Mac}
use Rattle.route_wire.specs.Fields.{Fields}
use Rattle.route_join.proofs.Merging.{same_listeners}
use Rattle.mac_arena.specs.declared.station.Station.{Station}
use Rattle.mac_arena.proofs.Looking.{learn_entry, pin_entry}
use Rattle.mac_arena.proofs.Values.{latest_learn, latest_pin, latest_later, chains_learn, chains_pin}
use Rattle.mac_arena.specs.Learning.{learnt_of}
use Rattle.ev_claims.specs.LocalRoutes.{LocalRoutes, after_removals, after_removal, after_update, after_losing}
use Rattle.ev_claims.specs.LocalRoutes.{after_take, after_own}
use Rattle.ev_claims.specs.Speaker.{is_returning}
use Rattle.ev_tunnel.specs.Decision.{is_away}
use Rattle.ev_claims.specs.LocalRoutes.{after_refresh, after_shift, after_announcement, is_lost}
use Rattle.ev_edge.specs.declared.storms.Storm.{Storm}
use Rattle.ev_edge.specs.Edge.{Edge, IsEdge, AreListed, table_of}
use Rattle.std.specs.FinMap.{FinMap}
use Rattle.std.proofs.lemmas.Bool.{cases_Bool}
use Rattle.std.proofs.Common.{inl, inr}
use Rattle.mac_arena.specs.Station.{station_cmp}
use Rattle.ev_mobility.specs.declared.window.Window.{Window}
use Rattle.rstp_run.specs.Rules.{Tree}
use Rattle.ev_claims.specs.Leaving.{after_flush, due_in, flushed_in}
use Rattle.ev_edge.specs.Edge.{ArePassing}
use Rattle.ev_edge.specs.Bridging.{next_second, aged}
use Rattle.ev_edge.specs.declared.limits.Quota.{Quota}
use Rattle.ev_edge.specs.Limits.{AreKept}
use Rattle.ev_edge.proofs.Quotas.{later_kept}
use Rattle.ev_edge.proofs.Owning.{Holds, changed_individual, some_bucket, removals_hold}

pub holds_of : {e : Edge} {passing : ℕ} → IsEdge e passing → Holds e.routes e.clock
holds_of h = record {
  owns = h.keeps.owns;
  latest = h.keeps.latest;
  individual = h.keeps.individual;
  served = h.keeps.served;
  buckets = h.keeps.buckets;
}

-- ---- the same ports
pub removals_ports : (c : LocalRoutes) (ss : List Station) → (after_removals c ss).ports ≡ c.ports
removals_ports c [] = refl
removals_ports c (s ∷ ss) = removals_ports (after_removal c s) ss

pub taken_ports : (c : LocalRoutes) (u : Fields) → (after_take c u).ports ≡ c.ports
taken_ports c u = go u.register.key
  where
    pick : (s : Station) (b : Bool) → (cond b (after_removal (after_update c u) s) (after_update c u)).ports ≡ c.ports
    pick s true = refl
    pick s false = refl

    go : (k : Key) → (after_losing (after_update c u) k).ports ≡ c.ports
    go (Flood v) = refl
    go (Mac v m ip) = pick (record { vni = v; mac = m }) (is_lost (after_update c u) (record { vni = v; mac = m }))

-- ---- the same originators

-- the same originators are listed
abbrev pub ListsAs : LocalRoutes → LocalRoutes → Type 0
ListsAs c d = c.speaker.table.originators ≡ d.speaker.table.originators

pub removals_list : (c : LocalRoutes) (ss : List Station) → ListsAs (after_removals c ss) c
removals_list c [] = refl
removals_list c (s ∷ ss) = removals_list (after_removal c s) ss

pub update_lists : (c : LocalRoutes) (u : Fields) → ListsAs (after_update c u) c
update_lists c u = same_listeners c.speaker.table u

pub taken_list : (c : LocalRoutes) (u : Fields) → ListsAs (after_take c u) c
taken_list c u = go u.register.key ∙ update_lists c u
  where
    pick : (s : Station) (b : Bool) → ListsAs (cond b (after_removal (after_update c u) s) (after_update c u))
        (after_update c u)
    pick s true = refl
    pick s false = refl

    go : (k : Key) → ListsAs (after_losing (after_update c u) k) (after_update c u)
    go (Flood v) = refl
    go (Mac v m ip) = pick (record { vni = v; mac = m }) (is_lost (after_update c u) (record { vni = v; mac = m }))

pub own_list : (c : LocalRoutes) (u : Fields) → ListsAs (after_own c u) c
own_list c u = elim (cases_Bool (is_returning c.speaker u)) [
  | inl again ↦ rw again (update_lists c u)
  | inr new ↦ rw new (update_lists c u)
]

-- so those that are away are listed still
pub listed_still : (e : Edge) (c : LocalRoutes) → AreListed e.away (table_of e) → ListsAs c e.routes
    → AreListed e.away c.speaker.table
listed_still e c listed same = listed ∙ ap (filter (is_away e.away)) (sym same)

-- an edge by the parts of its invariant
is_edge : {x : Edge} {passing : ℕ} → Holds x.routes x.clock → length x.tree.ports ≡ length x.routes.ports
    → x.clock ≤ 2 ^ 63 → AreListed x.away (table_of x) → AreKept x.quotas x.clock → ArePassing x.tree passing
    → IsEdge x passing
is_edge holds ports early away quotas exact = record {
  keeps = record {
    owns = holds.owns;
    latest = holds.latest;
    individual = holds.individual;
    served = holds.served;
    buckets = holds.buckets;
    ports = ports;
    early = early;
    away = away;
    quotas = quotas;
  };
  exact = exact;
}

-- ---- other local routes
pub kept : {e : Edge} {passing : ℕ} {c d : LocalRoutes} → IsEdge e passing → d ≡ c → Holds c e.clock
    → c.ports ≡ e.routes.ports → ListsAs c e.routes → IsEdge (record e { routes = d }) passing
kept {e} {c = c} h is holds ports same = rw is (is_edge holds (h.keeps.ports ∙ sym (ap length ports)) h.keeps.early
    (listed_still e c h.keeps.away same) h.keeps.quotas h.exact)

pub either : {X E : Type 0} {e : Edge} {passing : ℕ} (c d : LocalRoutes) (r : Result X E) → IsEdge e passing
    → OnOk r (d ≡ c)
    → OnErr r (d ≡ e.routes) → Holds c e.clock → c.ports ≡ e.routes.ports → ListsAs c e.routes
    → IsEdge (record e { routes = d }) passing
either c d (Ok x) h ok err holds ports same = kept h ok holds ports same
either c d (Err x) h ok err holds ports same = kept h err (holds_of h) refl refl

pub refresh_holds : (c : LocalRoutes) (s : Station) (port second : ℕ) → is_group s.mac ≡ false → Holds c second
    → Holds (after_refresh c s port second) second
refresh_holds c s port second single h = record {
  owns = h.owns;
  latest = latest_learn c.learned s port second (learnt_of c.learned s port) h.latest;
  individual = changed_individual c.learned (after_refresh c s port second).learned s _
      (learn_entry c.learned s port second (learnt_of c.learned s port)) (λ some. single) h.individual;
  served = h.served;
  buckets = some_bucket c.learned (after_refresh c s port second).learned
      (chains_learn c.learned s port second (learnt_of c.learned s port)) h.buckets;
}

pub shift_holds : (c : LocalRoutes) (s : Station) (port second : ℕ) → is_group s.mac ≡ false → Holds c second
    → Holds (after_shift c s port) second
shift_holds c s port second single h = record {
  owns = h.owns;
  latest = latest_pin c.learned s port second h.latest;
  individual = changed_individual c.learned (after_shift c s port).learned s _ (pin_entry c.learned s port)
      (λ some. single) h.individual;
  served = h.served;
  buckets = some_bucket c.learned (after_shift c s port).learned (chains_pin c.learned s port) h.buckets;
}

-- an announcement
pub announced_holds : (c : LocalRoutes) (second : ℕ) → Holds c second → Holds (after_announcement c) second
announced_holds c second h = record {
  owns = h.owns;
  latest = h.latest;
  individual = h.individual;
  served = h.served;
  buckets = h.buckets;
}

-- other windows
pub other_windows : {e : Edge} {passing : ℕ} (windows : FinMap station_cmp Window) → IsEdge e passing
    → IsEdge (record e { windows = windows }) passing
other_windows windows h = is_edge (holds_of h) h.keeps.ports h.keeps.early h.keeps.away
    h.keeps.quotas h.exact

-- other quotas
pub other_quotas : {e : Edge} {passing : ℕ} (quotas : List Quota) → IsEdge e passing → AreKept quotas e.clock
    → IsEdge (record e { quotas = quotas }) passing
other_quotas quotas h kept = is_edge (holds_of h) h.keeps.ports h.keeps.early h.keeps.away kept
    h.exact

-- other counts of storms
pub other_storms : {e : Edge} {passing : ℕ} (storms : List Storm) → IsEdge e passing
    → IsEdge (record e { storms = storms }) passing
other_storms storms h = is_edge (holds_of h) h.keeps.ports h.keeps.early h.keeps.away
    h.keeps.quotas h.exact

-- other edges are away
pub other_away : {e : Edge} {passing : ℕ} (away : List ℕ) → IsEdge e passing → AreListed away (table_of e)
    → IsEdge (record e { away = away }) passing
other_away away h listed = is_edge (holds_of h) h.keeps.ports h.keeps.early listed h.keeps.quotas
    h.exact

-- ---- the bridge goes on
pub bridged : (e : Edge) (was passing clock : ℕ) (tree : Tree) (c d : LocalRoutes) → IsEdge e was
    → length tree.ports ≡ length e.tree.ports → ArePassing tree passing → e.clock ≤ clock → clock ≤ 2 ^ 63 → d ≡ c
    → Holds c clock → c.ports ≡ e.routes.ports → ListsAs c e.routes
    → IsEdge (record e { tree = tree; clock = clock; routes = d }) passing
bridged e was passing clock tree c d h size exact later early is holds ports same =
    rw is (is_edge holds (size ∙ h.keeps.ports ∙ sym (ap length ports)) early (listed_still e c h.keeps.away same)
    (later_kept e.quotas e.clock clock later h.keeps.quotas) exact)

pub second_early : (clock : ℕ) → clock ≤ 2 ^ 63 → (clock ≤ next_second clock) × (next_second clock ≤ 2 ^ 63)
second_early clock low = go (clock == 2 ^ 63) refl
  where
    go : (b : Bool) → (clock == 2 ^ 63) ≡ b → (clock ≤ cond b clock (clock + 1)) × (cond b clock (clock + 1) ≤ 2 ^ 63)
    go true e = (omega arith, low)
    go false e = (omega arith, grind (arith, nat_tests))

pub later_holds : (c : LocalRoutes) (second later : ℕ) → second ≤ later → Holds c second → Holds c later
later_holds c second later less h = record {
  owns = h.owns;
  latest = latest_later c.learned second later less h.latest;
  individual = h.individual;
  served = h.served;
  buckets = h.buckets;
}

pub flush_holds : (c : LocalRoutes) (set second : ℕ) → Holds c second → Holds (after_flush c set) second
flush_holds c set second h = removals_hold c (flushed_in c.learned set) second h

pub aged_holds : (c : LocalRoutes) (ageing clock : ℕ) → Holds c clock → Holds (aged c ageing clock) clock
aged_holds c ageing clock h = elim (cases_Bool (nat_le ageing clock)) [
  | inl late ↦ rw late (removals_hold c (due_in c.learned (clock - ageing)) clock h)
  | inr early ↦ rw early h
]

pub aged_ports : (c : LocalRoutes) (ageing clock : ℕ) → (aged c ageing clock).ports ≡ c.ports
aged_ports c ageing clock = elim (cases_Bool (nat_le ageing clock)) [
  | inl late ↦ rw late (removals_ports c (due_in c.learned (clock - ageing)))
  | inr early ↦ rw early
]

pub aged_list : (c : LocalRoutes) (ageing clock : ℕ) → ListsAs (aged c ageing clock) c
aged_list c ageing clock = elim (cases_Bool (nat_le ageing clock)) [
  | inl late ↦ rw late (removals_list c (due_in c.learned (clock - ageing)))
  | inr early ↦ rw early
]
