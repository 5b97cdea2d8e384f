-- An edge stays good at every event: a consequence of the relation of edge, event, answer and next edge.
use Rattle.std.proofs.Common.{◌≡◌, ◌≢◌, ℕ, ◌-◌, ◌<◌, ◌≤◌, ◌^◌, Bool, true, false, cond}
use Rattle.std.proofs.Common.{◌&&◌, Option, Some, None, Ok, List, [], ◌∷◌, length}
use Rattle.std.proofs.Common.{refl, sym, ap, ◌∙◌, arith}
use Rattle.std.specs.Prelude.{IsSome, is_some, nat_le, nat_lt}
use Rattle.std.specs.Option.{option_map}
use Rattle.std.proofs.lemmas.Bool.{false≢true}
use Rattle.std.proofs.lemmas.Bool.Decides.{nat_tests}
use Rattle.std.proofs.lemmas.Bool.{cases_Bool, or_right, and_parts}
use Rattle.std.proofs.lemmas.Option.{none-some}
use Rattle.std.proofs.Common.{inl, inr}
use Rattle.ether_wire.specs.Addr.{is_group}
use Rattle.ether_wire.specs.Ports.{ports_of}
use Rattle.route_wire.specs.declared.update.Key.{Key}
use Rattle.route_wire.specs.declared.update.Key.TheVariants.{Flood, Mac}
use Rattle.route_wire.specs.declared.update.Advert.{Advert}
use Rattle.route_wire.specs.declared.update.Content.TheVariants.{Withdrawn}
use Rattle.route_wire.specs.Fields.{Fields}
use Rattle.route_join.specs.Owner.{advert_of, advert_in}
use Rattle.route_join.specs.declared.table.Taken.TheVariants.{Known}
use Rattle.mac_arena.specs.declared.station.Station.{Station}
use Rattle.mac_arena.specs.declared.station.Entry.{Entry}
use Rattle.mac_arena.specs.declared.table.Learnt.TheVariants.{New}
use Rattle.mac_arena.specs.Station.{is_same}
use Rattle.mac_arena.specs.Learning.{Learning, entry_at, is_full, is_pinned, learnt_of, after_learn}
use Rattle.mac_arena.specs.Learning.{after_pin as pinned_on}
use Rattle.mac_arena.specs.ListsName.{ListsName, AreOnce, stands}
use Rattle.mac_arena.proofs.Entries.{eq_same}
use Rattle.mac_arena.proofs.Held.{learn_names, hear_names, pin_names, removal_names}
use Rattle.ev_claims.specs.Speaker.{Speaker, KeepsNumbers, own_advert, is_newest, is_ahead}
use Rattle.ev_claims.specs.Speaker.{is_spent as has_spent}
use Rattle.ev_claims.specs.Speaker.{is_returning, after_originating, after_importing, after_importing_own}
use Rattle.ev_claims.specs.LocalRoutes.{LocalRoutes, KeepsRoutes, key_of, moving, fixed, vni_at, is_lost}
use Rattle.ev_claims.specs.LocalRoutes.{after_advert}
use Rattle.ev_claims.specs.LocalRoutes.{after_refresh, after_pin, after_shift, after_removal, after_removals}
use Rattle.ev_claims.specs.LocalRoutes.{after_update}
use Rattle.ev_claims.specs.LocalRoutes.{after_losing, after_take, after_own, after_announcement}
use Rattle.ev_claims.specs.Leaving.{after_flush, after_ageing, due_in, flushed_in}
use Rattle.ev_claims.proofs.Numbers.{own_stays, said_numbers, heard_numbers}
use Rattle.ev_claims.proofs.Hearing.{dropped_contains, past_if_newest, earlier_numbers, unheard, refuted_is}
use Rattle.ev_claims.proofs.Keeping.{spoken_routes, advert_routes, refresh_routes, pin_routes, shift_routes}
use Rattle.ev_claims.proofs.Keeping.{removal_routes, own_routes, known_entry}
use Rattle.ev_claims.proofs.Learnt.{removal_there}
use Rattle.ev_claims.proofs.Lists.{based}
use Rattle.ev_claims.proofs.Changed.{ports_climb, flushed_once, due_once}
use Rattle.ev_claims.proofs.Leaving.{flush_known, age_known}
use Rattle.ev_edge.specs.Limits.{AreKept}
use Rattle.ev_edge.specs.Edge.{Edge, IsGoodEdge, AreListed, table_of}
use Rattle.ev_edge.proofs.Owning.{Holds, removal_holds, taken_holds}
use Rattle.ev_edge.proofs.Keeping.{refresh_holds, shift_holds, later_holds}
use Rattle.ev_edge.proofs.Places.{there_port}
use Rattle.ev_edge.proofs.Winning.{advert_holds, pin_holds}
use Rattle.ev_edge.proofs.Returning.{own_holds}
use Rattle.ev_mobility.specs.Seq.{seq_for}
use Rattle.ev_mobility.specs.declared.seq.Seq.TheVariants.{Next}
use Rattle.ev_edge.specs.Pinning.{is_static}
use Rattle.ev_edge.specs.Bridging.{aged}

-- the invariant of a good edge's local routes, at a second
pub record Keeps (c : LocalRoutes) (second : ℕ) : Type 0 where
  pub routes : KeepsRoutes c
  pub numbers : KeepsNumbers c.speaker
  pub lists : ListsName c.learned
  pub holds : Holds c second

pub keeps_of : (e : Edge) → IsGoodEdge e → Keeps e.routes e.clock
keeps_of e h = record {
  routes = h.routes.routes;
  numbers = h.routes.numbers;
  lists = h.routes.lists;
  holds = record {
    owns = h.keeps.owns;
    latest = h.keeps.latest;
    individual = h.keeps.individual;
    served = h.keeps.served;
    buckets = h.keeps.buckets;
  };
}

pub good_by : (e : Edge) → Keeps e.routes e.clock → length e.tree.ports ≡ length e.routes.ports → e.clock ≤ 2 ^ 63
    → AreListed e.away (table_of e) → AreKept e.quotas e.clock → IsGoodEdge e
good_by e k ports early away quotas = record {
  routes = record { routes = k.routes; numbers = k.numbers; lists = k.lists };
  keeps = record {
    owns = k.holds.owns;
    latest = k.holds.latest;
    individual = k.holds.individual;
    served = k.holds.served;
    buckets = k.holds.buckets;
    ports = ports;
    early = early;
    away = away;
    quotas = quotas;
  };
}

-- ---- ports

port_there : (c : LocalRoutes) (s : Station) (port : ℕ) → KeepsRoutes c → vni_at c.ports port ≡ Some s.vni
    → (0 < port) × (port - 1 < length c.learned.ports)
port_there c s port h is =
    let there = there_port c.ports port (ap is_some is) in
    let low = there.0 in
    let most = there.1 in
    let lists = h.lists in
    (omega (arith, low), omega (arith, low, most, lists))

-- ---- a station comes

new_answer : (t : Learning) (s : Station) (port : ℕ) → entry_at t s ≡ None → is_full t ≡ false
    → New ≡ learnt_of t s port
new_answer t s port none room = rw (none, room)

pub advert_keeps : (c : LocalRoutes) (s : Station) (port second n : ℕ) → Keeps c second → entry_at c.learned s ≡ None
    → is_full c.learned ≡ false → c.speaker.counter < 2 ^ 63 → vni_at c.ports port ≡ Some s.vni → is_group s.mac ≡ false
    → seq_for c.speaker.table c.speaker.address s.vni s.mac ≡ Next n → Keeps (after_advert c s port second n) second
advert_keeps c s port second n h none room number behind single next = record {
  routes = advert_routes c (after_learn c.learned s port second New) (after_originating c.speaker (key_of s) (moving n))
      s port
      second n New h.routes none room number behind refl (new_answer c.learned s port none room) refl;
  numbers = said_numbers c.speaker (key_of s) (moving n) h.numbers;
  lists = let at = port_there c s port h.routes behind in
      learn_names c.learned s port second h.lists h.holds.buckets (based c h.routes) none room at.0 at.1 h.holds.latest;
  holds = advert_holds c s port second n h.routes next single h.holds;
}

pub refresh_keeps : (c : LocalRoutes) (s : Station) (port second : ℕ) → Keeps c second → IsSome (entry_at c.learned s)
    → is_pinned (entry_at c.learned s) ≡ false → vni_at c.ports port ≡ Some s.vni → is_group s.mac ≡ false
    → Keeps (after_refresh c s port second) second
refresh_keeps c s port second h known loose behind single = record {
  routes = refresh_routes c (after_learn c.learned s port second (learnt_of c.learned s port)) s port second
      (learnt_of c.learned s port) h.routes known loose behind refl refl;
  numbers = h.numbers;
  lists = let at = port_there c s port h.routes behind in
      hear_names c.learned s port second h.lists h.holds.buckets (based c h.routes) at.0 at.1 h.holds.latest known;
  holds = refresh_holds c s port second single h.holds;
}

pub pin_keeps : (c : LocalRoutes) (s : Station) (port second : ℕ) → Keeps c second
    → (entry_at c.learned s ≡ None → is_full c.learned ≡ false) → c.speaker.counter < 2 ^ 63
    → vni_at c.ports port ≡ Some s.vni → is_group s.mac ≡ false
    → is_static (seq_for c.speaker.table c.speaker.address s.vni s.mac) ≡ false → Keeps (after_pin c s port) second
pin_keeps c s port second h room number behind single free = record {
  routes = pin_routes c (pinned_on c.learned s port) (after_originating c.speaker (key_of s) fixed) s port h.routes room
      number
      behind refl refl;
  numbers = said_numbers c.speaker (key_of s) fixed h.numbers;
  lists = let at = port_there c s port h.routes behind in
      pin_names c.learned s port h.lists h.holds.buckets (based c h.routes) at.0 at.1 room;
  holds = pin_holds c s port second h.routes free single h.holds;
}

pub shift_keeps : (c : LocalRoutes) (s : Station) (port second : ℕ) → Keeps c second
    → is_pinned (entry_at c.learned s) ≡ true → vni_at c.ports port ≡ Some s.vni → is_group s.mac ≡ false
    → Keeps (after_shift c s port) second
shift_keeps c s port second h pinned behind single = record {
  routes = shift_routes c (pinned_on c.learned s port) s port h.routes pinned behind refl;
  numbers = h.numbers;
  lists = let at = port_there c s port h.routes behind in
      pin_names c.learned s port h.lists h.holds.buckets (based c h.routes) at.0 at.1
      (known (entry_at c.learned s) pinned);
  holds = shift_holds c s port second single h.holds;
}
  where
    known : (o : Option Entry) → is_pinned o ≡ true → o ≡ None → is_full c.learned ≡ false
    known None is none = absurd (false≢true is)
    known (Some x) is none = cc

-- ---- stations go

pub removal_keeps : (c : LocalRoutes) (s : Station) (second : ℕ) → Keeps c second → IsSome (entry_at c.learned s)
    → Keeps (after_removal c s) second
removal_keeps c s second h there =
    let x = known_entry c s there in
    record {
      routes = removal_routes c s x.0 x.1 h.routes;
      numbers = said_numbers c.speaker (key_of s) Withdrawn h.numbers;
      lists = removal_names c.learned s h.lists h.holds.buckets (based c h.routes);
      holds = removal_holds c s second h.holds;
    }

pub removals_keep : (c : LocalRoutes) (ss : List Station) (second : ℕ) → Keeps c second → AreOnce ss
    → ((s : Station) → stands ss s ≡ true → IsSome (entry_at c.learned s)) → Keeps (after_removals c ss) second
removals_keep c [] second h once known = h
removals_keep c (s ∷ ss) second h once known = removals_keep (after_removal c s) ss second
    (removal_keeps c s second h (known s (rw (eq_same s s refl)))) once.1 (λ q on.
    rw (removal_there c.learned s q (λ same. false≢true (rw (same, once.0) at on)))
    (known q (or_right (is_same s q) (stands ss q) on)))

-- ---- by a flush, and by age

pub flush_keeps : (c : LocalRoutes) (set second : ℕ) → Keeps c second → Keeps (after_flush c set) second
flush_keeps c set second h = removals_keep c (flushed_in c.learned set) second h
    (flushed_once c.learned h.lists 0 (ports_of set) (ports_climb set)) (flush_known c set h.routes h.lists)

age_keeps : (c : LocalRoutes) (limit second : ℕ) → Keeps c second → Keeps (after_ageing c limit) second
age_keeps c limit second h = removals_keep c (due_in c.learned limit) second h
    (due_once c.learned limit c.learned.ageing h.lists.ageing_once) (age_known c.learned limit h.lists)

pub aged_keeps : (c : LocalRoutes) (ageing second : ℕ) → Keeps c second → Keeps (aged c ageing second) second
aged_keeps c ageing second h = elim (cases_Bool (nat_le ageing second)) [
  | inl late ↦ rw late (age_keeps c (second - ageing) second h)
  | inr early ↦ rw early h
]

pub later_keeps : (c : LocalRoutes) (second later : ℕ) → second ≤ later → Keeps c second → Keeps c later
later_keeps c second later less h = record {
  routes = h.routes;
  numbers = h.numbers;
  lists = h.lists;
  holds = later_holds c second later less h.holds;
}

-- ---- updates come

-- an advertised station is learnt
advert_known : (c : LocalRoutes) (s : Station) → KeepsRoutes c → is_some (own_advert c.speaker (key_of s)) ≡ true
    → IsSome (entry_at c.learned s)
advert_known c s h some = go (entry_at c.learned s) (own_advert c.speaker (key_of s)) (h.kinds s) some
  where
    go : (x : Option Entry) (y : Option Advert) → option_map (λ (x : Entry). x.pinned) x
        ≡ option_map (λ (a : Advert). a.is_static) y → is_some y ≡ true → IsSome x
    go (Some x) y same yes' = refl
    go None None same yes' = absurd (false≢true yes')
    go None (Some y) same yes' = absurd (none-some y.is_static same)

pub other_keeps : (c : LocalRoutes) (u : Fields) (second : ℕ) → u.register.originator ≢ c.speaker.address
    → Keeps c second
    → Keeps (after_take c u) second
other_keeps c u second other h = losing u.register.key (taken_holds c u second h.holds)
  where
    heard : KeepsRoutes (after_update c u)
    heard = spoken_routes c (after_importing c.speaker u) h.routes (λ k. ap advert_of (own_stays c.speaker u other k))
        h.routes.left

    told : KeepsNumbers (after_importing c.speaker u)
    told = heard_numbers c.speaker u other h.numbers

    pick : (s : Station) (b : Bool) → is_lost (after_update c u) s ≡ b
        → Holds (cond b (after_removal (after_update c u) s) (after_update c u)) second
        → Keeps (cond b (after_removal (after_update c u) s) (after_update c u)) second
    pick s false is holds = record { routes = heard; numbers = told; lists = h.lists; holds = holds }
    pick s true is holds =
        let known = advert_known (after_update c u) s heard
        (and_parts (is_some (own_advert (after_importing c.speaker u) (key_of s))) _ is).0 in
        let x = known_entry (after_update c u) s known in
        record {
          routes = removal_routes (after_update c u) s x.0 x.1 heard;
          numbers = said_numbers (after_importing c.speaker u) (key_of s) Withdrawn told;
          lists = removal_names c.learned s h.lists h.holds.buckets (based c h.routes);
          holds = holds;
        }

    losing : (k : Key) → Holds (after_losing (after_update c u) k) second
        → Keeps (after_losing (after_update c u) k) second
    losing (Flood v) holds = record { routes = heard; numbers = told; lists = h.lists; holds = holds }
    losing (Mac v m ip) holds = pick (record { vni = v; mac = m })
        (is_lost (after_update c u) (record { vni = v; mac = m })) refl holds

own_numbers : (e : Speaker) (u : Fields) → KeepsNumbers e → u.register.originator ≡ e.address → is_ahead e u ≡ false
    → KeepsNumbers (after_importing_own e u)
own_numbers e u n mine ahead = go (is_returning e u) refl
  where
    none : (past : Bool) (o : Option Advert) → past ≡ true → (past && is_some o) ≡ false → o ≡ None
    none true None p e = refl
    none true (Some a) p e = absurd (false≢true (sym e))
    none false o p e = absurd (false≢true p)

    quiet : (b : Bool) → is_newest e u ≡ b → is_returning e u ≡ false → KeepsNumbers (after_importing e u)
    quiet false newest is = rw (unheard e u newest) n
    quiet true newest is =
        let less = past_if_newest e u ahead newest in
        let past : nat_lt u.value.incarnation e.incarnation ≡ true = grind (arith, nat_tests) in
        let rest : (nat_lt u.value.incarnation e.incarnation && is_some (advert_in u.value.content)) ≡ false =
        sym (ap (λ b. b && (nat_lt u.value.incarnation e.incarnation && is_some (advert_in u.value.content)))
        newest) ∙ is in
        earlier_numbers e u n mine newest less (none (nat_lt u.value.incarnation e.incarnation)
        (advert_in u.value.content) past rest)

    go : (b : Bool) → is_returning e u ≡ b → KeepsNumbers
        (cond b (after_originating (after_importing e u) u.register.key Withdrawn) (after_importing e u))
    go true is = rw (refuted_is e u Withdrawn mine) (said_numbers e u.register.key Withdrawn n)
    go false is = quiet (is_newest e u) refl is

pub own_keeps : (c : LocalRoutes) (u : Fields) (second : ℕ) → u.register.originator ≡ c.speaker.address
    → is_ahead c.speaker u ≡ false → has_spent c.speaker u ≡ false → Keeps c second → Keeps (after_own c u) second
own_keeps c u second mine ahead spent h = record {
  routes = own_routes c (after_importing_own c.speaker u) u (Ok Known) mine h.numbers h.routes refl tt
      ((λ q. absurd cc), (λ t. absurd (false≢true (sym ahead ∙ t)))) (
        (λ q. absurd cc),
        (λ t. absurd (false≢true (sym spent ∙ t))),
      );
  numbers = own_numbers c.speaker u h.numbers mine ahead;
  lists = h.lists;
  holds = own_holds c u second h.numbers mine ahead h.holds;
}

-- an announcement says and learns nothing
pub announced_keeps : (c : LocalRoutes) (second : ℕ) → Keeps c second → Keeps (after_announcement c) second
announced_keeps c second h = record {
  routes = record {
    kinds = h.routes.kinds;
    bare = h.routes.bare;
    ports = h.routes.ports;
    floods = h.routes.floods;
    fits = h.routes.fits;
    small = h.routes.small;
    left = h.routes.left;
    lists = h.routes.lists;
    few = h.routes.few;
  };
  numbers = record {
    counted = h.numbers.counted;
    distinct = h.numbers.distinct;
    past = h.numbers.past;
    alive = h.numbers.alive;
    known = h.numbers.known;
    pending = λ r in'. h.numbers.pending r (dropped_contains c.speaker.pending r in');
  };
  lists = h.lists;
  holds = record {
    owns = h.holds.owns;
    latest = h.holds.latest;
    individual = h.holds.individual;
    served = h.holds.served;
    buckets = h.holds.buckets;
  };
}
