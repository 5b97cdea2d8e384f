-- The limits of ports: without limits nothing changes, no event changes a limit, and a port gets no more stations by
-- its frames than its limit allows.
use Rattle.std.proofs.Common.{◌≡◌, ◌⊎◌, inl, inr, ℕ, zero, suc, ◌+◌, ◌-◌, ◌<◌, ◌≤◌, Bool, true, false, cond, not, ◌&&◌}
use Rattle.std.proofs.Common.{eqb, Option, Some, None, Result, Ok, Err, List, [], ◌∷◌, ◌++◌, length, map, refl, sym, ap}
use Rattle.std.proofs.Common.{◌∙◌, arith}
use Rattle.std.specs.Prelude.{is_some, nat_le, slice_set}
use Rattle.std.proofs.Math.ListN.{get_or-map}
use Rattle.std.proofs.lemmas.Bool.{cases_Bool, false≢true, eq-eqb}
use Rattle.std.proofs.lemmas.List.{length-append}
use Rattle.ether_wire.specs.Addr.{is_group}
use Rattle.ether_wire.specs.Ports.{place_of_port}
use Rattle.route_wire.specs.declared.update.Key.{Key}
use Rattle.route_wire.specs.declared.update.Key.TheVariants.{Flood, Mac}
use Rattle.route_wire.specs.Fields.{Fields}
use Rattle.route_join.specs.Table.{is_listed}
use Rattle.mac_arena.specs.declared.station.Station.{Station}
use Rattle.mac_arena.specs.declared.station.Entry.{Entry}
use Rattle.mac_arena.specs.declared.table.Learnt.{Learnt}
use Rattle.mac_arena.specs.declared.table.Learnt.TheVariants.{New, Moved, Refreshed, Pinned, Full}
use Rattle.mac_arena.specs.Station.{is_same}
use Rattle.mac_arena.specs.Learning.{Learning, entry_at, is_full, is_pinned, stations_at, left, answer_of, learnt_of}
use Rattle.mac_arena.specs.Learning.{after_learn}
use Rattle.mac_arena.specs.Learning.{after_removal_at}
use Rattle.ev_mobility.specs.declared.alert.Alert.{Alert}
use Rattle.rstp_run.specs.declared.event.Event as tree
use Rattle.ev_claims.specs.LocalRoutes.{LocalRoutes, stations_on, vni_at, is_lost, after_removal, after_removals}
use Rattle.ev_claims.specs.LocalRoutes.{after_update, after_losing, after_take, after_own, after_announcement}
use Rattle.ev_claims.specs.Leaving.{after_flush, flushed_in, due_in}
use Rattle.ev_edge.specs.declared.arrival.Arrival.{Arrival}
use Rattle.ev_edge.specs.declared.arrival.Arrival.TheVariants.{Dropped, Message, Data}
use Rattle.ev_edge.specs.declared.event.Event.{Event}
use Rattle.ev_edge.specs.declared.event.Event.TheVariants as events
use Rattle.ev_edge.specs.declared.learning.Case.{Case}
use Rattle.ev_edge.specs.declared.learning.Case.TheVariants.{Leave, Refresh, Refuse, Freeze, Learn, Move}
use Rattle.ev_edge.specs.declared.limits.Quota.{Quota}
use Rattle.ev_edge.specs.declared.pinning.PinCase.{PinCase}
use Rattle.ev_edge.specs.declared.pinning.PinCase.TheVariants.{Keep, Shift, Deny, Pin}
use Rattle.ev_edge.specs.declared.refusal.EdgeRefusal.{EdgeRefusal}
use Rattle.ev_edge.specs.declared.refusal.Refusal.{Refusal}
use Rattle.ev_edge.specs.declared.reply.Reply.{Reply}
use Rattle.ev_edge.specs.Edge.{Edge, table_of, address_of}
use Rattle.ev_edge.specs.Limits.{no_limits, is_met, IsWithin, quota_in, quota_at, counting, with_counted}
use Rattle.ev_edge.specs.Learning.{limits_at, is_there, is_crowded, limited_new, limited}
use Rattle.ev_edge.specs.Learning.{case_of}
use Rattle.ev_edge.specs.Learning.{is_counted, quotas_with, refreshed, moved, learnt}
use Rattle.ev_edge.specs.Bridging.{aged, next_second}
use Rattle.ev_edge.specs.Pinning.{DoesPin, pin_case, refused_pin, after_unpin}
use Rattle.ev_edge.specs.Arrival.{frame_arrival, tunnel_arrival}
use Rattle.ev_edge.specs.Storms.{taking_on}
use Rattle.ev_edge.specs.Steps.{Steps, LearnsIf, FrameSteps, TunnelSteps, Bridges, BridgesAt, Seconds, Takes, Pins}
use Rattle.ev_edge.specs.Steps.{Marks}
use Rattle.ev_edge.specs.LimitLaws.{LimitsNothing, KeepsLimits, KeepsToStations, StationsAreFew, comes_at, is_pin}
use Rattle.ev_edge.specs.StormLaws.{floods, taken_at}
use Rattle.ev_edge.proofs.Cases.{learnt_by, or_refused}
use Rattle.ev_edge.proofs.Quotas.{met_above}
use Rattle.ev_edge.proofs.Places.{there_port}
use Rattle.ev_edge.proofs.Remaining.{data_port, steps_good}

-- ---- without limits

module _ (e : Edge) (s : Station) (port : ℕ) (h : limits_at e port ≡ no_limits) where
  new_free : (c : Case) → limited_new e s port c ≡ c
  new_free c = rw h

  free : (c : Case) → limited e s port c ≡ c
  free Leave = refl
  free Refresh = rw h
  free (Refuse alert) = refl
  free Freeze = new_free Freeze
  free Learn = new_free Learn
  free (Move n) = new_free (Move n)

pub limits_nothing : LimitsNothing
limits_nothing e s port h = (free e s port h (case_of e s), rw h)

-- ---- no event changes a limit

-- what counting doesn't change in a quota stays in all
pub same_in : {A : Type 0} (f : Quota → A) (qs : List Quota) (l : ℕ) (q : Quota) (n : ℕ)
    → f q ≡ f (quota_in qs l) → f (quota_in (slice_set qs l q) n) ≡ f (quota_in qs n)
same_in f [] l q n h = refl
same_in f (x ∷ xs) zero q zero h = h
same_in f (x ∷ xs) zero q (suc n) h = refl
same_in f (x ∷ xs) (suc l) q zero h = refl
same_in f (x ∷ xs) (suc l) q (suc n) h = same_in f xs l q n h

counted_limits : (e : Edge) (s : Station) (q p : ℕ) → (quota_at (quotas_with e s q) p).limits ≡ limits_at e p
counted_limits e s q p = elim (is_counted e s q) as
    (λ b. (quota_at (cond b (with_counted e.quotas q e.clock) e.quotas) p).limits ≡ limits_at e p) [
      | true ↦ same_in (λ (x : Quota). x.limits) e.quotas (place_of_port q) (counting (quota_at e.quotas q) e.clock)
          (place_of_port p) refl
      | false ↦ refl
    ]

-- ---- lists of stations

left_fewer : (s : Station) (xs : List Station) → length (left s xs) ≤ length xs
left_fewer s [] = omega arith
left_fewer s (x ∷ xs) = (let less = left_fewer s xs in elim (cases_Bool (is_same x s)) [
  | inl same ↦ rw same (omega arith)
  | inr other ↦ rw other (omega (arith, less))
])

left_at : (s : Station) (lists : List (List Station)) (k : ℕ)
    → stations_at (map (left s) lists) k ≡ left s (stations_at lists k)
left_at s lists k = get_or-map (left s) lists k []

set_at : (lists : List (List Station)) (l : ℕ) (ys : List Station) (k : ℕ)
    → ((k ≡ l) × (stations_at (slice_set lists l ys) k ≡ ys)) ⊎ (stations_at (slice_set lists l ys) k
    ≡ stations_at lists k)
set_at [] l ys k = inr refl
set_at (xs ∷ lists) zero ys zero = inl (refl, refl)
set_at (xs ∷ lists) zero ys (suc k) = inr refl
set_at (xs ∷ lists) (suc l) ys zero = inr refl
set_at (xs ∷ lists) (suc l) ys (suc k) = elim (set_at lists l ys k) [
  | inl at ↦ inl (ap suc at.0, at.1)
  | inr same ↦ inr same
]

-- ---- a station is learnt

-- the answer by which the station comes to the port
abbrev comes : Learnt → Bool
comes New = true
comes Moved = true
comes Refreshed = false
comes Pinned = false
comes Full = false

abbrev at_place : Learning → ℕ → ℕ
at_place t k = length (stations_at t.ports k)

-- another port gets no station, and the port one at most, if the station comes to it
record Grows (t u : Learning) (port k : ℕ) (a : Learnt) : Type 0 where
  here : k ≡ place_of_port port
  by : comes a ≡ true
  one : at_place u k ≤ at_place t (place_of_port port) + 1

-- the station joins the port's list, of lists that are no longer than before
joins : (t u : Learning) (s : Station) (port k : ℕ) (a : Learnt) (lists : List (List Station)) → comes a ≡ true
    → u.ports ≡ slice_set lists (place_of_port port) (stations_at lists (place_of_port port) ++ s ∷ [])
    → ((l : ℕ) → length (stations_at lists l) ≤ at_place t l) → (at_place u k ≤ at_place t k) ⊎ Grows t u port k a
joins t u s port k a lists by is less =
    elim (set_at lists (place_of_port port) (stations_at lists (place_of_port port) ++ s ∷ []) k) [
      | inl at ↦ inr (record {
        here = at.0;
        by = by;
        one = let few = less (place_of_port port) in
            rw (is, at.1, length-append (stations_at lists (place_of_port port)) (s ∷ [])) (omega (arith, few));
      })
      | inr same ↦ inl (rw (is, same) (less k))
    ]

joins_at : (t : Learning) (s : Station) (port second : ℕ) (a : Learnt) (k : ℕ)
    → (at_place (after_learn t s port second a) k ≤ at_place t k)
    ⊎ Grows t (after_learn t s port second a) port k a
joins_at t s port second New k = joins t _ s port k New t.ports refl refl (λ l. omega arith)
joins_at t s port second Moved k = joins t _ s port k Moved (map (left s) t.ports) refl refl
    (λ l. rw (left_at s t.ports l) (left_fewer s (stations_at t.ports l)))
joins_at t s port second Refreshed k = inl (omega arith)
joins_at t s port second Pinned k = inl (omega arith)
joins_at t s port second Full k = inl (omega arith)

-- a station that comes to the port wasn't there
comes_from : (o : Option Entry) (full : Bool) (port : ℕ) → comes (answer_of o full port) ≡ true
    → is_there o port ≡ false
comes_from None full port h = refl
comes_from (Some x) full port h = grind (arith, h)

-- ---- a port gets no more stations than its limit allows

-- none more, or at the port as many as the limit allows
abbrev Keeps : Edge → ℕ → ℕ → Edge → Type 0
Keeps e port p x =
    (stations_on x.routes p ≤ stations_on e.routes p)
    ⊎ ((port ≡ p) × IsWithin (limits_at e p).stations (stations_on x.routes p))

within : (limit : Option ℕ) (there : Bool) (before after : ℕ) → (is_met limit before && not there) ≡ false
    → there ≡ false → after ≤ before + 1 → IsWithin limit after
within limit there before after free away few = λ most is.
    let less = met_above limit before most (grind (arith, free, away)) is in omega (arith, less, few)

same_port : (port p : ℕ) → 0 < port → 0 < p → p - 1 ≡ port - 1 → port ≡ p
same_port port p some some' is = omega (arith, some, some', is)

-- the station comes to the port, or to none
came : (e : Edge) (s : Station) (port p : ℕ) (x : Edge) (a : Learnt) → 0 < port → 0 < p
    → is_crowded e s port ≡ false → (comes a ≡ true → is_there (entry_at e.routes.learned s) port ≡ false)
    → x.routes.learned ≡ after_learn e.routes.learned s port e.clock a → Keeps e port p x
came e s port p x a some some' place away is =
    elim (joins_at e.routes.learned s port e.clock a (place_of_port p)) [
      | inl few ↦ inl (rw is few)
      | inr grows ↦ let same = same_port port p some some' grows.here in inr (
        same,
        rw same at (within (limits_at e port).stations (is_there (entry_at e.routes.learned s) port)
            (stations_on e.routes port) (stations_on x.routes p) place (away grows.by) (rw is grows.one)),
      )
    ]

learnt_few : (e : Edge) (s : Station) (port p : ℕ) (told : Option Alert) (e' : Edge) (b : Bool) → 0 < port → 0 < p
    → LearnsIf b e s port told e' → Keeps e port p e'
learnt_few e s port p told e' b some some' h =
    learnt_by (Keeps e port p) e s port told e' (inl (omega arith))
    (λ heard. came e s port p (refreshed e s port) (learnt_of e.routes.learned s port) some some' heard.place
    (comes_from (entry_at e.routes.learned s) (is_full e.routes.learned) port) refl)
    (inl (omega arith))
    (λ new. came e s port p (learnt e s port 0) New some some' new.place
    (λ by. ap (λ o. is_there o port) new.none) refl)
    (λ n new. came e s port p (learnt (moved e s) s port n) New some some' new.place
    (λ by. ap (λ o. is_there o port) new.none) refl) b h

-- ---- stations that go

abbrev pub Fewer : LocalRoutes → LocalRoutes → Type 0
Fewer c d = (p : ℕ) → stations_on d p ≤ stations_on c p

removal_fewer : (c : LocalRoutes) (s : Station) → Fewer c (after_removal c s)
removal_fewer c s p = elim (entry_at c.learned s) as
    (λ o. at_place (after_removal_at c.learned s o) (place_of_port p) ≤ at_place c.learned (place_of_port p)) [
      | None ↦ omega arith
      | Some x ↦ rw (left_at s c.learned.ports (place_of_port p))
          (left_fewer s (stations_at c.learned.ports (place_of_port p)))
    ]

removals_fewer : (c : LocalRoutes) (ss : List Station) → Fewer c (after_removals c ss)
removals_fewer c [] p = omega arith
removals_fewer c (s ∷ ss) p = let first = removal_fewer c s p in let rest = removals_fewer (after_removal c s) ss p in
    omega (arith, first, rest)

aged_fewer : (c : LocalRoutes) (ageing clock : ℕ) → Fewer c (aged c ageing clock)
aged_fewer c ageing clock p = elim (cases_Bool (nat_le ageing clock)) [
  | inl late ↦ rw late (removals_fewer c (due_in c.learned (clock - ageing)) p)
  | inr early ↦ rw early (omega arith)
]

taken_fewer : (c : LocalRoutes) (u : Fields) → Fewer c (after_take c u)
taken_fewer c u p = go u.register.key
  where
    go : (k : Key) → stations_on (after_losing (after_update c u) k) p ≤ stations_on c p
    go (Flood v) = omega arith
    go (Mac v m ip) = (let s : Station = record { vni = v; mac = m } in
        elim (cases_Bool (is_lost (after_update c u) s)) [
          | inl lost ↦ rw lost (removal_fewer (after_update c u) s p)
          | inr kept ↦ rw kept (omega arith)
        ])

-- ---- events by which nothing is learnt

-- the quotas and storms stay, no time goes back, and no port has more stations than before
pub record Rests (e e' : Edge) : Type 0 where
  pub quotas : e'.quotas ≡ e.quotas
  pub storms : e'.storms ≡ e.storms
  pub later : e.clock ≤ e'.clock
  pub fewer : Fewer e.routes e'.routes

-- the edge is afterwards as this one
rests_as : {e : Edge} {x e' : Edge} → e' ≡ x → x.quotas ≡ e.quotas → x.storms ≡ e.storms → e.clock ≤ x.clock
    → Fewer e.routes x.routes → Rests e e'
rests_as is quotas storms later fewer = rw is (record {
  quotas = quotas;
  storms = storms;
  later = later;
  fewer = fewer;
})

same_rests : (e e' : Edge) → e' ≡ e → Rests e e'
same_rests e e' is = rests_as is refl refl (omega arith) (λ p. omega arith)

-- only the routes change
routes_rest : (e e' : Edge) (c : LocalRoutes) → Fewer e.routes c → e' ≡ record e { routes = c } → Rests e e'
routes_rest e e' c few is = rests_as is refl refl (omega arith) few

pub bridge_rests : (event : tree.Event) (e : Edge) (result : Result Reply Refusal) (e' : Edge)
    → Bridges event e result e' → Rests e e'
bridge_rests event e (Ok reply) e' h = rests_as h.after refl refl (omega arith)
    (removals_fewer e.routes (flushed_in e.routes.learned h.flush))
bridge_rests event e (Err r) e' h = absurd h

port_rests : (o : Option ℕ) (event : tree.Event) (e : Edge) (result : Result Reply Refusal) (e' : Edge)
    → BridgesAt o event e result e' → Rests e e'
port_rests None event e result e' h = same_rests e e' h.1
port_rests (Some vni) event e result e' h = bridge_rests event e result e' h

next_later : (clock : ℕ) → clock ≤ next_second clock
next_later clock = grind arith

second_rests : (e : Edge) (result : Result Reply Refusal) (e' : Edge) → Seconds e result e' → Rests e e'
second_rests e (Ok reply) e' h = rests_as h.after refl refl (next_later e.clock) (λ p.
    let first = removals_fewer e.routes (flushed_in e.routes.learned h.flush) p in
    let rest = aged_fewer (after_flush e.routes h.flush) e.ageing (next_second e.clock) p in
    omega (arith, first, rest))
second_rests e (Err r) e' h = absurd h

tunnel_rests : (a : Result Arrival Refusal) (e : Edge) (result : Result Reply Refusal) (e' : Edge)
    → TunnelSteps a e result e' → Rests e e'
tunnel_rests (Err r) e result e' h = same_rests e e' h.1
tunnel_rests (Ok Dropped) e result e' h = same_rests e e' h.1
tunnel_rests (Ok (Message b)) e result e' h = absurd h
tunnel_rests (Ok (Data vni destination source)) e (Ok reply) e' h = same_rests e e' h.2
tunnel_rests (Ok (Data vni destination source)) e (Err r) e' h = absurd h

take_rests : (b : Bool) (e : Edge) (u : Fields) (result : Result Reply Refusal) (e' : Edge) → Takes b e u result e'
    → Rests e e'
take_rests true e u (Ok reply) e' h = routes_rest e e' (after_own e.routes u) (λ p. omega arith) h.3
take_rests false e u (Ok reply) e' h = routes_rest e e' (after_take e.routes u) (taken_fewer e.routes u) h.2
take_rests true e u (Err r) e' h = same_rests e e' h.1
take_rests false e u (Err r) e' h = same_rests e e' h.1

unpin_rests : (e : Edge) (s : Station) (e' : Edge) → e' ≡ after_unpin e s → Rests e e'
unpin_rests e s e' is = elim (cases_Bool (is_pinned (entry_at e.routes.learned s))) [
  | inl pinned ↦ routes_rest e e' (after_removal e.routes s) (removal_fewer e.routes s) (rw pinned at is)
  | inr free ↦ same_rests e e' (rw free at is)
]

mark_rests : (b : Bool) (e : Edge) (away : List ℕ) (result : Result Reply Refusal) (e' : Edge)
    → Marks b e away result e' → Rests e e'
mark_rests true e away result e' h = rests_as h.1 refl refl (omega arith) (λ p. omega arith)
mark_rests false e away result e' h = same_rests e e' h.1

-- ---- pins

abbrev CountsNone : Edge → Edge → Type 0
CountsNone e x = (x.quotas ≡ e.quotas) × (x.storms ≡ e.storms) × (e.clock ≤ x.clock)

pin_does : (e : Edge) (s : Station) (port : ℕ) (told : Option Alert) (e' : Edge) (c : PinCase)
    → DoesPin c e s port told e' → CountsNone e e'
pin_does e s port told e' Keep h = rw h.1 (refl, refl, omega arith)
pin_does e s port told e' Shift h = rw h.1 (refl, refl, omega arith)
pin_does e s port told e' (Deny alert) h = rw h.1 (refl, refl, omega arith)
pin_does e s port told e' Pin h = or_refused (CountsNone e) (refl, refl, omega arith) (refl, refl, omega arith) h

-- a pin counts nothing, and takes no time
pin_counts : (e : Edge) (s : Station) (port : ℕ) (result : Result Reply Refusal) (e' : Edge)
    (refused : Option EdgeRefusal) → Pins refused e s port result e' → CountsNone e e'
pin_counts e s port result e' (Some r) h = rw h.1 (refl, refl, omega arith)
pin_counts e s port (Err r) e' None h = absurd h
pin_counts e s port (Ok reply) e' None h = pin_does e s port reply.alert e' (pin_case e s port) h.0

-- ---- each event

-- the limits and the time, of a frame
frame_limits : (a : Result Arrival Refusal) (e : Edge) (port : ℕ) (result : Result Reply Refusal) (e' : Edge) (p : ℕ)
    → FrameSteps a e port result e' → (limits_at e' p ≡ limits_at e p) × (e.clock ≤ e'.clock)
frame_limits (Err r) e port result e' p h = rw h.1 (refl, omega arith)
frame_limits (Ok Dropped) e port result e' p h = rw h.1 (refl, omega arith)
frame_limits (Ok (Message b)) e port result e' p h = (let r = bridge_rests _ e result e' h in (rw r.quotas, r.later))
frame_limits (Ok (Data vni destination source)) e port (Ok reply) e' p h =
    let s : Station = record { vni = vni; mac = source } in
    learnt_by (λ x. (limits_at x p ≡ limits_at e p) × (e.clock ≤ x.clock)) (taking_on e port vni destination) s port
    reply.alert e' (refl, omega arith) (λ heard. (refl, omega arith)) (refl, omega arith)
    (λ new. (counted_limits e s port p, omega arith)) (λ n new. (counted_limits e s port p, omega arith))
    (h.learning.learns && not (is_group source)) h.learning.learning
frame_limits (Ok (Data vni destination source)) e port (Err r) e' p h = absurd h

-- the kinds of events: a frame at a port, a pin, and those at which nothing is learnt
pub record FrameOf (e : Edge) (event : Event) (result : Result Reply Refusal) (e' : Edge) : Type 0 where
  pub port : ℕ
  pub octets : List ℕ
  pub at : (p : ℕ) → comes_at p event ≡ eqb port p
  pub taken : (p : ℕ) → taken_at p e event
      ≡ cond (eqb port p) (cond (floods e (frame_arrival e port octets)) 1 0) 0
  pub steps : FrameSteps (frame_arrival e port octets) e port result e'

pub record PinOf (e : Edge) (event : Event) (result : Result Reply Refusal) (e' : Edge) : Type 0 where
  pub none : (p : ℕ) → comes_at p event ≡ false
  pub calm : (p : ℕ) → taken_at p e event ≡ 0
  pub pin : is_pin event ≡ true
  pub same : e'.quotas ≡ e.quotas
  pub storms : e'.storms ≡ e.storms
  pub later : e.clock ≤ e'.clock

pub record RestOf (event : Event) (e e' : Edge) : Type 0 where
  pub none : (p : ℕ) → comes_at p event ≡ false
  pub calm : (p : ℕ) → taken_at p e event ≡ 0
  pub rests : Rests e e'

abbrev pub KindOf : Edge → Event → Result Reply Refusal → Edge → Type 0
KindOf e event result e' = RestOf event e e' ⊎ FrameOf e event result e' ⊎ PinOf e event result e'

rest_of : (e : Edge) (event : Event) (result : Result Reply Refusal) {e' : Edge} → ((p : ℕ) → comes_at p event ≡ false)
    → ((p : ℕ) → taken_at p e event ≡ 0) → Rests e e' → KindOf e event result e'
rest_of e event result none calm rests = inl (record { none = none; calm = calm; rests = rests })

pub kind_of : (e : Edge) (event : Event) (result : Result Reply Refusal) (e' : Edge) → Steps e event result e'
    → KindOf e event result e'
kind_of e (events.Frame port octets) result e' h = inr (inl (record {
  port = port;
  octets = octets.now;
  at = λ p. refl;
  taken = λ p. refl;
  steps = h;
}))
kind_of e (events.Pin s port) result e' h = let c = pin_counts e s port result e' (refused_pin e s port) h in
    inr (inr (record { none = λ p. refl; calm = λ p. refl; pin = refl; same = c.0; storms = c.1; later = c.2 }))
kind_of e (events.TunnelFrame from octets) result e' h = rest_of e _ result (λ p. refl) (λ p. refl)
    (tunnel_rests (tunnel_arrival e from octets.now) e result e' h)
kind_of e (events.Take u) result e' h = rest_of e _ result (λ p. refl) (λ p. refl)
    (take_rests (eqb u.register.originator (address_of e)) e u result e' h)
kind_of e (events.Unpin s) result e' h = rest_of e _ result (λ p. refl) (λ p. refl) (unpin_rests e s e' h.1)
kind_of e (events.Thaw s) result e' h = rest_of e _ result (λ p. refl) (λ p. refl)
    (rests_as h.1 refl refl (omega arith) (λ p. omega arith))
kind_of e events.Second result e' h = rest_of e _ result (λ p. refl) (λ p. refl) (second_rests e result e' h)
kind_of e (events.PortUp port) result e' h = rest_of e _ result (λ p. refl) (λ p. refl)
    (port_rests (vni_at e.routes.ports port) _ e result e' h)
kind_of e (events.PortDown port) result e' h = rest_of e _ result (λ p. refl) (λ p. refl)
    (port_rests (vni_at e.routes.ports port) _ e result e' h)
kind_of e (events.Mcheck port) result e' h = rest_of e _ result (λ p. refl) (λ p. refl)
    (port_rests (vni_at e.routes.ports port) _ e result e' h)
kind_of e events.Announce result e' h = rest_of e _ result (λ p. refl) (λ p. refl)
    (routes_rest e e' (after_announcement e.routes) (λ p. omega arith) h.1)
kind_of e (events.Away a) result e' h = rest_of e _ result (λ p. refl) (λ p. refl)
    (mark_rests (is_listed (table_of e) a) e _ result e' h)
kind_of e (events.Back a) result e' h = rest_of e _ result (λ p. refl) (λ p. refl)
    (mark_rests (is_listed (table_of e) a) e _ result e' h)

pub steps_limits : (e e' : Edge) (event : Event) (result : Result Reply Refusal) (p : ℕ) → Steps e event result e'
    → (limits_at e' p ≡ limits_at e p) × (e.clock ≤ e'.clock)
steps_limits e e' event result p h = elim (kind_of e event result e' h) [
  | inl k ↦ (rw k.rests.quotas, k.rests.later)
  | inr (inl k) ↦ frame_limits (frame_arrival e k.port k.octets) e k.port result e' p k.steps
  | inr (inr k) ↦ (rw k.same, k.later)
]

pub keeps_limits : KeepsLimits
keeps_limits e e' event result port h = (steps_limits e e' event result port h).0

-- ---- how many stations a port has

frame_few : (a : Result Arrival Refusal) (e : Edge) (port : ℕ) (result : Result Reply Refusal) (e' : Edge) (p : ℕ)
    → 0 < p → ((vni destination source : ℕ) → a ≡ Ok (Data vni destination source) → 0 < port)
    → FrameSteps a e port result e' → Keeps e port p e'
frame_few (Err r) e port result e' p some there h = inl ((same_rests e e' h.1).fewer p)
frame_few (Ok Dropped) e port result e' p some there h = inl ((same_rests e e' h.1).fewer p)
frame_few (Ok (Message b)) e port result e' p some there h = inl ((bridge_rests _ e result e' h).fewer p)
frame_few (Ok (Data vni destination source)) e port (Ok reply) e' p some there h =
    learnt_few (taking_on e port vni destination) (record { vni = vni; mac = source }) port p reply.alert e'
    (h.learning.learns && not (is_group source))
    (there vni destination source refl) some h.learning.learning
frame_few (Ok (Data vni destination source)) e port (Err r) e' p some there h = absurd h

-- a frame of a network came at a port
pub port_there : (e : Edge) (port : ℕ) (octets : List ℕ) (vni destination source : ℕ)
    → frame_arrival e port octets ≡ Ok (Data vni destination source) → 0 < port
port_there e port octets vni destination source is =
    (there_port e.routes.ports port (ap is_some (data_port e port octets vni destination source is))).0

pub keeps_to_stations : KeepsToStations
keeps_to_stations e e' event result port good some pin h = elim (kind_of e event result e' h) [
  | inl k ↦ inl (k.rests.fewer port)
  | inr (inl k) ↦ elim (frame_few (frame_arrival e k.port k.octets) e k.port result e' port some
      (port_there e k.port k.octets) k.steps) [
        | inl few ↦ inl few
        | inr full ↦ inr (k.at port ∙ eq-eqb k.port port full.0, full.1)
      ]
  | inr (inr k) ↦ absurd (false≢true (sym pin ∙ k.pin))
]

pub stations_are_few : StationsAreFew
stations_are_few [] e e' port good some pins is few = rw is few
stations_are_few (x ∷ run) e e' port good some pins h few =
    let same = (steps_limits e h.0 x.0 x.1 port h.1).0 in
    rw same at (stations_are_few run h.0 e' port (steps_good e x.0 x.1 h.0 good h.1) some (grind (arith, pins)) h.2
    (rw same (elim (keeps_to_stations e h.0 x.0 x.1 port good some (grind (arith, pins)) h.1) [
      | inl fewer ↦ λ most is. (let before = few most is in omega (arith, fewer, before))
      | inr full ↦ full.1
    ])))
