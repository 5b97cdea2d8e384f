-- The own updates of an edge at each event.
use Rattle.std.proofs.Common.{◌≡◌, ◌≢◌, inl, inr, ℕ, ◌+◌, ◌-◌, ◌≤◌, Bool, true, false, cond, eqb, Option, Some}
use Rattle.std.proofs.Common.{None, Result, Ok, Err, List, [], ◌∷◌, length, refl, sym, ap, ◌∙◌, arith}
use Rattle.std.specs.Prelude.{nat_le, not, ◌&&◌}
use Rattle.std.proofs.lemmas.Bool.{cases_Bool}
use Rattle.std.proofs.lemmas.List.{length-map}
use Rattle.std.proofs.lemmas.Option.{same_Some}
use Rattle.std.proofs.lemmas.Bool.Decides.{nat_tests}
use Rattle.ether_wire.specs.Addr.{is_group}
use Rattle.route_wire.specs.declared.update.Key.{Key}
use Rattle.route_wire.specs.declared.update.Key.TheVariants.{Flood, Mac}
use Rattle.route_wire.specs.declared.update.Content.{Content}
use Rattle.route_wire.specs.declared.update.Content.TheVariants.{Withdrawn}
use Rattle.route_wire.specs.declared.update.Value.{Value}
use Rattle.route_wire.specs.Fields.{Fields}
use Rattle.route_join.specs.Table.{with_updates, is_listed}
use Rattle.route_join.proofs.Merging.{updates_append}
use Rattle.mac_arena.specs.declared.station.Station.{Station}
use Rattle.mac_arena.specs.Learning.{entry_at, is_pinned}
use Rattle.ev_mobility.specs.declared.alert.Alert.{Alert}
use Rattle.rstp_run.specs.declared.event.Event as tree
use Rattle.ev_claims.specs.Speaker.{Speaker, KeepsNumbers, own, is_newest, is_ahead, is_returning, after_originating}
use Rattle.ev_claims.specs.Speaker.{after_importing, after_announcing}
use Rattle.ev_claims.specs.LocalRoutes.{LocalRoutes, entries, key_of, moving, fixed, vni_at, is_lost}
use Rattle.ev_claims.specs.LocalRoutes.{after_update}
use Rattle.ev_claims.specs.LocalRoutes.{after_losing}
use Rattle.ev_claims.specs.Leaving.{after_flush, after_ageing}
use Rattle.ev_claims.specs.Changes.{Says, after_originations, said_updates}
use Rattle.ev_claims.specs.Opening.{Opens}
use Rattle.ev_claims.proofs.Hearing.{past_if_newest, there_now, elsewhere, unheard}
use Rattle.ev_claims.proofs.Numbers.{key_or_other}
use Rattle.ev_claims.proofs.Sayings.{IsBehind, AreApart, kept_behind, heard_behind, says, one_apart, withdrawals}
use Rattle.ev_claims.proofs.Sayings.{removals_say, withdrawals_count, withdrawals_apart, opens}
use Rattle.ev_claims.proofs.Leaving.{Leaves, flush_leaves, second_leaves}
use Rattle.ev_edge.specs.declared.arrival.Arrival.{Arrival}
use Rattle.ev_edge.specs.declared.arrival.Arrival.TheVariants.{Dropped, Message, Data}
use Rattle.ev_edge.specs.declared.config.EdgeConfig.{EdgeConfig}
use Rattle.ev_edge.specs.declared.event.Event.{Event}
use Rattle.ev_edge.specs.declared.event.Event.TheVariants as events
use Rattle.ev_edge.specs.declared.pinning.PinCase.{PinCase}
use Rattle.ev_edge.specs.declared.pinning.PinCase.TheVariants.{Keep, Shift, Deny, Pin}
use Rattle.ev_edge.specs.declared.refusal.EdgeRefusal.{EdgeRefusal}
use Rattle.ev_edge.specs.declared.refusal.Refusal.{Refusal}
use Rattle.ev_edge.specs.declared.reply.Reply.{Reply}
use Rattle.ev_edge.specs.Config.{IsConfig}
use Rattle.ev_edge.specs.Edge.{Edge, IsGoodEdge, table_of, address_of}
use Rattle.ev_edge.specs.Opening.{IsOpening, start_of}
use Rattle.ev_edge.specs.Pinning.{DoesPin, pin_case, refused_pin, after_unpin}
use Rattle.ev_edge.specs.Bridging.{next_second}
use Rattle.ev_edge.specs.Arrival.{frame_arrival, tunnel_arrival}
use Rattle.ev_edge.specs.Storms.{taking_on}
use Rattle.ev_edge.specs.Steps.{Steps, LearnsIf, FrameSteps, TunnelSteps, Bridges, BridgesAt, Seconds, Takes}
use Rattle.ev_edge.specs.Steps.{TakesOther, TakesOwn, Pins, Marks}
use Rattle.ev_edge.specs.Changes.{Changes, accepted, heard, heard_in}
use Rattle.ev_edge.proofs.Cases.{learnt_by, or_refused}

-- the own updates after a state
record Saying (base : Speaker) (e e' : Edge) : Type 0 where
  pub said : List (Key × Content)
  pub few : length said ≤ entries e.routes + 1
  pub after : e'.routes.speaker ≡ after_originations base said
  pub apart : AreApart said

nothing_said : (base : Speaker) (e e' : Edge) → e'.routes.speaker ≡ base → Saying base e e'
nothing_said base e e' is = record { said = []; few = omega arith; after = is; apart = tt }

same : (e e' : Edge) → e' ≡ e → Saying e.routes.speaker e e'
same e e' is = nothing_said e.routes.speaker e e' (rw is)

one_said : (base : Speaker) (e e' : Edge) (k : Key) (c : Content) → e'.routes.speaker ≡ after_originating base k c
    → Saying base e e'
one_said base e e' k c is = record { said = (k, c) ∷ []; few = omega arith; after = is; apart = one_apart k c }

left_behind : (e e' : Edge) {d : LocalRoutes} → e'.routes ≡ d → Leaves e.routes d → Saying e.routes.speaker e e'
left_behind e e' is h = record {
  said = withdrawals h.stations;
  few = let count = withdrawals_count h.stations in let few = h.few in omega (arith, count, few);
  after = rw (is, h.are) (removals_say e.routes h.stations);
  apart = withdrawals_apart h.stations h.once;
}

-- ---- frames

learnt_if : (e : Edge) (s : Station) (port : ℕ) (told : Option Alert) (e' : Edge) (b : Bool)
    → LearnsIf b e s port told e' → Saying e.routes.speaker e e'
learnt_if e s port told e' b h =
    learnt_by (Saying e.routes.speaker e) e s port told e' (same e e refl)
    (λ heard. nothing_said e.routes.speaker e _ refl) (nothing_said e.routes.speaker e _ refl)
    (λ new. one_said e.routes.speaker e _ (key_of s) (moving 0) refl)
    (λ n new. one_said e.routes.speaker e _ (key_of s) (moving n) refl) b h

bridge_says : (event : tree.Event) (e : Edge) (result : Result Reply Refusal) (e' : Edge) → IsGoodEdge e
    → Bridges event e result e' → Saying e.routes.speaker e e'
bridge_says event e (Ok reply) e' good h = left_behind e e' (rw h.after)
    (flush_leaves e.routes h.flush good.routes)
bridge_says event e (Err r) e' good h = absurd h

bridge_at : (vni : Option ℕ) (event : tree.Event) (e : Edge) (result : Result Reply Refusal) (e' : Edge) → IsGoodEdge e
    → BridgesAt vni event e result e' → Saying e.routes.speaker e e'
bridge_at None event e result e' good h = same e e' h.1
bridge_at (Some vni) event e result e' good h = bridge_says event e result e' good h

frame_says : (arrival : Result Arrival Refusal) (e : Edge) (port : ℕ) (result : Result Reply Refusal) (e' : Edge)
    → IsGoodEdge e → FrameSteps arrival e port result e' → Saying e.routes.speaker e e'
frame_says (Err r) e port result e' good h = same e e' h.1
frame_says (Ok Dropped) e port result e' good h = same e e' h.1
frame_says (Ok (Message b)) e port result e' good h = bridge_says _ e result e' good h
frame_says (Ok (Data vni destination source)) e port (Ok reply) e' good h =
    same_saying (learnt_if (taking_on e port vni destination) (record { vni = vni; mac = source }) port reply.alert e'
    (h.learning.learns && not (is_group source)) h.learning.learning)
  where
    same_saying : Saying e.routes.speaker (taking_on e port vni destination) e' → Saying e.routes.speaker e e'
    same_saying s = record { said = s.said; few = s.few; after = s.after; apart = s.apart }
frame_says (Ok (Data vni destination source)) e port (Err r) e' good h = absurd h

tunnel_says : (arrival : Result Arrival Refusal) (e : Edge) (result : Result Reply Refusal) (e' : Edge)
    → TunnelSteps arrival e result e' → Saying e.routes.speaker e e'
tunnel_says (Err r) e result e' h = same e e' h.1
tunnel_says (Ok Dropped) e result e' h = same e e' h.1
tunnel_says (Ok (Message b)) e result e' h = absurd h
tunnel_says (Ok (Data vni destination source)) e (Ok reply) e' h = same e e' h.2
tunnel_says (Ok (Data vni destination source)) e (Err r) e' h = absurd h

-- ---- seconds, pins

second_says : (e : Edge) (result : Result Reply Refusal) (e' : Edge) → IsGoodEdge e → Seconds e result e'
    → Saying e.routes.speaker e e'
second_says e (Err r) e' good h = absurd h
second_says e (Ok reply) e' good h = left_behind e e' (rw h.after)
    (elim (nat_le e.ageing (next_second e.clock)) as (λ b. Leaves e.routes (cond b
    (after_ageing (after_flush e.routes h.flush) (next_second e.clock - e.ageing)) (after_flush e.routes h.flush))) [
      | true ↦ second_leaves e.routes h.flush (next_second e.clock - e.ageing) good.routes
      | false ↦ flush_leaves e.routes h.flush good.routes
    ])

pin_says : (e : Edge) (s : Station) (port : ℕ) (told : Option Alert) (e' : Edge) (c : PinCase)
    → DoesPin c e s port told e' → Saying e.routes.speaker e e'
pin_says e s port told e' Keep h = same e e' h.1
pin_says e s port told e' Shift h = nothing_said e.routes.speaker e e' (rw h.1)
pin_says e s port told e' (Deny alert) h = same e e' h.1
pin_says e s port told e' Pin h = or_refused (Saying e.routes.speaker e) (same e e refl)
    (one_said e.routes.speaker e _ (key_of s) fixed refl) h

pins_say : (refused : Option EdgeRefusal) (e : Edge) (s : Station) (port : ℕ) (result : Result Reply Refusal)
    (e' : Edge) → Pins refused e s port result e' → Saying e.routes.speaker e e'
pins_say (Some r) e s port result e' h = same e e' h.1
pins_say None e s port (Ok reply) e' h = pin_says e s port reply.alert e' (pin_case e s port) h.0
pins_say None e s port (Err r) e' h = absurd h

unpin_says : (e : Edge) (s : Station) (e' : Edge) → e' ≡ after_unpin e s → Saying e.routes.speaker e e'
unpin_says e s e' is = elim (cases_Bool (is_pinned (entry_at e.routes.learned s))) [
  | inl pinned ↦ one_said e.routes.speaker e e' (key_of s) Withdrawn (rw (is, pinned))
  | inr free ↦ nothing_said e.routes.speaker e e' (rw (is, free))
]

-- ---- updates

taken_says : (e : Edge) (u : Fields) (e' : Edge) (k : Key) → e'.routes ≡ after_losing (after_update e.routes u) k
    → Saying (after_importing e.routes.speaker u) e e'
taken_says e u e' (Flood v) is = nothing_said (after_importing e.routes.speaker u) e e' (rw is)
taken_says e u e' (Mac v m ip) is = (let s : Station = record { vni = v; mac = m } in
    elim (cases_Bool (is_lost (after_update e.routes u) s)) [
      | inl lost ↦ one_said (after_importing e.routes.speaker u) e e' (key_of s) Withdrawn (rw (is, lost))
      | inr kept ↦ nothing_said (after_importing e.routes.speaker u) e e' (rw (is, kept))
    ])

own_says : (e : Edge) (u : Fields) (e' : Edge) (b : Bool)
    → e'.routes.speaker ≡ cond b (after_originating (after_importing e.routes.speaker u) u.register.key Withdrawn)
    (after_importing e.routes.speaker u) → Saying (after_importing e.routes.speaker u) e e'
own_says e u e' true is = one_said (after_importing e.routes.speaker u) e e' u.register.key Withdrawn is
own_says e u e' false is = nothing_said (after_importing e.routes.speaker u) e e' is

-- an own update that isn't ahead leaves no value of a later incarnation or with a later number
own_behind : (v : Speaker) (u : Fields) → KeepsNumbers v → u.register.originator ≡ v.address → is_ahead v u ≡ false
    → IsBehind (after_importing v u)
own_behind v u h mine behind = elim (cases_Bool (is_newest v u)) [
  | inl new ↦ record {
    past = λ k w at. elim (key_or_other k u.register.key) [
      | inl same ↦ (let is = ap (λ (x : Value). x.incarnation) (now new k w same at) in
          let less = past_if_newest v u behind new in omega (arith, is, less))
      | inr ne ↦ h.past k w (before k w ne at)
    ];
    counted = λ k w at present. elim (key_or_other k u.register.key) [
      | inl same ↦ (let is = ap (λ (x : Value). x.incarnation) (now new k w same at) in
          let less = past_if_newest v u behind new in absurd (omega (arith, is, less, present)))
      | inr ne ↦ h.counted k w (before k w ne at) present
    ];
  }
  | inr old ↦ rw (unheard v u old) (kept_behind v h)
]
  where
    now : is_newest v u ≡ true → (k : Key) (w : Value) → k ≡ u.register.key → own (after_importing v u) k ≡ Some w
        → u.value ≡ w
    now new k w same at = same_Some u.value w (sym (there_now v u mine new) ∙ rw same at at)

    before : (k : Key) (w : Value) → k ≢ u.register.key → own (after_importing v u) k ≡ Some w → own v k ≡ Some w
    before k w ne at = sym (elsewhere v u k ne) ∙ at

-- ---- each event

-- hearing and announcing leave a part of a speaker as it was: so does every event
heard_same : {A : Type 0} (part : Speaker → A) → ((v : Speaker) (u : Fields) → part (after_importing v u) ≡ part v)
    → ((v : Speaker) → part (after_announcing v) ≡ part v) → (event : Event) (result : Result Reply Refusal)
    (v : Speaker)
    → part (heard event result v) ≡ part v
heard_same part hears announces event (Err r) v = refl
heard_same part hears announces (events.Frame port octets) (Ok reply) v = refl
heard_same part hears announces (events.TunnelFrame from octets) (Ok reply) v = refl
heard_same part hears announces (events.Take u) (Ok reply) v = hears v u
heard_same part hears announces (events.Pin s port) (Ok reply) v = refl
heard_same part hears announces (events.Unpin s) (Ok reply) v = refl
heard_same part hears announces (events.Thaw s) (Ok reply) v = refl
heard_same part hears announces events.Second (Ok reply) v = refl
heard_same part hears announces (events.PortUp port) (Ok reply) v = refl
heard_same part hears announces (events.PortDown port) (Ok reply) v = refl
heard_same part hears announces (events.Mcheck port) (Ok reply) v = refl
heard_same part hears announces events.Announce (Ok reply) v = announces v
heard_same part hears announces (events.Away a) (Ok reply) v = refl
heard_same part hears announces (events.Back a) (Ok reply) v = refl

heard_address : (event : Event) (result : Result Reply Refusal) (v : Speaker) → (heard event result v).address
    ≡ v.address
heard_address event result v = heard_same (λ (w : Speaker). w.address) (λ w u. refl) (λ w. refl) event result v

heard_incarnation : (event : Event) (result : Result Reply Refusal) (v : Speaker)
    → (heard event result v).incarnation ≡ v.incarnation
heard_incarnation event result v = heard_same (λ (w : Speaker). w.incarnation) (λ w u. refl) (λ w. refl) event result v

pub heard_counter : (event : Event) (result : Result Reply Refusal) (v : Speaker)
    → (heard event result v).counter ≡ v.counter
heard_counter event result v = heard_same (λ (w : Speaker). w.counter) (λ w u. refl) (λ w. refl) event result v

pub heard_table : (event : Event) (result : Result Reply Refusal) (v : Speaker)
    → (heard event result v).table ≡ with_updates v.table (accepted event result)
heard_table event (Err r) v = refl
heard_table (events.Frame port octets) (Ok reply) v = refl
heard_table (events.TunnelFrame from octets) (Ok reply) v = refl
heard_table (events.Take u) (Ok reply) v = refl
heard_table (events.Pin s port) (Ok reply) v = refl
heard_table (events.Unpin s) (Ok reply) v = refl
heard_table (events.Thaw s) (Ok reply) v = refl
heard_table events.Second (Ok reply) v = refl
heard_table (events.PortUp port) (Ok reply) v = refl
heard_table (events.PortDown port) (Ok reply) v = refl
heard_table (events.Mcheck port) (Ok reply) v = refl
heard_table events.Announce (Ok reply) v = refl
heard_table (events.Away a) (Ok reply) v = refl
heard_table (events.Back a) (Ok reply) v = refl

changed : (e : Edge) (event : Event) (result : Result Reply Refusal) (e' : Edge)
    → Saying (heard event result e.routes.speaker) e e' → IsBehind (heard event result e.routes.speaker)
    → Changes e event result e'
changed e event result e' h behind = record {
  said = h.said;
  few = h.few;
  says = it;
  address = it.changes.address ∙ heard_address event result e.routes.speaker;
  incarnation = it.changes.incarnation ∙ heard_incarnation event result e.routes.speaker;
  counter = let counter = it.changes.counter in let count = it.count in
      let size = length-map (said_updates v h.said) (λ (u : Fields). u.register) in
      let before = heard_counter event result e.routes.speaker in omega (arith, counter, count, size, before);
  table = rw (it.table, heard_table event result e.routes.speaker)
      (sym (updates_append e.routes.speaker.table (accepted event result) (said_updates v h.said)));
}
  where
    v : Speaker
    v = heard event result e.routes.speaker

    it : Says (heard event result e.routes.speaker) e'.routes.speaker h.said
    it = says (heard event result e.routes.speaker) e'.routes.speaker h.said h.after h.apart behind

-- an event by which nothing is heard
still : (event : Event) → ((v : Speaker) → heard_in event v ≡ v) → (result : Result Reply Refusal) (v : Speaker)
    → heard event result v ≡ v
still event h (Ok reply) v = h v
still event h (Err r) v = refl

quiet : (e : Edge) (event : Event) (result : Result Reply Refusal) (e' : Edge) → ((v : Speaker) → heard_in event v ≡ v)
    → IsGoodEdge e → Saying e.routes.speaker e e' → Changes e event result e'
quiet e event result e' h good said = changed e event result e' (rw (still event h result e.routes.speaker) said)
    (rw (still event h result e.routes.speaker) (kept_behind e.routes.speaker good.routes.numbers))

other_change : (e : Edge) (u : Fields) (result : Result Reply Refusal) (e' : Edge) → IsGoodEdge e
    → u.register.originator ≢ e.routes.speaker.address → TakesOther e u result e' → Changes e (events.Take u) result e'
other_change e u (Ok reply) e' good other h =
    changed e (events.Take u) (Ok reply) e' (taken_says e u e' u.register.key (rw h.2))
    (heard_behind e.routes.speaker u other (kept_behind e.routes.speaker good.routes.numbers))
other_change e u (Err r) e' good other h = changed e (events.Take u) (Err r) e' (same e e' h.1)
    (kept_behind e.routes.speaker good.routes.numbers)

own_change : (e : Edge) (u : Fields) (result : Result Reply Refusal) (e' : Edge) → IsGoodEdge e
    → u.register.originator ≡ e.routes.speaker.address → TakesOwn e u result e' → Changes e (events.Take u) result e'
own_change e u (Ok reply) e' good mine h =
    changed e (events.Take u) (Ok reply) e' (own_says e u e' (is_returning e.routes.speaker u)
    (rw h.3)) (own_behind e.routes.speaker u good.routes.numbers mine h.0)
own_change e u (Err r) e' good mine h = changed e (events.Take u) (Err r) e' (same e e' h.1)
    (kept_behind e.routes.speaker good.routes.numbers)

take_change : (e : Edge) (u : Fields) (result : Result Reply Refusal) (e' : Edge) → IsGoodEdge e → (b : Bool)
    → eqb u.register.originator e.routes.speaker.address ≡ b → Takes b e u result e'
    → Changes e (events.Take u) result e'
take_change e u result e' good true t h = own_change e u result e' good (grind (arith, nat_tests)) h
take_change e u result e' good false t h = other_change e u result e' good (λ same. grind (arith, nat_tests)) h

announced_behind : (v : Speaker) → KeepsNumbers v → IsBehind (after_announcing v)
announced_behind v h = record { past = h.past; counted = h.counted }

marks_speaker : (e : Edge) (away : List ℕ) (result : Result Reply Refusal) (e' : Edge) (b : Bool)
    → Marks b e away result e' → e'.routes.speaker ≡ e.routes.speaker
marks_speaker e away result e' true h = rw h.1
marks_speaker e away result e' false h = rw h.1

pub steps_change : (e : Edge) (event : Event) (result : Result Reply Refusal) (e' : Edge) → IsGoodEdge e
    → Steps e event result e' → Changes e event result e'
steps_change e (events.Frame port octets) result e' good h =
    quiet e _ result e' (λ v. refl) good
    (frame_says (frame_arrival e port octets.now) e port result e' good h)
steps_change e (events.TunnelFrame from octets) result e' good h =
    quiet e _ result e' (λ v. refl) good
    (tunnel_says (tunnel_arrival e from octets.now) e result e' h)
steps_change e (events.Take u) result e' good h = take_change e u result e' good
    (eqb u.register.originator (address_of e)) refl h
steps_change e (events.Pin s port) result e' good h = quiet e _ result e' (λ v. refl) good
    (pins_say (refused_pin e s port) e s port result e' h)
steps_change e (events.Unpin s) result e' good h = quiet e _ result e' (λ v. refl) good
    (unpin_says e s e' h.1)
steps_change e (events.Thaw s) result e' good h = quiet e _ result e' (λ v. refl) good
    (nothing_said e.routes.speaker e e' (rw h.1))
steps_change e events.Second result e' good h = quiet e _ result e' (λ v. refl) good
    (second_says e result e' good h)
steps_change e (events.PortUp port) result e' good h = quiet e _ result e' (λ v. refl) good
    (bridge_at (vni_at e.routes.ports port) _ e result e' good h)
steps_change e (events.PortDown port) result e' good h =
    quiet e _ result e' (λ v. refl) good
    (bridge_at (vni_at e.routes.ports port) _ e result e' good h)
steps_change e (events.Mcheck port) result e' good h = quiet e _ result e' (λ v. refl) good
    (bridge_at (vni_at e.routes.ports port) _ e result e' good h)
steps_change e events.Announce result e' good h =
    rw h.0 (changed e events.Announce (Ok _) e' (nothing_said (after_announcing e.routes.speaker) e e' (rw h.1))
    (announced_behind e.routes.speaker good.routes.numbers))
steps_change e (events.Away a) result e' good h = quiet e _ result e' (λ v. refl) good
    (nothing_said e.routes.speaker e e' (marks_speaker e _ result e' (is_listed (table_of e) a) h))
steps_change e (events.Back a) result e' good h = quiet e _ result e' (λ v. refl) good
    (nothing_said e.routes.speaker e e' (marks_speaker e _ result e' (is_listed (table_of e) a) h))

-- ---- the opening

pub opening_changes : (c : EdgeConfig) (e : Edge) → IsConfig c → IsOpening c e → Opens (start_of c) e.routes
opening_changes c e config h = opens (start_of c) e.routes h.routes config.distinct
