-- The effect of each event on an edge's own updates: the edge makes some, or takes or announces one; and a station that
-- it learns from outside is advertised.
use Rattle.std.proofs.Common.{◌≡◌, ◌≢◌, ◌⊎◌, inl, inr, ℕ, ◌-◌, ◌==◌, ◌&&◌, Bool, true, false, cond, nat_le, Option}
use Rattle.std.proofs.Common.{Some, None, Result, Ok, Err, List, [], ◌∷◌, refl, sym, ap, ◌∙◌, arith}
use Rattle.std.specs.Prelude.{not, Contains, IsSome}
use Rattle.std.proofs.lemmas.Bool.{cases_Bool}
use Rattle.std.proofs.lemmas.Bool.Decides.{nat_tests}
use Rattle.ether_wire.specs.Addr.{is_group}
use Rattle.route_wire.specs.declared.update.Content.{Content}
use Rattle.route_wire.specs.declared.update.Key.{Key}
use Rattle.route_wire.specs.declared.update.Key.TheVariants.{Flood, Mac}
use Rattle.route_wire.specs.declared.update.Content.TheVariants.{Withdrawn}
use Rattle.route_wire.specs.Fields.{Fields}
use Rattle.route_join.specs.Table.{is_listed}
use Rattle.route_join.specs.Owner.{advert_in}
use Rattle.mac_arena.specs.declared.station.Station.{Station}
use Rattle.mac_arena.specs.declared.station.Entry.{Entry}
use Rattle.mac_arena.specs.declared.table.Learnt.TheVariants.{New}
use Rattle.mac_arena.specs.Learning.{entry_at, learnt_of, is_full, is_pinned}
use Rattle.mac_arena.specs.ListsName.{stands}
use Rattle.mac_arena.proofs.Entries.{same_or_other}
use Rattle.mac_arena.proofs.Looking.{learn_entry, pin_entry}
use Rattle.ev_mobility.specs.declared.alert.Alert.{Alert}
use Rattle.ev_mobility.specs.declared.alert.Alert.TheVariants.{CounterSpent, TableFull, StaticElsewhere}
use Rattle.ev_mobility.specs.Seq.{seq_for}
use Rattle.rstp_run.specs.declared.event.Event as tree
use Rattle.rstp_run.specs.declared.event.Event.TheVariants as tree_events
use Rattle.ev_claims.specs.Speaker.{KeepsNumbers, after_originating}
use Rattle.ev_claims.specs.LocalRoutes.{LocalRoutes, vni_at, key_of, moving, fixed, after_advert, after_removal}
use Rattle.ev_claims.specs.LocalRoutes.{after_removals, after_update, after_losing, is_lost}
use Rattle.ev_claims.specs.Leaving.{after_ageing, after_flush, due_in, flushed_in}
use Rattle.ev_claims.proofs.Numbers.{heard_numbers}
use Rattle.ev_claims.proofs.Changed.{removals_entries}
use Rattle.ev_edge.specs.declared.arrival.Arrival.{Arrival}
use Rattle.ev_edge.specs.declared.arrival.Arrival.TheVariants.{Dropped, Message, Data}
use Rattle.ev_edge.specs.declared.pinning.PinCase.{PinCase}
use Rattle.ev_edge.specs.declared.pinning.PinCase.TheVariants as pins
use Rattle.ev_edge.specs.declared.reply.Reply.{Reply}
use Rattle.ev_edge.specs.declared.refusal.Refusal.{Refusal}
use Rattle.ev_edge.specs.declared.refusal.EdgeRefusal.{EdgeRefusal}
use Rattle.ev_edge.specs.Edge.{Edge, table_of, address_of}
use Rattle.ev_edge.specs.Arrival.{frame_arrival, tunnel_arrival}
use Rattle.ev_edge.specs.Learning.{is_spent}
use Rattle.ev_edge.specs.Pinning.{DoesPin, pin_case, pin_case_at, unpinned_case, is_static, refused_pin}
use Rattle.ev_edge.specs.Bridging.{aged, next_second}
use Rattle.ev_edge.specs.Storms.{taking_on}
use Rattle.ev_edge.specs.Steps.{LearnsIf, Bridges, BridgesAt, Seconds, FrameSteps, TunnelSteps, Pins, Marks, Steps}
use Rattle.ev_fabric.specs.declared.step.LocalEvent.{LocalEvent}
use Rattle.ev_fabric.specs.declared.step.LocalEvent.TheVariants.{Frame, TunnelFrame, Pin, Unpin, Thaw, Second, PortUp}
use Rattle.ev_fabric.specs.declared.step.LocalEvent.TheVariants.{PortDown, Mcheck, Away, Back}
use Rattle.ev_fabric.specs.Local.{event_of}
use Rattle.ev_edge.proofs.Cases.{learnt_by, or_refused}
use Rattle.ev_fabric.specs.Sound.{IsTold}
use Rattle.ev_fabric.proofs.Voices.{Talks, Quiet, Says, talks_told, talks_further, heard_told, own_told}
use Rattle.ev_fabric.proofs.ConvergingEdge.{Accepts, heard}

-- the station is advertised under the next number, and no other own register changes
pub record LearnsIt (c : LocalRoutes) (s : Station) (d : LocalRoutes) : Type 0 where
  pub content : Content
  pub advert : IsSome (advert_in content)
  pub speaker : d.speaker ≡ after_originating c.speaker (key_of s) content

-- own updates lead to the other; a station that isn't learnt still isn't, or is advertised
pub record Effect (c d : LocalRoutes) : Type 0 where
  pub talks : Talks c.speaker d.speaker
  pub learns : (s : Station) → entry_at c.learned s ≡ None → (entry_at d.learned s ≡ None) ⊎ LearnsIt c s d

abbrev pub Goes : Edge → Edge → Type 0
Goes e e' = Effect e.routes e'.routes

itself : (c : LocalRoutes) → Effect c c
itself c = record { talks = Quiet; learns = λ s none. inl none }

stays : {c : LocalRoutes} {e' : Edge} (d : Edge) → e' ≡ d → d.routes ≡ c → Effect c e'.routes
stays {c} d is same = rw (is, same) (itself c)

-- ---- stations that are removed
record Drops (c d : LocalRoutes) : Type 0 where
  talks : Talks c.speaker d.speaker
  none : (s : Station) → entry_at c.learned s ≡ None → entry_at d.learned s ≡ None

drops : {c : LocalRoutes} {e' : Edge} (d : Edge) → e' ≡ d → Drops c d.routes → Effect c e'.routes
drops d is h = rw is (record { talks = h.talks; learns = λ s unknown. inl (h.none s unknown) })

removals_talk : (c : LocalRoutes) (ss : List Station) → Talks c.speaker (after_removals c ss).speaker
removals_talk c [] = Quiet
removals_talk c (s ∷ ss) = talks_further
    (Says c.speaker (key_of s) Withdrawn refl Quiet) (removals_talk (after_removal c s) ss)

removals_drop : (c : LocalRoutes) (ss : List Station) → Drops c (after_removals c ss)
removals_drop c ss = record {
  talks = removals_talk c ss;
  none = λ s unknown. removals_entries c ss s ∙ taken_out (stands ss s) (entry_at c.learned s) unknown;
}
  where
    taken_out : (b : Bool) (o : Option Entry) → o ≡ None → cond b None o ≡ None
    taken_out true o none = refl
    taken_out false o none = none

drops_nothing : (c : LocalRoutes) → Drops c c
drops_nothing c = record { talks = Quiet; none = λ s none. none }

seconds_drop : (c : LocalRoutes) (flush ageing clock : ℕ) → Drops c (aged (after_flush c flush) ageing clock)
seconds_drop c flush ageing clock =
    let first = removals_drop c (flushed_in c.learned flush) in
    let d = after_flush c flush in
    elim (nat_le ageing clock) as (λ b. Drops c (cond b (after_ageing d (clock - ageing)) d)) [
      | true ↦ let second = removals_drop d (due_in d.learned (clock - ageing)) in record {
        talks = talks_further first.talks second.talks;
        none = λ s unknown. second.none s (first.none s unknown);
      }
      | false ↦ first
    ]

-- ---- learning
learns : (b : Bool) (e : Edge) (q : Station) (port : ℕ) (told : Option Alert) (e' : Edge)
    → LearnsIf b e q port told e' → Goes e e'
learns b e q port told e' h = learnt_by (Goes e) e q port told e' (itself e.routes) (λ heard. record {
  talks = Quiet;
  learns = λ s unknown. elim (same_or_other s q) [
    | inl this ↦ absurd (let no : IsSome {T = Entry} None = rw (← this, unknown) at heard.known in cc)
    | inr ne ↦ inl ((learn_entry e.routes.learned q port e.clock
        (learnt_of e.routes.learned q port)).others s ne ∙ unknown)
  ];
}) (itself e.routes) (λ new. advertises 0) (λ n new. advertises n) b h
  where
    advertises : (n : ℕ) → Effect e.routes (after_advert e.routes q port e.clock n)
    advertises n = record {
      talks = Says e.routes.speaker (key_of q) _ refl Quiet;
      learns = λ s unknown. elim (same_or_other s q) [
        | inl this ↦ inr (record { content = moving n; advert = refl; speaker = rw this })
        | inr ne ↦ inl ((learn_entry e.routes.learned q port e.clock New).others s ne ∙ unknown)
      ];
    }

-- ---- pins

-- a station that isn't learnt isn't pinned elsewhere
abbrev is_shift : PinCase → Bool
is_shift pins.Keep = false
is_shift pins.Shift = true
is_shift (pins.Deny alert) = false
is_shift pins.Pin = false

new_shift : (e : Edge) (s : Station) → is_shift (unpinned_case e s false) ≡ false
new_shift e s = go (is_static (seq_for (table_of e) (address_of e) s.vni s.mac)) (is_spent e.routes)
    (is_full e.routes.learned)
  where
    go : (x y z : Bool) → is_shift (cond x (pins.Deny StaticElsewhere)
        (cond y (pins.Deny CounterSpent) (cond z (pins.Deny TableFull) pins.Pin))) ≡ false
    go true y z = refl
    go false true z = refl
    go false false true = refl
    go false false false = refl

unpins : (e : Edge) (q : Station) (b : Bool)
    → Drops e.routes (cond b (record e { routes = after_removal e.routes q }) e).routes
unpins e q true = removals_drop e.routes (q ∷ [])
unpins e q false = drops_nothing e.routes

-- ---- events
module _ (e e' : Edge) where
  bridges : (event : tree.Event) (result : Result Reply Refusal) → Bridges event e result e' → Goes e e'
  bridges event (Ok reply) h = drops _ h.after (removals_drop e.routes (flushed_in e.routes.learned h.flush))
  bridges event (Err r) h = absurd h

  bridges_at : (o : Option ℕ) (event : tree.Event) (result : Result Reply Refusal) → BridgesAt o event e result e'
      → Goes e e'
  bridges_at None event result h = stays e h.1 refl
  bridges_at (Some vni) event result h = bridges event result h

  seconds : (result : Result Reply Refusal) → Seconds e result e' → Goes e e'
  seconds (Ok reply) h = drops _ h.after (seconds_drop e.routes h.flush e.ageing (next_second e.clock))
  seconds (Err r) h = absurd h

  frames : (a : Result Arrival Refusal) (port : ℕ) (result : Result Reply Refusal) → FrameSteps a e port result e'
      → Goes e e'
  frames (Err r) port result h = stays e h.1 refl
  frames (Ok Dropped) port result h = stays e h.1 refl
  frames (Ok (Message b)) port result h = bridges (tree_events.Bpdu port b) result h
  frames (Ok (Data vni destination source)) port (Ok reply) h =
      learns (h.learning.learns && not (is_group source)) (taking_on e port vni destination)
      (record { vni = vni; mac = source }) port reply.alert e' h.learning.learning
  frames (Ok (Data vni destination source)) port (Err r) h = absurd h

  tunnel_frames : (a : Result Arrival Refusal) (result : Result Reply Refusal) → TunnelSteps a e result e' → Goes e e'
  tunnel_frames (Err r) result h = stays e h.1 refl
  tunnel_frames (Ok Dropped) result h = stays e h.1 refl
  tunnel_frames (Ok (Message b)) result h = absurd h
  tunnel_frames (Ok (Data vni destination source)) (Ok reply) h = stays e h.2 refl
  tunnel_frames (Ok (Data vni destination source)) (Err r) h = absurd h

  does_pin : (k : PinCase) (q : Station) (port : ℕ) → pin_case e q port ≡ k → (told : Option Alert)
      → DoesPin k e q port told e' → Goes e e'
  does_pin pins.Keep q port is told h = stays e h.1 refl
  does_pin pins.Shift q port is told h = rw h.1 (record {
    talks = Quiet;
    learns = λ s unknown. elim (same_or_other s q) [
      | inl this ↦ cc (ap is_shift (sym is ∙ ap (pin_case_at e q port) (rw this at unknown)), new_shift e q)
      | inr ne ↦ inl ((pin_entry e.routes.learned q port).others s ne ∙ unknown)
    ];
  })
  does_pin (pins.Deny alert) q port is told h = stays e h.1 refl
  does_pin pins.Pin q port is told h = or_refused (Goes e) (itself e.routes) (record {
    talks = Says e.routes.speaker (key_of q) _ refl Quiet;
    learns = λ s unknown. elim (same_or_other s q) [
      | inl this ↦ inr (record { content = fixed; advert = refl; speaker = rw this })
      | inr ne ↦ inl ((pin_entry e.routes.learned q port).others s ne ∙ unknown)
    ];
  }) h

  does_pins : (o : Option EdgeRefusal) (q : Station) (port : ℕ) (result : Result Reply Refusal)
      → Pins o e q port result e' → Goes e e'
  does_pins (Some r) q port result h = stays e h.1 refl
  does_pins None q port (Ok reply) h = does_pin (pin_case e q port) q port refl reply.alert h.0
  does_pins None q port (Err r) h = absurd h

  marks : (b : Bool) (away : List ℕ) (result : Result Reply Refusal) → Marks b e away result e' → Goes e e'
  marks true away result h = stays _ h.1 refl
  marks false away result h = stays e h.1 refl

pub local_effect : (e : Edge) (event : LocalEvent) (result : Result Reply Refusal) (e' : Edge)
    → Steps e (event_of event) result e' → Goes e e'
local_effect e (Frame port octets) result e' h = frames e e' (frame_arrival e port octets.now) port result h
local_effect e (TunnelFrame from octets) result e' h = tunnel_frames e e' (tunnel_arrival e from octets.now) result h
local_effect e (Pin q port) result e' h = does_pins e e' (refused_pin e q port) q port result h
local_effect e (Unpin q) result e' h = drops _ h.1 (unpins e q (is_pinned (entry_at e.routes.learned q)))
local_effect e (Thaw q) result e' h = stays _ h.1 refl
local_effect e Second result e' h = seconds e e' result h
local_effect e (PortUp port) result e' h =
    bridges_at e e' (vni_at e.routes.ports port) (tree_events.PortUp port) result h
local_effect e (PortDown port) result e' h =
    bridges_at e e' (vni_at e.routes.ports port) (tree_events.PortDown port) result h
local_effect e (Mcheck port) result e' h =
    bridges_at e e' (vni_at e.routes.ports port) (tree_events.Mcheck port) result h
local_effect e (Away a) result e' h = marks e e' (is_listed (table_of e) a) _ result h
local_effect e (Back a) result e' h = marks e e' (is_listed (table_of e) a) _ result h

pub local_talks : (e : Edge) (event : LocalEvent) (result : Result Reply Refusal) (e' : Edge)
    → Steps e (event_of event) result e' → Talks e.routes.speaker e'.routes.speaker
local_talks e event result e' h = (local_effect e event result e' h).talks

-- ---- an update
losing_talks : (c : LocalRoutes) (k : Key) → Talks c.speaker (after_losing c k).speaker
losing_talks c (Flood v) = Quiet
losing_talks c (Mac v m ip) =
    let s : Station = record { vni = v; mac = m } in
    elim (is_lost c s) as (λ b. Talks c.speaker (cond b (after_removal c s) c).speaker) [
      | true ↦ Says c.speaker (key_of s) Withdrawn refl Quiet
      | false ↦ Quiet
    ]

-- an update that the edge takes keeps the pool's account of it
pub heard_tells : {pool : List Fields} (c : LocalRoutes) {u : Fields} → Contains pool u → KeepsNumbers c.speaker
    → Accepts c.speaker u → IsTold pool c.speaker → IsTold pool (heard c u).speaker
heard_tells c {u} in' h ok told = elim (cases_Bool (u.register.originator == c.speaker.address)) [
  | inl is ↦ let mine : u.register.originator ≡ c.speaker.address = grind (arith, nat_tests) in
      rw is (own_told in' h mine (ok.ahead mine) told)
  | inr is ↦ let other : u.register.originator ≢ c.speaker.address = grind (arith, nat_tests) in
      rw is (talks_told (losing_talks (after_update c u) u.register.key) (heard_numbers c.speaker u other h)
      (heard_told in' other told))
]
