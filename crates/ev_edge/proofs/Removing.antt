-- Which stations go at an event.
use Rattle.std.proofs.Common.{◌≡◌, inl, inr, ℕ, ◌-◌, ◌≤◌, Bool, true, false, cond, eqb}
use Rattle.std.proofs.Common.{Option, Some, None, Result, Ok, Err, List, [], ◌∷◌, refl, sym, ap}
use Rattle.std.proofs.Common.{◌∙◌, arith}
use Rattle.std.specs.Prelude.{◌↔◌, ◌&&◌, ◌||◌, not, nat_le, is_some, IsSome}
use Rattle.std.proofs.lemmas.Bool.{cases_Bool, false≢true}
use Rattle.std.proofs.lemmas.Option.{none-some}
use Rattle.std.proofs.lemmas.Bool.Decides.{nat_tests}
use Rattle.route_wire.specs.declared.update.Key.{Key}
use Rattle.route_wire.specs.declared.update.Key.TheVariants.{Flood, Mac}
use Rattle.route_wire.specs.Fields.{Fields}
use Rattle.route_join.specs.Table.{is_listed}
use Rattle.mac_arena.specs.declared.station.Station.{Station}
use Rattle.mac_arena.specs.declared.station.Entry.{Entry}
use Rattle.mac_arena.specs.declared.table.Learnt.{Learnt}
use Rattle.mac_arena.specs.declared.table.Learnt.TheVariants.{New, Moved, Refreshed, Pinned, Full}
use Rattle.mac_arena.specs.Entry.{pinned_at}
use Rattle.mac_arena.specs.Station.{is_same}
use Rattle.mac_arena.specs.Learning.{entry_at, is_full, is_pinned, learnt_of}
use Rattle.mac_arena.specs.Learning.{after_learn, after_pin as pinned_on}
use Rattle.mac_arena.specs.Laws.{ChangesEntry, entry_learnt}
use Rattle.mac_arena.specs.ListsName.{ListsName}
use Rattle.mac_arena.proofs.Entries.{same_or_other, same_true, same_self}
use Rattle.mac_arena.proofs.Going.{due_exact}
use Rattle.mac_arena.proofs.Looking.{learn_entry, pin_entry}
use Rattle.rstp_run.specs.declared.event.Event as tree
use Rattle.rstp_run.specs.declared.event.Event.TheVariants as tree_events
use Rattle.ev_mobility.specs.declared.alert.Alert.{Alert}
use Rattle.ev_claims.specs.LocalRoutes.{LocalRoutes, vni_at, after_removal, after_pin}
use Rattle.ev_claims.specs.LocalRoutes.{after_update, after_losing, is_lost, station_of}
use Rattle.ev_claims.specs.Leaving.{after_ageing, after_flush, due_in, flushed_in, goes_by_age}
use Rattle.ev_claims.proofs.Changed.{flushes_out, removals_entries}
use Rattle.ev_claims.proofs.Lists.{named, removals_named}
use Rattle.ev_edge.specs.declared.arrival.Arrival.{Arrival}
use Rattle.ev_edge.specs.declared.arrival.Arrival.TheVariants.{Dropped, Message, Data}
use Rattle.ev_edge.specs.declared.event.Event.{Event}
use Rattle.ev_edge.specs.declared.event.Event.TheVariants as events
use Rattle.ev_edge.specs.declared.pinning.PinCase.{PinCase}
use Rattle.ev_edge.specs.declared.pinning.PinCase.TheVariants as pins
use Rattle.ev_edge.specs.declared.refusal.EdgeRefusal.{EdgeRefusal}
use Rattle.ev_edge.specs.declared.refusal.Refusal.{Refusal}
use Rattle.ev_edge.specs.declared.reply.Reply.{Reply}
use Rattle.ev_edge.specs.Edge.{Edge, IsGoodEdge, table_of, address_of}
use Rattle.ev_edge.specs.Arrival.{frame_arrival, tunnel_arrival}
use Rattle.ev_edge.specs.Bridging.{aged, next_second}
use Rattle.ev_edge.specs.Learning.{refreshed, learnt as after_learning}
use Rattle.ev_edge.specs.Pinning.{DoesPin, pin_case, refused_pin, after_unpin}
use Rattle.ev_edge.specs.Removed.{GoExactly, nobody, is_flushed, is_old, goes_in_second, is_of}
use Rattle.ev_edge.specs.Removed.{goes_by_unpin, FlushRemoves, SecondRemoves}
use Rattle.ev_edge.specs.Removed.{FrameRemoves, RemovesBy, Removed}
use Rattle.ev_edge.specs.Storms.{taking_on}
use Rattle.ev_edge.specs.Steps.{Steps, FrameSteps, TunnelSteps, Bridges, BridgesAt, Seconds}
use Rattle.ev_edge.specs.Steps.{Takes, Pins, Marks, LearnsIf}
use Rattle.ev_edge.proofs.Cases.{learnt_by, or_refused}

-- ---- one entry

-- the entry is removed exactly if the test holds
either_way : (o p : Option Entry) (b : Bool) → IsSome o → p ≡ cond b None o → (p ≡ None) ↔ (b ≡ true)
either_way None p b known is = cc
either_way (Some x) p true known is = (λ _. refl, λ _. is)
either_way (Some x) p false known is = (λ gone. absurd (none-some x (sym gone ∙ is)), λ bad. absurd (false≢true bad))

-- it is still there
still : (o : Option Entry) → IsSome o → (o ≡ None) ↔ (false ≡ true)
still o known = either_way o o false known refl

-- ---- events that remove no station

same_table : (e e' : Edge) → e'.routes.learned ≡ e.routes.learned → GoExactly e e' nobody
same_table e e' is = λ s known.
    either_way (entry_at e.routes.learned s) (entry_at e'.routes.learned s) false known
    (ap (λ t. entry_at t s) is)

same : (e e' : Edge) → e' ≡ e → GoExactly e e' nobody
same e e' is = same_table e e' (rw is)

-- one entry changes, and is there
changed : (e e' : Edge) (q : Station) (x : Option Entry) → ChangesEntry e.routes.learned e'.routes.learned q x
    → (IsSome (entry_at e.routes.learned q) → IsSome x) → GoExactly e e' nobody
changed e e' q x c there s known = elim (same_or_other s q) [
  | inl is ↦ still (entry_at e'.routes.learned s) (rw (is, c.here) (there (rw is at known)))
  | inr ne ↦ still (entry_at e'.routes.learned s) (rw (c.others s ne) known)
]

learnt_there : (o : Option Entry) (port second : ℕ) (answer : Learnt) → IsSome o
    → IsSome (entry_learnt o port second answer)
learnt_there o port second New known = refl
learnt_there o port second Moved known = refl
learnt_there o port second Refreshed known = refl
learnt_there o port second Pinned known = known
learnt_there o port second Full known = known

learnt : (e e' : Edge) (q : Station) (port second : ℕ) (answer : Learnt)
    → e'.routes.learned ≡ after_learn e.routes.learned q port second answer → GoExactly e e' nobody
learnt e e' q port second answer is =
    changed e e' q (entry_learnt (entry_at e.routes.learned q) port second answer)
    (rw is (learn_entry e.routes.learned q port second answer))
    (learnt_there (entry_at e.routes.learned q) port second answer)

pinned_there : (o : Option Entry) (full : Bool) (port : ℕ) → IsSome o
    → IsSome (cond (cond (is_some o) true (cond full false true)) (Some (pinned_at port)) None)
pinned_there None full port known = cc
pinned_there (Some x) full port known = refl

pinned : (e e' : Edge) (q : Station) (port : ℕ) → e'.routes.learned ≡ pinned_on e.routes.learned q port
    → GoExactly e e' nobody
pinned e e' q port is =
    changed e e' q _ (rw is (pin_entry e.routes.learned q port))
    (pinned_there (entry_at e.routes.learned q) (is_full e.routes.learned) port)

does_pin : (c : PinCase) (e : Edge) (q : Station) (port : ℕ) (told : Option Alert) (e' : Edge)
    → DoesPin c e q port told e' → GoExactly e e' nobody
does_pin pins.Keep e q port told e' h = same e e' h.1
does_pin pins.Shift e q port told e' h = pinned e e' q port (rw h.1)
does_pin (pins.Deny alert) e q port told e' h = same e e' h.1
does_pin pins.Pin e q port told e' h = or_refused (λ x. GoExactly e x nobody) (same e e refl)
    (pinned e (record e { routes = after_pin e.routes q port }) q port refl) h

learns : (b : Bool) (e : Edge) (q : Station) (port : ℕ) (told : Option Alert) (e' : Edge) → LearnsIf b e q port told e'
    → GoExactly e e' nobody
learns b e q port told e' h = learnt_by (λ x. GoExactly e x nobody) e q port told e' (same e e refl)
    (λ heard. learnt e (refreshed e q port) q port e.clock (learnt_of e.routes.learned q port) refl) (same e e refl)
    (λ new. anew) (λ n new. anew) b h
  where
    anew : GoExactly e (after_learning e q port 0) nobody
    anew = learnt e (after_learning e q port 0) q port e.clock New refl

-- ---- stations removed by one test

exactly : (e e' : Edge) (goes : Station → Bool)
    → ((s : Station) → entry_at e'.routes.learned s ≡ cond (goes s) None (entry_at e.routes.learned s))
    → GoExactly e e' goes
exactly e e' goes is = λ s known. either_way (entry_at e.routes.learned s) (entry_at e'.routes.learned s) (goes s) known
    (is s)

-- one station goes
one_gone : (c : LocalRoutes) (q s : Station) → entry_at (after_removal c q).learned s
    ≡ cond (is_same q s) None (entry_at c.learned s)
one_gone c q s = removals_entries c (q ∷ []) s ∙ grind arith

-- the station is removed if the condition holds for it as for the removed one
one_if : (c : LocalRoutes) (q s : Station) (test : Station → Bool)
    → entry_at (cond (test q) (after_removal c q) c).learned s
    ≡ cond (is_same q s && test s) None (entry_at c.learned s)
one_if c q s test = elim (cases_Bool (is_same q s)) [
  | inl same ↦ rw (same, ← same_true q s same) (elim (cases_Bool (test q)) [
    | inl t ↦ rw t (one_gone c q q ∙ rw (same_self q))
    | inr t ↦ rw t
  ])
  | inr other ↦ rw other (elim (cases_Bool (test q)) [
    | inl t ↦ rw t (one_gone c q s ∙ rw other)
    | inr t ↦ rw t
  ])
]

unpinned : (e : Edge) (q s : Station) → entry_at (after_unpin e q).routes.learned s
    ≡ cond (goes_by_unpin e q s) None (entry_at e.routes.learned s)
unpinned e q s = elim (cases_Bool (is_pinned (entry_at e.routes.learned q))) [
  | inl p ↦ rw p (rw p at (one_if e.routes q s (λ r. is_pinned (entry_at e.routes.learned r))))
  | inr p ↦ rw p (rw p at (one_if e.routes q s (λ r. is_pinned (entry_at e.routes.learned r))))
]

lost : (c : LocalRoutes) (k : Key) (s : Station) → entry_at (after_losing c k).learned s
    ≡ cond (is_of (station_of k) s && is_lost c s) None (entry_at c.learned s)
lost c (Flood v) s = refl
lost c (Mac v m ip) s = one_if c (record { vni = v; mac = m }) s (is_lost c)

-- ---- the bridge

flushed : (e e' : Edge) (flush : ℕ) → IsGoodEdge e → e'.routes ≡ after_flush e.routes flush
    → GoExactly e e' (is_flushed e flush)
flushed e e' flush good is = exactly e e' (is_flushed e flush)
    (λ s. rw is ((flushes_out e.routes flush good.routes).exactly s))

bridged : (event : tree.Event) (e : Edge) (reply : Reply) (e' : Edge) → IsGoodEdge e → Bridges event e (Ok reply) e'
    → FlushRemoves event e reply e'
bridged event e reply e' good h = record {
  flush = h.flush;
  goes = h.goes;
  gone = flushed e e' h.flush good (rw h.after);
}

-- ---- a second

due_goes : (c : LocalRoutes) (limit : ℕ) (s : Station) → ListsName c.learned
    → entry_at (after_ageing c limit).learned s ≡ cond (goes_by_age limit (entry_at c.learned s)) None
    (entry_at c.learned s)
due_goes c limit s h = rw (← due_exact c.learned limit h s) (removals_entries c (due_in c.learned limit) s)

old_is : (ageing now : ℕ) (o : Option Entry) → ageing ≤ now → goes_by_age (now - ageing) o ≡ is_old ageing now o
old_is ageing now None le = refl
old_is ageing now (Some x) le = grind (arith, nat_tests)

young : (ageing now : ℕ) (o : Option Entry) → nat_le ageing now ≡ false → is_old ageing now o ≡ false
young ageing now None off = refl
young ageing now (Some x) off = grind (arith, nat_tests)

aged_goes : (c : LocalRoutes) (ageing now : ℕ) (s : Station) → ListsName c.learned
    → entry_at (aged c ageing now).learned s ≡ cond (is_old ageing now (entry_at c.learned s)) None
    (entry_at c.learned s)
aged_goes c ageing now s h = elim (cases_Bool (nat_le ageing now)) [
  | inl is ↦ (let le : ageing ≤ now = grind (arith, nat_tests) in
      rw (is, ← old_is ageing now (entry_at c.learned s) le) (due_goes c (now - ageing) s h))
  | inr is ↦ rw (is, young ageing now (entry_at c.learned s) is)
]

-- first by the flush, then by age
twice : (ageing now : ℕ) (f : Bool) (o : Option Entry) → cond (is_old ageing now (cond f None o)) None (cond f None o)
    ≡ cond (f || is_old ageing now o) None o
twice ageing now true o = refl
twice ageing now false o = refl

second : (e : Edge) (reply : Reply) (e' : Edge) → IsGoodEdge e → Seconds e (Ok reply) e' → SecondRemoves e reply e'
second e reply e' good h = record {
  flush = h.flush;
  goes = h.goes;
  gone = exactly e e' (goes_in_second e h.flush) (λ s.
      let now = next_second e.clock in
      let c = after_flush e.routes h.flush in
      let out = (flushes_out e.routes h.flush good.routes).exactly s in
      rw h.after (aged_goes c e.ageing now s (removals_named e.routes (flushed_in e.routes.learned h.flush)
      (named e.routes good.routes.routes good.routes.lists)).lists
      ∙ (λ i. cond (is_old e.ageing now (out i)) None (out i))
      ∙ twice e.ageing now (is_flushed e h.flush s) (entry_at e.routes.learned s)));
}

-- ---- all events

by_frame : (a : Result Arrival Refusal) (e : Edge) (port : ℕ) (reply : Reply) (e' : Edge) → IsGoodEdge e
    → FrameSteps a e port (Ok reply) e' → FrameRemoves a e port reply e'
by_frame (Err r) e port reply e' good h = same e e' h.1
by_frame (Ok Dropped) e port reply e' good h = same e e' h.1
by_frame (Ok (Message b)) e port reply e' good h = bridged (tree_events.Bpdu port b) e reply e' good h
by_frame (Ok (Data vni destination source)) e port reply e' good h =
    learns _ (taking_on e port vni destination) _ port reply.alert e' h.learning.learning

no_frame : (a : Result Arrival Refusal) (e : Edge) (port : ℕ) (r : Refusal) (e' : Edge) → FrameSteps a e port (Err r) e'
    → GoExactly e e' nobody
no_frame (Err q) e port r e' h = same e e' h.1
no_frame (Ok Dropped) e port r e' h = same e e' h.1
no_frame (Ok (Message b)) e port r e' h = absurd h
no_frame (Ok (Data vni destination source)) e port r e' h = absurd h

by_tunnel : (a : Result Arrival Refusal) (e : Edge) (result : Result Reply Refusal) (e' : Edge)
    → TunnelSteps a e result e' → GoExactly e e' nobody
by_tunnel (Err r) e result e' h = same e e' h.1
by_tunnel (Ok Dropped) e result e' h = same e e' h.1
by_tunnel (Ok (Message b)) e result e' h = absurd h
by_tunnel (Ok (Data vni destination source)) e (Ok reply) e' h = same e e' h.2
by_tunnel (Ok (Data vni destination source)) e (Err r) e' h = absurd h

by_take : (b : Bool) (e : Edge) (u : Fields) (reply : Reply) (e' : Edge) → Takes b e u (Ok reply) e'
    → GoExactly e e' (λ s. not b && (is_of (station_of u.register.key) s && is_lost (after_update e.routes u) s))
by_take true e u reply e' h = same_table e e' (rw h.3)
by_take false e u reply e' h = exactly e e' _
    (λ s. rw h.2 (lost (after_update e.routes u) u.register.key s))

no_take : (b : Bool) (e : Edge) (u : Fields) (r : Refusal) (e' : Edge) → Takes b e u (Err r) e' → GoExactly e e' nobody
no_take true e u r e' h = same e e' h.1
no_take false e u r e' h = same e e' h.1

by_pin : (o : Option EdgeRefusal) (e : Edge) (q : Station) (port : ℕ) (result : Result Reply Refusal) (e' : Edge)
    → Pins o e q port result e' → GoExactly e e' nobody
by_pin (Some r) e q port result e' h = same e e' h.1
by_pin None e q port (Ok reply) e' h = does_pin (pin_case e q port) e q port reply.alert e' h.0
by_pin None e q port (Err r) e' h = absurd h

by_port : (vni : Option ℕ) (event : tree.Event) (e : Edge) (reply : Reply) (e' : Edge) → IsGoodEdge e
    → BridgesAt vni event e (Ok reply) e' → FlushRemoves event e reply e'
by_port None event e reply e' good h = (let bad = h.0 in cc)
by_port (Some vni) event e reply e' good h = bridged event e reply e' good h

no_port : (vni : Option ℕ) (event : tree.Event) (e : Edge) (r : Refusal) (e' : Edge) → BridgesAt vni event e (Err r) e'
    → GoExactly e e' nobody
no_port None event e r e' h = same e e' h.1
no_port (Some vni) event e r e' h = absurd h

by_mark : (b : Bool) (e : Edge) (away : List ℕ) (result : Result Reply Refusal) (e' : Edge) → Marks b e away result e'
    → GoExactly e e' nobody
by_mark true e away result e' h = same_table e e' (rw h.1)
by_mark false e away result e' h = same e e' h.1

taken : (event : Event) (e : Edge) (reply : Reply) (e' : Edge) → IsGoodEdge e → Steps e event (Ok reply) e'
    → RemovesBy event e reply e'
taken (events.Frame port octets) e reply e' good h = by_frame (frame_arrival e port octets.now) e port reply e' good h
taken (events.TunnelFrame from octets) e reply e' good h =
    by_tunnel (tunnel_arrival e from octets.now) e (Ok reply) e' h
taken (events.Take u) e reply e' good h = by_take (eqb u.register.originator (address_of e)) e u reply e' h
taken (events.Pin q port) e reply e' good h = by_pin (refused_pin e q port) e q port (Ok reply) e' h
taken (events.Unpin q) e reply e' good h = exactly e e' (goes_by_unpin e q)
    (λ s. rw h.1 (unpinned e q s))
taken (events.Thaw q) e reply e' good h = same_table e e' (rw h.1)
taken events.Second e reply e' good h = second e reply e' good h
taken (events.PortUp port) e reply e' good h = by_port (vni_at e.routes.ports port) (tree_events.PortUp port) e reply e'
    good h
taken (events.PortDown port) e reply e' good h = by_port (vni_at e.routes.ports port) (tree_events.PortDown port) e
    reply e' good h
taken (events.Mcheck port) e reply e' good h = by_port (vni_at e.routes.ports port) (tree_events.Mcheck port) e reply e'
    good h
taken events.Announce e reply e' good h = same_table e e' (rw h.1)
taken (events.Away a) e reply e' good h = by_mark (is_listed (table_of e) a) e _ (Ok reply) e' h
taken (events.Back a) e reply e' good h = by_mark (is_listed (table_of e) a) e _ (Ok reply) e' h

refused : (event : Event) (e : Edge) (r : Refusal) (e' : Edge) → Steps e event (Err r) e' → GoExactly e e' nobody
refused (events.Frame port octets) e r e' h = no_frame (frame_arrival e port octets.now) e port r e' h
refused (events.TunnelFrame from octets) e r e' h = by_tunnel (tunnel_arrival e from octets.now) e (Err r) e' h
refused (events.Take u) e r e' h = no_take (eqb u.register.originator (address_of e)) e u r e' h
refused (events.Pin q port) e r e' h = by_pin (refused_pin e q port) e q port (Err r) e' h
refused (events.Unpin q) e r e' h = (let bad = h.0 in cc)
refused (events.Thaw q) e r e' h = (let bad = h.0 in cc)
refused events.Second e r e' h = absurd h
refused (events.PortUp port) e r e' h = no_port (vni_at e.routes.ports port) (tree_events.PortUp port) e r e' h
refused (events.PortDown port) e r e' h = no_port (vni_at e.routes.ports port) (tree_events.PortDown port) e r e' h
refused (events.Mcheck port) e r e' h = no_port (vni_at e.routes.ports port) (tree_events.Mcheck port) e r e' h
refused events.Announce e r e' h = (let bad = h.0 in cc)
refused (events.Away a) e r e' h = by_mark (is_listed (table_of e) a) e _ (Err r) e' h
refused (events.Back a) e r e' h = by_mark (is_listed (table_of e) a) e _ (Err r) e' h

-- so it is at each event
pub removed : (e : Edge) (event : Event) (result : Result Reply Refusal) (e' : Edge) → IsGoodEdge e
    → Steps e event result e' → Removed event e result e'
removed e event (Ok reply) e' good h = taken event e reply e' good h
removed e event (Err r) e' good h = refused event e r e' h
