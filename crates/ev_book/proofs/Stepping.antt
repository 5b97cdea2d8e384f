-- One step of an edge, and the journal that grows by it.
use Rattle.std.proofs.Common.{◌≡◌, ℕ, ◌+◌, ◌≤◌, Bool, true, false, cond, length, Option, Some, None, IfSome, Result, Ok}
use Rattle.std.proofs.Common.{Err, List, [], ◌∷◌, ◌++◌, refl, ap, sym, subst, ◌∙◌, arith}
use Rattle.std.proofs.lemmas.List.Elements.{Contains-append_right, Contains-append_left, Contains-push}
use Rattle.std.proofs.lemmas.Bool.{false≢true}
use Rattle.std.proofs.lemmas.List.{length-map}
use Rattle.std.specs.FinMap.{empty}
use Rattle.route_wire.specs.declared.update.Register.{Register}
use Rattle.route_wire.specs.Fields.{Fields}
use Rattle.route_join.specs.Table.{Table, value_at, is_listed, IsTableOf}
use Rattle.route_join.proofs.Tables.{update_told}
use Rattle.route_join.proofs.Edits.{new_table}
use Rattle.route_join.proofs.Joins.{none_taken, all_taken}
use Rattle.ev_claims.specs.declared.opening.Start.{Start}
use Rattle.ev_claims.specs.Speaker.{Speaker, IsOwnAt, announced_of, announced, silent}
use Rattle.ev_claims.specs.LocalRoutes.{LocalRoutes, entries}
use Rattle.ev_claims.specs.Changes.{said_updates}
use Rattle.ev_claims.specs.Opening.{Opens, floods_of}
use Rattle.ev_edge.specs.declared.event.Event.{Event}
use Rattle.ev_edge.specs.declared.event.Event.TheVariants as events
use Rattle.ev_edge.specs.declared.reply.Reply.{Reply}
use Rattle.ev_edge.specs.declared.refusal.Refusal as edges
use Rattle.ev_edge.specs.Edge.{Edge, table_of}
use Rattle.ev_edge.specs.declared.arrival.Arrival.{Arrival}
use Rattle.ev_edge.specs.declared.arrival.Arrival.TheVariants.{Dropped, Message, Data}
use Rattle.ev_edge.specs.Arrival.{tunnel_arrival}
use Rattle.ev_edge.specs.Steps.{Steps, TunnelSteps, Marks}
use Rattle.ev_edge.specs.Changes.{Changes, accepted, brought, heard}
use Rattle.ev_edge.proofs.Changing.{heard_counter}
use Rattle.ev_book.specs.Mark.{Holds, mark_of}
use Rattle.ev_book.specs.Journal.{AreOwnSince}
use Rattle.ev_book.specs.Entering.{may_write, touched, touched_by}
use Rattle.ev_book.specs.Inner.Entering.{most_written}
use Rattle.ev_book.proofs.Reaching.{holds_update, holds_there}

-- the own updates of an event
abbrev pub own_in : {e : Edge} {event : Event} {result : Result Reply edges.Refusal} {e' : Edge}
    → Changes e event result e' → List Fields
own_in {e} {event} {result} {e'} h = said_updates (heard event result e.routes.speaker) h.said

pub are_own : {e : Edge} {event : Event} {result : Result Reply edges.Refusal} {e' : Edge}
    → (h : Changes e event result e') → AreOwnSince e'.routes.speaker e.routes.speaker.counter (own_in h)
are_own {e} {event} {result} {e'} h =
    let before = heard_counter event result e.routes.speaker in
    let count = h.says.count in
    let counter = h.counter in
    record {
      numbered = λ i u at. subst (λ n. IsOwnAt e'.routes.speaker (n + (i + 1)) u) before (h.says.numbered i u at);
      all = omega (arith, count, counter);
    }

-- ---- room for the event's updates

brings_one : (event : Event) → length (brought event) ≤ 1
brings_one (events.Frame port octets) = omega arith
brings_one (events.TunnelFrame from octets) = omega arith
brings_one (events.Take u) = omega arith
brings_one (events.Pin s port) = omega arith
brings_one (events.Unpin s) = omega arith
brings_one (events.Thaw s) = omega arith
brings_one events.Second = omega arith
brings_one (events.PortUp port) = omega arith
brings_one (events.PortDown port) = omega arith
brings_one (events.Mcheck port) = omega arith
brings_one events.Announce = omega arith
brings_one (events.Away a) = omega arith
brings_one (events.Back a) = omega arith

brings_none : (event : Event) → may_write event ≡ false → length (brought event) ≡ 0
brings_none (events.Frame port octets) silent = refl
brings_none (events.TunnelFrame from octets) silent = refl
brings_none (events.Take u) silent = absurd (false≢true (sym silent))
brings_none (events.Pin s port) silent = refl
brings_none (events.Unpin s) silent = refl
brings_none (events.Thaw s) silent = refl
brings_none events.Second silent = refl
brings_none (events.PortUp port) silent = refl
brings_none (events.PortDown port) silent = refl
brings_none (events.Mcheck port) silent = refl
brings_none events.Announce silent = refl
brings_none (events.Away a) silent = refl
brings_none (events.Back a) silent = refl

tunnel_counter : (arrival : Result Arrival edges.Refusal) (e : Edge) (result : Result Reply edges.Refusal) (e' : Edge)
    → TunnelSteps arrival e result e' → e'.routes.speaker.counter ≡ e.routes.speaker.counter
tunnel_counter (Err r) e result e' h = ap (λ (x : Edge). x.routes.speaker.counter) h.1
tunnel_counter (Ok Dropped) e result e' h = ap (λ (x : Edge). x.routes.speaker.counter) h.1
tunnel_counter (Ok (Message b)) e result e' h = absurd h
tunnel_counter (Ok (Data vni destination source)) e (Ok reply) e' h = ap (λ (x : Edge). x.routes.speaker.counter) h.2
tunnel_counter (Ok (Data vni destination source)) e (Err r) e' h = absurd h

mark_counter : (b : Bool) (e : Edge) (away : List ℕ) (result : Result Reply edges.Refusal) (e' : Edge)
    → Marks b e away result e' → e'.routes.speaker.counter ≡ e.routes.speaker.counter
mark_counter true e away result e' h = ap (λ (x : Edge). x.routes.speaker.counter) h.1
mark_counter false e away result e' h = ap (λ (x : Edge). x.routes.speaker.counter) h.1

-- an event that may not write leaves the counter, and brings nothing
silent_counter : (e : Edge) (event : Event) (result : Result Reply edges.Refusal) (e' : Edge) → may_write event ≡ false
    → Steps e event result e' → e'.routes.speaker.counter ≡ e.routes.speaker.counter
silent_counter e (events.Frame port octets) result e' silent h = absurd (false≢true (sym silent))
silent_counter e (events.TunnelFrame from octets) result e' silent h =
    tunnel_counter (tunnel_arrival e from octets.now) e result e' h
silent_counter e (events.Take u) result e' silent h = absurd (false≢true (sym silent))
silent_counter e (events.Pin s port) result e' silent h = absurd (false≢true (sym silent))
silent_counter e (events.Unpin s) result e' silent h = absurd (false≢true (sym silent))
silent_counter e (events.Thaw s) result e' silent h = ap (λ (x : Edge). x.routes.speaker.counter) h.1
silent_counter e events.Second result e' silent h = absurd (false≢true (sym silent))
silent_counter e (events.PortUp port) result e' silent h = absurd (false≢true (sym silent))
silent_counter e (events.PortDown port) result e' silent h = absurd (false≢true (sym silent))
silent_counter e (events.Mcheck port) result e' silent h = absurd (false≢true (sym silent))
silent_counter e events.Announce result e' silent h = ap (λ (x : Edge). x.routes.speaker.counter) h.1
silent_counter e (events.Away a) result e' silent h = mark_counter (is_listed (table_of e) a) e _ result e' h
silent_counter e (events.Back a) result e' silent h = mark_counter (is_listed (table_of e) a) e _ result e' h

-- the event's updates fit into the reserved room
pub fits_brought : (event : Event) (routes : LocalRoutes) → length (brought event) ≤ most_written event routes
fits_brought event routes = go (may_write event) refl
  where
    go : (b : Bool) → may_write event ≡ b → length (brought event) ≤ cond b (entries routes + 2) 0
    go true is = let one = brings_one event in omega (arith, one)
    go false is = let none = brings_none event is in omega (arith, none)

-- the accepted update and the own updates fit into the reserved room
pub fits_room : (e : Edge) (event : Event) (result : Result Reply edges.Refusal) (e' : Edge) → Steps e event result e'
    → Changes e event result e'
    → length (brought event) + e'.routes.speaker.counter ≤ most_written event e.routes + e.routes.speaker.counter
fits_room e event result e' steps h = go (may_write event) refl
  where
    go : (b : Bool) → may_write event ≡ b → length (brought event)
        + e'.routes.speaker.counter ≤ cond b (entries e.routes + 2) 0 + e.routes.speaker.counter
    go true is = let few = h.few in let counter = h.counter in let one = brings_one event in
        omega (arith, few, counter, one)
    go false is = let same = silent_counter e event result e' is steps in let none = brings_none event is in
        omega (arith, same, none)

-- the journal's table is the edge's still
pub still_table : {e : Edge} {event : Event} {result : Result Reply edges.Refusal} {e' : Edge} (journal : List Fields)
    → (h : Changes e event result e') → IsTableOf journal (table_of e)
    → IsTableOf (journal ++ (accepted event result ++ own_in h)) (table_of e')
still_table {e} {event} {result} {e'} journal h was =
    subst (IsTableOf (journal ++ (accepted event result ++ own_in h))) (sym h.table)
    (all_taken journal (accepted event result ++ own_in h) (table_of e) was)

-- ---- the register of the mark exists

announced_there : (v : Speaker) (rs : List Register) (u : Fields) → announced_of v rs ≡ Some u
    → value_at v.table u.register ≡ Some u.value
announced_there v [] u h = cc
announced_there v (r ∷ rs) u h =
    let told = update_told v.table r u h in
    ap (value_at v.table) told.0 ∙ told.1

if_some : (o : Option Fields) (P : Fields → Type 0) → ((u : Fields) → o ≡ Some u → P u) → IfSome o P
if_some None P h = tt
if_some (Some u) P h = h u refl

pub touched_there : (e : Edge) (event : Event) (reply : Reply) (e' : Edge) (journal own : List Fields)
    → Steps e event (Ok reply) e'
    → IsTableOf (journal ++ (accepted event (Ok reply) ++ own)) (table_of e')
    → IfSome (touched event reply) (λ u. Holds (table_of e') (mark_of u))
touched_there e (events.Take u) reply e' journal own steps table =
    holds_update (journal ++ ((u ∷ []) ++ own)) (table_of e') u table
    (Contains-append_right journal ((u ∷ []) ++ own) u (Contains-append_left (u ∷ []) own u (Contains-push [] u)))
touched_there e events.Announce reply e' journal own steps table =
    if_some reply.announced (λ u. Holds (table_of e') (mark_of u)) (λ u h.
    let told : reply.announced ≡ announced e.routes.speaker = cc in
    let there : value_at (table_of e) u.register ≡ Some u.value =
    announced_there e.routes.speaker e.routes.speaker.pending u (sym told ∙ h) in
    let kept : table_of e' ≡ table_of e = ap (λ (x : Edge). table_of x) steps.1 in
    holds_there (table_of e') u (ap (λ (t : Table). value_at t u.register) kept ∙ there))
touched_there e (events.Frame port octets) reply e' journal own steps table = tt
touched_there e (events.TunnelFrame from octets) reply e' journal own steps table = tt
touched_there e (events.Pin s port) reply e' journal own steps table = tt
touched_there e (events.Unpin s) reply e' journal own steps table = tt
touched_there e (events.Thaw s) reply e' journal own steps table = tt
touched_there e events.Second reply e' journal own steps table = tt
touched_there e (events.PortUp port) reply e' journal own steps table = tt
touched_there e (events.PortDown port) reply e' journal own steps table = tt
touched_there e (events.Mcheck port) reply e' journal own steps table = tt
touched_there e (events.Away a) reply e' journal own steps table = tt
touched_there e (events.Back a) reply e' journal own steps table = tt

pub touched_by_there : (e : Edge) (event : Event) (result : Result Reply edges.Refusal) (e' : Edge)
    (journal own : List Fields) → Steps e event result e'
    → IsTableOf (journal ++ (accepted event result ++ own)) (table_of e')
    → IfSome (touched_by event result) (λ u. Holds (table_of e') (mark_of u))
touched_by_there e event (Ok reply) e' journal own steps table = touched_there e event reply e' journal own steps table
touched_by_there e event (Err r) e' journal own steps table = tt

-- ---- the opening

abbrev pub first_own : Start → LocalRoutes → List Fields
first_own s e = said_updates (silent s.address s.incarnation s.originators.items) (floods_of e.vnis)

pub first_are_own : (s : Start) (e : LocalRoutes) → Opens s e → AreOwnSince e.speaker 0 (first_own s e)
first_are_own s e h =
    let counter = h.says.changes.counter in
    let size = length-map (first_own s e) (λ (u : Fields). u.register) in
    record {
      numbered = h.says.numbered;
      all = omega (arith, counter, size);
    }

-- the first journal's table is that of the edge
pub first_table : (s : Start) (e : LocalRoutes) → Opens s e → IsTableOf (first_own s e) e.speaker.table
first_table s e h =
    let none : Table = record { originators = s.originators.items; registers = empty } in
    subst (IsTableOf (first_own s e)) (sym h.says.table)
    (all_taken [] (first_own s e) none (subst (IsTableOf []) (new_table s.originators.items)
    (none_taken s.originators.items)))
