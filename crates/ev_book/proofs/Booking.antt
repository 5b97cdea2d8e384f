-- Calls of a book, beside the history.
use Rattle.std.proofs.Common.{◌≡◌, ℕ, Bool, true, false, Option, Some, None, List, Result, Ok, Err, refl, ap, sym}
use Rattle.std.proofs.Common.{◌∙◌, subst}
use Rattle.route_wire.specs.Fields.{Fields}
use Rattle.ev_edge.specs.declared.event.Event.{Event}
use Rattle.ev_edge.specs.declared.event.Event.TheVariants as events
use Rattle.ev_edge.specs.declared.reply.Reply.{Reply}
use Rattle.ev_edge.specs.declared.refusal.Refusal.{Refusal}
use Rattle.ev_edge.specs.Edge.{Edge, IsGoodEdge}
use Rattle.ev_edge.specs.Steps.{Steps}
use Rattle.ev_book.specs.declared.refusal.BookRefusal.{BookRefusal}
use Rattle.ev_book.specs.declared.refusal.BookRefusal.TheVariants.{PassStrange, PassSpent, NoRoom, Edge as OfEdge}
use Rattle.ev_book.specs.Book.{BookState, PassState, fits}
use Rattle.ev_book.specs.Entering.{CallsBook, Calls, WritesOrNot, is_spent, answered}
use Rattle.ev_book.specs.declared.log_entry.Deed.TheVariants.{Announces, Takes}
use Rattle.ev_book.specs.declared.log_entry.Deed.TheVariants as deeds
use Rattle.ev_book.specs.declared.log_entry.LogEntry.{LogEntry}
use Rattle.ev_book.specs.declared.log_entry.LogEntry.TheVariants.{Does}
use Rattle.ev_book.specs.Log.{World, world, IsQuiet, IsKnown, Follows}
use Rattle.ev_book.specs.Rule.{told}
use Rattle.ev_book.specs.Booking.{is_own, Opens, announced_by}
use Rattle.ev_book.specs.Inner.Booking.{EdgeGoes, EdgeMoves, GoesOn, has_stepped}
use Rattle.ev_book.specs.Standing.{Stands}
use Rattle.ev_book.proofs.Standing.{stands_quiet, taking_follows, announcing_follows}

writes_goes : (e e' : Edge) (event : Event) (result : Result Reply BookRefusal) (us us' : List Fields)
    → WritesOrNot e us event result e' us' → EdgeGoes e event result e'
writes_goes e e' event (Ok reply) us us' w = w.grows.steps
writes_goes e e' event (Err (OfEdge r)) us us' w = w.grows.steps
writes_goes e e' event (Err NoRoom) us us' w = w.1
writes_goes e e' event (Err PassStrange) us us' w = absurd w
writes_goes e e' event (Err PassSpent) us us' w = absurd w

pub book_goes : (b b' : BookState) (p p' : PassState) (event : Event) (result : Result Reply BookRefusal)
    → CallsBook b p event result b' p' → EdgeGoes b.edge event result b'.edge
book_goes b b' p p' event result h = by_case (fits b p) (is_spent p) h
  where
    by_case : (fit spent : Bool) → Calls fit spent b p event result b' p' → EdgeGoes b.edge event result b'.edge
    by_case false spent r = subst (λ x. EdgeGoes b.edge event x b'.edge) (sym r.result_is)
        (ap (λ (x : BookState). x.edge) r.book)
    by_case true true r = subst (λ x. EdgeGoes b.edge event x b'.edge) (sym r.result_is)
        (ap (λ (x : BookState). x.edge) r.book)
    by_case true false r = writes_goes b.edge b'.edge event result b.journal b'.journal r.writes

goes_moves : (e e' : Edge) (event : Event) (result : Result (Unit {0}) BookRefusal) (reply : Reply)
    → EdgeGoes e event (answered result reply) e' → EdgeMoves e event result e'
goes_moves e e' event (Ok done) reply g = (reply, g)
goes_moves e e' event (Err (OfEdge r)) reply g = g
goes_moves e e' event (Err NoRoom) reply g = g
goes_moves e e' event (Err PassStrange) reply g = g
goes_moves e e' event (Err PassSpent) reply g = g

pub book_moves : (b b' : BookState) (p p' : PassState) (event : Event) (result : Result (Unit {0}) BookRefusal)
    (reply : Reply) → CallsBook b p event (answered result reply) b' p' → EdgeMoves b.edge event result b'.edge
book_moves b b' p p' event result reply h = goes_moves b.edge b'.edge event result reply
    (book_goes b b' p p' event (answered result reply) h)

own_quiet : (event : Event) (answer : Result Reply Refusal) → is_own event ≡ true → IsQuiet event answer
own_quiet (events.Take u) answer own = absurd cc
own_quiet events.Announce answer own = absurd cc
own_quiet (events.Frame port octets) answer own = tt
own_quiet (events.TunnelFrame from octets) answer own = tt
own_quiet (events.Pin s port) answer own = tt
own_quiet (events.Unpin s) answer own = tt
own_quiet (events.Thaw s) answer own = tt
own_quiet events.Second answer own = tt
own_quiet (events.PortUp port) answer own = tt
own_quiet (events.PortDown port) answer own = tt
own_quiet (events.Mcheck port) answer own = tt
own_quiet (events.Away a) answer own = tt
own_quiet (events.Back a) answer own = tt

-- an event that other edges have no part in adds nothing to the history
pub stands_own : (place : ℕ) (log : List LogEntry) (e e' : Edge) (event : Event)
    (result : Result (Unit {0}) BookRefusal) → is_own event ≡ true → Stands place log e → EdgeMoves e event result e'
    → Stands place log e'
stands_own place log e e' event (Ok done) own s g = stands_quiet place log e e' event (Ok g.0) s
    (own_quiet event (Ok g.0) own) g.1
stands_own place log e e' event (Err (OfEdge r)) own s g = stands_quiet place log e e' event (Err r) s
    (own_quiet event (Err r) own) g
stands_own place log e e' event (Err NoRoom) own s g = subst (Stands place log) (sym g) s
stands_own place log e e' event (Err PassStrange) own s g = subst (Stands place log) (sym g) s
stands_own place log e e' event (Err PassSpent) own s g = subst (Stands place log) (sym g) s

-- a call that was no step leaves the edge as it was
pub goes_stands : (place : ℕ) (log : List LogEntry) (event : Event) (result : Result (Unit {0}) BookRefusal)
    (later : Edge) → GoesOn place log event result later → has_stepped result ≡ false → Stands place log later
goes_stands place log event (Ok done) later g not_so = absurd cc
goes_stands place log event (Err (OfEdge r)) later g not_so = absurd cc
goes_stands place log event (Err NoRoom) later g not_so = subst (Stands place log) (sym g.moves) g.stood
goes_stands place log event (Err PassStrange) later g not_so = subst (Stands place log) (sym g.moves) g.stood
goes_stands place log event (Err PassSpent) later g not_so = subst (Stands place log) (sym g.moves) g.stood

-- a step by which the edge takes an update may follow
pub goes_follows : (place : ℕ) (log : List LogEntry) (u : Fields) (result : Result (Unit {0}) BookRefusal)
    (later : Edge) (z : World) → IsKnown z.outside z.pool u
    → GoesOn place log (events.Take u) result later → has_stepped result ≡ true
    → Follows (told (world log) z) (Does place (Takes u) later)
goes_follows place log u (Ok done) later z known g so = taking_follows place u log z (Ok g.moves.0) g.before later
    known g.stood g.moves.1
goes_follows place log u (Err (OfEdge r)) later z known g so = taking_follows place u log z (Err r) g.before later
    known g.stood g.moves
goes_follows place log u (Err NoRoom) later z known g so = absurd cc
goes_follows place log u (Err PassStrange) later z known g so = absurd cc
goes_follows place log u (Err PassSpent) later z known g so = absurd cc

-- ---- announcements

-- an announcement may follow
pub announced_follows : (place : ℕ) (log : List LogEntry) (u : Fields) (result : Result Reply BookRefusal) (e e' : Edge)
    (z : World) → announced_by result ≡ Some u → Stands place log e
    → EdgeGoes e events.Announce result e' → Follows (told (world log) z) (Does place (Announces u) e')
announced_follows place log u (Ok reply) e e' z says s g = announcing_follows place u log z reply e e' s g says
announced_follows place log u (Err r) e e' z says s g = absurd cc

-- a request for an announcement that had none adds nothing to the history
pub unannounced_stands : (place : ℕ) (log : List LogEntry) (result : Result Reply BookRefusal) (e e' : Edge)
    → announced_by result ≡ None → Stands place log e → EdgeGoes e events.Announce result e' → Stands place log e'
unannounced_stands place log (Ok reply) e e' none s g = stands_quiet place log e e' events.Announce (Ok reply) s none g
unannounced_stands place log (Err (OfEdge r)) e e' none s g = stands_quiet place log e e' events.Announce (Err r) s
    refl g
unannounced_stands place log (Err NoRoom) e e' none s g = subst (Stands place log) (sym g) s
unannounced_stands place log (Err PassStrange) e e' none s g = subst (Stands place log) (sym g) s
unannounced_stands place log (Err PassSpent) e e' none s g = subst (Stands place log) (sym g) s

-- ---- opening

pub opens_follows : (place : ℕ) (log : List LogEntry) (z : World) (later : Edge) → Opens place log later
    → IsGoodEdge later → Follows (told (world log) z) (Does place deeds.Opens later)
opens_follows place log z later o good = record
    { config = o.config; is_there = o.is_there; closed = o.closed; opens = o.opens; good = good }

-- ---- whole calls

-- an edge that is called with an update goes on
pub goes_on : (place : ℕ) (log : List LogEntry) (b b' : BookState) (p p' : PassState) (event : Event) (u : Fields)
    (result : Result (Unit {0}) BookRefusal) (reply : Reply) → event ≡ events.Take u → Stands place log b.edge
    → CallsBook b p event (answered result reply) b' p' → GoesOn place log (events.Take u) result b'.edge
goes_on place log b b' p p' event u result reply is s h = record {
  before = b.edge;
  stood = s;
  moves = subst (λ (e : Event). EdgeMoves b.edge e result b'.edge) is (book_moves b b' p p' event result reply h);
}

pub own_stands : (place : ℕ) (log : List LogEntry) (b b' : BookState) (p p' : PassState) (event : Event)
    (result : Result (Unit {0}) BookRefusal) (reply : Reply) → is_own event ≡ true → Stands place log b.edge
    → CallsBook b p event (answered result reply) b' p' → Stands place log b'.edge
own_stands place log b b' p p' event result reply own s h = stands_own place log b.edge b'.edge event result own s
    (book_moves b b' p p' event result reply h)

pub announce_follows : (place : ℕ) (log : List LogEntry) (z : World) (b b' : BookState) (p p' : PassState) (u : Fields)
    (result : Result Reply BookRefusal) → announced_by result ≡ Some u → Stands place log b.edge
    → CallsBook b p events.Announce result b' p' → Follows (told (world log) z) (Does place (Announces u) b'.edge)
announce_follows place log z b b' p p' u result says s h = announced_follows place log u result b.edge b'.edge z says
    s (book_goes b b' p p' events.Announce result h)

pub announce_stands : (place : ℕ) (log : List LogEntry) (b b' : BookState) (p p' : PassState)
    (result : Result Reply BookRefusal) → announced_by result ≡ None → Stands place log b.edge
    → CallsBook b p events.Announce result b' p' → Stands place log b'.edge
announce_stands place log b b' p p' result none s h = unannounced_stands place log result b.edge b'.edge none s
    (book_goes b b' p p' events.Announce result h)
