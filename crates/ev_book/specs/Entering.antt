-- The effect of a call on a book and on the pass.
use Rattle.std.specs.Prelude.{◌≡◌, ℕ, ◌+◌, ◌^◌, ◌++◌, nat_le, Bool, true, false, Option, Some, None, Result, Ok, Err}
use Rattle.std.specs.Prelude.{List, slice_set}
use Rattle.route_wire.specs.Fields.{Fields}
use Rattle.ev_edge.specs.declared.event.Event.{Event}
use Rattle.ev_edge.specs.declared.event.Event.TheVariants as events
use Rattle.ev_edge.specs.declared.reply.Reply.{Reply}
use Rattle.ev_edge.specs.declared.refusal.Refusal as edges
use Rattle.ev_edge.specs.Steps.{Steps}
use Rattle.ev_edge.specs.Edge.{Edge, table_of}
use Rattle.ev_edge.specs.Changes.{accepted}
use Rattle.ev_book.specs.declared.mark.Mark.{Mark}
use Rattle.ev_book.specs.declared.refusal.BookRefusal.{BookRefusal}
use Rattle.ev_book.specs.declared.refusal.BookRefusal.TheVariants.{PassStrange, PassSpent, NoRoom, Edge as OfEdge}
use Rattle.ev_book.specs.Mark.{mark_of}
use Rattle.ev_book.specs.Book.{BookState, PassState, fits, kept_of}
use Rattle.ev_book.specs.Journal.{AreOwnSince, IsKept, IsFull}

-- ---- answers

-- the answer of a call that overwrites another reply
abbrev pub answered : Result (Unit {0}) BookRefusal → Reply → Result Reply BookRefusal
answered (Ok done) reply = Ok reply
answered (Err r) reply = Err r

-- ---- marks

-- the update that an event took or announced
abbrev pub touched : Event → Reply → Option Fields
touched (events.Take u) reply = Some u
touched events.Announce reply = reply.announced
touched (events.Frame port octets) reply = None
touched (events.TunnelFrame from octets) reply = None
touched (events.Pin s port) reply = None
touched (events.Unpin s) reply = None
touched (events.Thaw s) reply = None
touched events.Second reply = None
touched (events.PortUp port) reply = None
touched (events.PortDown port) reply = None
touched (events.Mcheck port) reply = None
touched (events.Away a) reply = None
touched (events.Back a) reply = None

-- a refused call has none
abbrev pub touched_by : {R : Type 0} → Event → Result Reply R → Option Fields
touched_by event (Ok reply) = touched event reply
touched_by event (Err r) = None

-- it is the mark from then on
abbrev pub mark_then : Option Mark → Option Fields → Option Mark
mark_then m None = m
mark_then m (Some u) = Some (mark_of u)

-- the pass with one call more, and this mark
abbrev pub called : PassState → Option Mark → PassState
called p m = record { number = p.number; count = p.count + 1; mark = m }

-- ---- the updates that an event can write

-- whether the edge may take or say an update at it: not at a frame from a tunnel, the end of a window, an announcement,
-- or another edge that goes away or is back
abbrev pub may_write : Event → Bool
may_write (events.Frame port octets) = true
may_write (events.TunnelFrame from octets) = false
may_write (events.Take u) = true
may_write (events.Pin s port) = true
may_write (events.Unpin s) = true
may_write (events.Thaw s) = false
may_write events.Second = true
may_write (events.PortUp port) = true
may_write (events.PortDown port) = true
may_write (events.Mcheck port) = true
may_write events.Announce = false
may_write (events.Away a) = false
may_write (events.Back a) = false

-- ---- one call

-- One step of the edge. The journal grows by the update that the event took, whether it was news or not, and then by
-- the
-- own updates of the event.
pub record Grows (e : Edge) (us : List Fields) (event : Event) (result : Result Reply edges.Refusal) (e' : Edge)
    (us' : List Fields) : Type 0 where
  pub steps : Steps e event result e'
  pub own : List Fields
  pub are_own : AreOwnSince e'.routes.speaker e.routes.speaker.counter own
  pub journal : us' ≡ us ++ (accepted event result ++ own)

-- The same after the rest of the journal: all, or the table's updates. At most two updates for each register, and 64.
pub record Writes (e : Edge) (us : List Fields) (event : Event) (result : Result Reply edges.Refusal) (e' : Edge)
    (us' : List Fields) : Type 0 where
  pub left : List Fields
  pub kept : IsKept (table_of e) us left
  pub grows : Grows e left event result e' us'

-- It is written; or there was no room for its updates, though the journal is as short as its table allows.
abbrev pub WritesOrNot : Edge → List Fields → Event → Result Reply BookRefusal → Edge → List Fields → Type 0
WritesOrNot e journal event (Ok reply) e' journal' = Writes e journal event (Ok reply) e' journal'
WritesOrNot e journal event (Err (OfEdge r)) e' journal' = Writes e journal event (Err r) e' journal'
WritesOrNot e journal event (Err NoRoom) e' journal' = (may_write event ≡ true) × (e' ≡ e)
    × IsFull (table_of e) journal journal'
WritesOrNot e journal event (Err PassStrange) e' journal' = ⊥
WritesOrNot e journal event (Err PassSpent) e' journal' = ⊥

-- A call that is not refused for its pass. It is counted, and the pass has the mark of the update that it took or
-- announced; the book has both, and no other count or mark changes.
pub record Enters (b : BookState) (p : PassState) (event : Event) (result : Result Reply BookRefusal) (b' : BookState)
    (p' : PassState) : Type 0 where
  pub writes : WritesOrNot b.edge b.journal event result b'.edge b'.journal
  pub pass : p' ≡ called p (mark_then p.mark (touched_by event result))
  pub kept : b'.kept ≡ slice_set b.kept p.number (kept_of p')

-- nothing changes
pub record Refuses (b : BookState) (p : PassState) (why : BookRefusal) (result : Result Reply BookRefusal)
    (b' : BookState) (p' : PassState) : Type 0 where
  pub result_is : result ≡ Err why
  pub book : b' ≡ b
  pub pass : p' ≡ p

-- it has as many calls as a pass can have
abbrev pub is_spent : PassState → Bool
is_spent p = nat_le (2 ^ 55) p.count

abbrev pub Calls : Bool → Bool → BookState → PassState → Event → Result Reply BookRefusal → BookState → PassState
    → Type 0
Calls false spent b p event result b' p' = Refuses b p PassStrange result b' p'
Calls true true b p event result b' p' = Refuses b p PassSpent result b' p'
Calls true false b p event result b' p' = Enters b p event result b' p'

-- A pass that isn't the kept one is refused, then one that is spent; any other call is counted.
abbrev pub CallsBook : BookState → PassState → Event → Result Reply BookRefusal → BookState → PassState → Type 0
CallsBook b p event result b' p' = Calls (fits b p) (is_spent p) b p event result b' p'

-- the number of calls that an answer stands for
abbrev pub calls_counted : Result Reply BookRefusal → ℕ
calls_counted (Ok reply) = 1
calls_counted (Err (OfEdge r)) = 1
calls_counted (Err NoRoom) = 1
calls_counted (Err PassStrange) = 0
calls_counted (Err PassSpent) = 0
