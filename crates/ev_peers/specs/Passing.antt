-- How a worker handles one event: it enters the event into its edge's book, and passes on the book's answer.
use Rattle.std.specs.Prelude.{◌≡◌, ℕ, Bool, false, true, List, [], ◌∷◌, ◌++◌, Option, Some, None, Result, Ok, Err}
use Rattle.std.specs.Prelude.{is_some, slice_get, if◌then◌else◌}
use Rattle.route_wire.specs.Fields.{Fields}
use Rattle.ev_edge.specs.declared.event.Event.{Event}
use Rattle.ev_edge.specs.declared.event.Event.TheVariants.{Announce, Frame, TunnelFrame}
use Rattle.ev_edge.specs.declared.reply.Reply.{Reply}
use Rattle.ev_book.specs.declared.refusal.BookRefusal.{BookRefusal}
use Rattle.ev_book.specs.Book.{BookState, PassState}
use Rattle.ev_book.specs.Entering.{CallsBook}
use Rattle.ev_book.specs.Booking.{announced_by}
use Rattle.ev_mailboxes.specs.declared.alarm.Alarm.{Alarm}
use Rattle.ev_mailboxes.specs.declared.edge_message.Letter.{Letter}
use Rattle.ev_mailboxes.specs.declared.request.Response.{Response}
use Rattle.ev_mailboxes.specs.Posts.{with_record}
use Rattle.ev_mailboxes.specs.declared.receptions.Reception.{Reception}
use Rattle.ev_mailboxes.specs.declared.drop_reason.DropReason.{DropReason}
use Rattle.ev_mailboxes.specs.Alarm.{alarm_of, is_second}
use Rattle.ev_mailboxes.specs.DropReason.{cause_of}
use Rattle.ev_peers.specs.Forwarding.{Parcel, parcels_of}
use Rattle.ev_links.specs.Coming.{behind}

-- A call of some book. No caller knows which book was under the lock.
pub record Entered (p : PassState) (event : Event) (answer : Result Reply BookRefusal) (p' : PassState) : Type 0 where
  pub before : BookState
  pub after : BookState
  pub calls : CallsBook before p event answer after p'

-- an announcement is pending in the edge of a book
abbrev pub has_pending : BookState → Bool
has_pending b = is_some (slice_get b.edge.routes.speaker.pending 0)

-- A call of some book, and whether an announcement is pending in that book after the call.
pub record Leaves (p : PassState) (event : Event) (answer : Result Reply BookRefusal) (pending : Bool)
    (p' : PassState) : Type 0 where
  pub entered : Entered p event answer p'
  pub pending_is : pending ≡ has_pending entered.after

-- ---- announcements

-- a call of the book that requested an announcement, and the announcement that it returned, if any
pub record Asked (p : PassState) (announced : Option Fields) (p' : PassState) : Type 0 where
  pub answer : Result Reply BookRefusal
  pub entered : Entered p Announce answer p'
  pub got : announced_by answer ≡ announced

-- calls that requested announcements one after the other and returned these; the list has the last one first
abbrev pub AskedEach : PassState → List Fields → PassState → Type 0
AskedEach p [] p' = p' ≡ p
AskedEach p (u ∷ us) p' = (middle : PassState) × AskedEach p us middle × Asked middle (Some u) p'

-- a word of a worker's outlet: whether the other edges have room; or a message to the operator: a second that passes,
-- an alert, that receiving over a link failed or works again, an answer to a request, or a datagram that is dropped:
-- the place of its link, and the cause
pub data Word : Type 0 where
  has_room : Bool → Word
  second_passes : Word
  tells : Alarm → Word
  answers : Response → Word
  hears : Reception → Word
  drops : ℕ → DropReason → Word

-- The messages of a worker's outlet, whose records have this type: the number of its own edge, the letters that the
-- worker has sent to each edge, and the words, if the outlet shows any.
pub record SaidOf (U : Type 0) : Type 0 where
  pub own : ℕ
  pub sent : List (ℕ × List (Letter U))
  pub words : Option (List Word)

-- the messages of an outlet whose records are plain updates
abbrev pub Said : Type 0
Said = SaidOf Fields

abbrev pub said_of : {U : Type 0} → ℕ → List (ℕ × List (Letter U)) → Option (List Word) → SaidOf U
said_of own sent words = record { own = own; sent = sent; words = words }

-- these words come after the others
abbrev pub says : {U : Type 0} → SaidOf U → List Word → SaidOf U
says s more = said_of s.own s.sent (behind s.words more)

-- a record is sent to each of the other edges, after the letters before; none is sent to the worker's own edge
abbrev pub sends : {U : Type 0} → SaidOf U → U → SaidOf U
sends s u = said_of s.own (with_record s.own u s.sent) s.words

-- for each update one after the other: there was room, and then the update was sent to each of the other edges; the
-- list has the last one first
abbrev pub announced : Said → List Fields → Said
announced s [] = s
announced s (u ∷ us) = sends (says (announced s us) (has_room true ∷ [])) u

-- if there was room once more, an announcement was requested, and there was none or the call was refused; if there was
-- no room, none was requested
abbrev pub Stops : Bool → PassState → PassState → Type 0
Stops true p p' = Asked p None p'
Stops false p p' = p' ≡ p

-- While the other edges had room the worker requested announcements, until there was none or a call was refused. It
-- sent each to the other edges, in their order. Announcements that it did not request stay pending in the edge.
pub record Announces (p : PassState) (old : Said) (p' : PassState) (new : Said) : Type 0 where
  pub middle : PassState
  pub got : List Fields
  pub asked : AskedEach p got middle
  pub had_room : Bool
  pub last : Stops had_room middle p'
  pub given : new ≡ says (announced old got) (has_room had_room ∷ [])

-- announcements are requested exactly if one is pending
abbrev pub AnnouncesIf : Bool → PassState → Said → PassState → Said → Type 0
AnnouncesIf true p old p' new = Announces p old p' new
AnnouncesIf false p old p' new = (p' ≡ p) × (new ≡ old)

-- ---- one event

-- the parcels of an answer for the links of its edge
abbrev pub given_by : ℕ → ℕ → List ℕ → Result Reply BookRefusal → List Parcel
given_by bridge vni frame (Ok reply) = parcels_of bridge vni frame reply
given_by bridge vni frame (Err refusal) = []

-- the word for an alert, if there is one
abbrev pub told_of : Option Alarm → List Word
told_of None = []
told_of (Some alarm) = tells alarm ∷ []

-- the words for the operator's board on an event of this VNI and its answer: a second if the event is one, and an alert
-- if there is one
abbrev pub alarms_of : ℕ → Event → Result Reply BookRefusal → List Word
alarms_of vni event answer = (if is_second event then second_passes ∷ [] else []) ++ told_of (alarm_of vni event answer)

-- the place of the link over which an event's datagram came: the tunnel's is 0, and that of a port the port's number
abbrev pub link_of : Event → Option ℕ
link_of (Frame port octets) = Some port
link_of (TunnelFrame from octets) = Some 0
link_of _ = None

-- the word for a datagram that came over this link and is dropped for this cause
abbrev pub drops_of : Option ℕ → Option DropReason → List Word
drops_of (Some place) (Some cause) = drops place cause ∷ []
drops_of (Some place) None = []
drops_of None cause = []

-- the word for an event's datagram, if the answer drops it
abbrev pub drop_of : Event → Result Reply BookRefusal → List Word
drop_of event (Ok reply) = []
drop_of event (Err refusal) = drops_of (link_of event) (cause_of refusal)

-- all words on an event of this VNI and its answer
abbrev pub signs_of : ℕ → Event → Result Reply BookRefusal → List Word
signs_of vni event answer = drop_of event answer ++ alarms_of vni event answer

-- The worker entered the event once, passed the answer's parcels to the links, passed the words of event and answer to
-- the operator's board, and then announced, if an announcement was pending after the event.
pub record PassesOn (bridge vni : ℕ) (frame : List ℕ) (p : PassState) (event : Event) (given : Option (List Parcel))
    (records : Said) (p' : PassState) (given' : Option (List Parcel)) (records' : Said) :
    Type 0 where
  pub answer : Result Reply BookRefusal
  pub pending : Bool
  pub middle : PassState
  pub entered : Leaves p event answer pending middle
  pub parcels : given' ≡ behind given (given_by bridge vni frame answer)
  pub announces : AnnouncesIf pending middle (says records (signs_of vni event answer)) p' records'
