-- Requests of the operator to a running edge: the effect and the answer of each.
use Rattle.std.specs.Prelude.{◌≡◌, ◌↔◌, ℕ, List, [], ◌∷◌, length, slice_get, Option, Some, None, Result, Ok}
use Rattle.std.specs.Prelude.{Err, IsTrue}
use Rattle.std.specs.Global.{Vec}
use Rattle.std.specs.declared.alloc.AllocError.{AllocError}
use Rattle.ether_wire.specs.Ports.{place_of_port}
use Rattle.route_wire.specs.declared.update.Register.{Register}
use Rattle.route_join.specs.After.{PageView, page_at}
use Rattle.rstp_run.specs.Rules.{Tree}
use Rattle.rstp_run.specs.Events.{IsPort, Passes}
use Rattle.ev_edge.specs.Edge.{Edge, address_of, table_of}
use Rattle.ev_edge.specs.declared.event.Event.{Event}
use Rattle.ev_edge.specs.declared.event.Event.TheVariants as events
use Rattle.ev_edge.specs.declared.reply.Reply.{Reply}
use Rattle.ev_view.specs.declared.view.EdgeQuestion.{EdgeQuestion}
use Rattle.ev_view.specs.EdgeViews.{edge_view_text}
use Rattle.ev_book.specs.declared.refusal.BookRefusal.{BookRefusal}
use Rattle.ev_book.specs.Book.{BookState, PassState}
use Rattle.ev_mailboxes.specs.declared.request.OperatorCommand.{OperatorCommand}
use Rattle.ev_mailboxes.specs.declared.request.OperatorCommand.TheVariants as commands
use Rattle.ev_mailboxes.specs.declared.request.Request.{Request}
use Rattle.ev_mailboxes.specs.declared.request.Request.TheVariants.{Enter, Read}
use Rattle.ev_mailboxes.specs.declared.request.Reading.{Reading}
use Rattle.ev_mailboxes.specs.declared.request.Reading.TheVariants.{Page, Port, Served as Serves, View}
use Rattle.ev_mailboxes.specs.declared.request.Response.{Response}
use Rattle.ev_mailboxes.specs.declared.request.Response.TheVariants as replies
use Rattle.ev_mailboxes.specs.declared.request.PortView.{PortView}
use Rattle.ev_mailboxes.specs.declared.request.EdgeNetworks.{EdgeNetworks}
use Rattle.ev_peers.specs.Forwarding.{Parcel}
use Rattle.ev_peers.specs.Passing.{Said, says, answers, PassesOn}

-- ---- a step

-- the event of a step
abbrev pub event_of : OperatorCommand → Event
event_of (commands.Pin s port) = events.Pin s port
event_of (commands.Unpin s) = events.Unpin s
event_of (commands.Thaw s) = events.Thaw s
event_of (commands.Away a) = events.Away a
event_of (commands.Back a) = events.Back a
event_of (commands.Mcheck port) = events.Mcheck port
event_of (commands.PortUp port) = events.PortUp port
event_of (commands.PortDown port) = events.PortDown port

-- The step was entered once and passed on, as a worker's event is, and `answer` is the book's answer.
pub record Obeys (bridge : ℕ) (command : OperatorCommand) (answer : Result Reply BookRefusal) (p : PassState)
    (given : Option (List Parcel)) (records : Said) (p' : PassState) (given' : Option (List Parcel))
    (records' : Said) : Type 0 where
  pub passes : PassesOn bridge 0 [] p (event_of command) given records p' given' records'
  pub is : passes.answer ≡ answer

-- ---- a reading

-- the page of the table's report after the register, or the first one; memory may be refused for it
abbrev pub ShowsPage : Edge → Option Register → Result PageView AllocError → Type 0
ShowsPage e after (Ok page) = page ≡ record { after = after; updates = page_at after (table_of e) }
ShowsPage e after (Err refused) = Unit {0}

-- the port's state, and whether frames pass there; `None` only if there is no port of this number
abbrev pub ShowsPort : Tree → ℕ → Option PortView → Type 0
ShowsPort tree p (Some view) = IsPort p (length tree.ports) × (slice_get tree.ports (place_of_port p) ≡ Some view.state)
    × (IsTrue view.passes ↔ Passes tree p)
ShowsPort tree p None = IsPort p (length tree.ports) → ⊥

-- the text that answers the question, with this number before each line; memory may be refused for it
abbrev pub ShowsView : ℕ → Edge → EdgeQuestion → Result (Vec ℕ) AllocError → Type 0
ShowsView number e q (Ok text) = text.items ≡ edge_view_text number e q
ShowsView number e q (Err refused) = Unit {0}

-- the edge's address, the VNI of each port, and the VNIs that the edge serves; memory may be refused for them
abbrev pub ShowsServed : Edge → Result EdgeNetworks AllocError → Type 0
ShowsServed e (Ok served) = (served.address ≡ address_of e) × (served.ports.items ≡ e.routes.ports)
    × (served.vnis.items ≡ e.routes.vnis)
ShowsServed e (Err refused) = Unit {0}

-- the answer of an edge to a reading
abbrev pub Shows : Edge → Reading → Response → Type 0
Shows e (Page alloc after) (replies.Page page) = ShowsPage e after page
Shows e (Page alloc after) answer = ⊥
Shows e (Port p) (replies.Port view) = ShowsPort e.tree p view
Shows e (Port p) answer = ⊥
Shows e (Serves alloc) (replies.Served served) = ShowsServed e served
Shows e (Serves alloc) answer = ⊥
Shows e (View alloc number q) (replies.View text) = ShowsView number e q text
Shows e (View alloc number q) answer = ⊥

-- The answer shows the state of some book. No caller knows which book was under the lock.
pub record Looked (reading : Reading) (answer : Response) : Type 0 where
  pub book : BookState
  pub shows : Shows book.edge reading answer

-- ---- a request

-- a step is entered once and passed on; a reading changes nothing, and sends nothing to links, other edges or the
-- operator
abbrev pub Fulfils : ℕ → Request → Response → PassState → Option (List Parcel) → Said → PassState
    → Option (List Parcel) → Said → Type 0
Fulfils bridge (Enter command) (replies.Entered answer) p given records p' given' records' =
    Obeys bridge command answer p given records p' given' records'
Fulfils bridge (Enter command) answer p given records p' given' records' = ⊥
Fulfils bridge (Read reading) answer p given records p' given' records' =
    Looked reading answer × (p' ≡ p) × (given' ≡ given) × (records' ≡ records)

-- The request is carried out once, and then its answer is sent to the requester, once.
pub record Answers (bridge : ℕ) (request : Request) (p : PassState) (given : Option (List Parcel))
    (records : Said) (p' : PassState) (given' : Option (List Parcel)) (records' : Said) :
    Type 0 where
  pub answer : Response
  pub before : Said
  pub fulfils : Fulfils bridge request answer p given records p' given' before
  pub told : records' ≡ says before (answers answer ∷ [])
