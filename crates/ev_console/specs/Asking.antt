-- The requests that a console makes to edges that run, and their answers.
use Rattle.std.specs.Prelude.{ℕ, ◌+◌, List, [], ◌∷◌, Option, Result}
use Rattle.std.specs.Global.{Vec}
use Rattle.std.specs.declared.alloc.AllocError.{AllocError}
use Rattle.route_wire.specs.declared.update.Register.{Register}
use Rattle.route_join.specs.After.{PageView}
use Rattle.ev_edge.specs.declared.reply.Reply.{Reply}
use Rattle.ev_book.specs.declared.refusal.BookRefusal.{BookRefusal}
use Rattle.ev_mailboxes.specs.declared.request.OperatorCommand.{OperatorCommand as Step}
use Rattle.ev_mailboxes.specs.declared.request.PortView.{PortView}
use Rattle.ev_mailboxes.specs.declared.request.EdgeNetworks.{EdgeNetworks}
use Rattle.ev_view.specs.declared.view.EdgeQuestion.{EdgeQuestion}
use Rattle.ev_console.specs.declared.operated.Unreached.{Unreached}

-- the answer to a step
abbrev pub Entered : Type 0
Entered = Result (Result Reply BookRefusal) Unreached

-- a page of a table's report
abbrev pub PageSeen : Type 0
PageSeen = Result (Result PageView AllocError) Unreached

-- the state of a port
abbrev pub PortSeen : Type 0
PortSeen = Result (Option PortView) Unreached

-- the answer to a question
abbrev pub ViewSeen : Type 0
ViewSeen = Result (Result (Vec ℕ) AllocError) Unreached

-- the address, ports and VNIs that an edge serves
abbrev pub ServedSeen : Type 0
ServedSeen = Result (Result EdgeNetworks AllocError) Unreached

-- a request to the edge with this number, and its answer
pub data Asked : Type 0 where
  entered : ℕ → Step → Entered → Asked
  page_seen : ℕ → Option Register → PageSeen → Asked
  port_seen : ℕ → ℕ → PortSeen → Asked
  view_seen : ℕ → EdgeQuestion → ViewSeen → Asked
  served_seen : ℕ → ServedSeen → Asked

-- the requests for the address, ports and VNIs of these edges; the first edge has this number
abbrev pub served_from : ℕ → List ServedSeen → List Asked
served_from number [] = []
served_from number (answer ∷ answers) = served_seen number answer ∷ served_from (number + 1) answers
