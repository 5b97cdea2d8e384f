-- The content of an edge's answer.
use Rattle.std.specs.Prelude.{ℕ, Option, Some, None, Result}
use Rattle.std.specs.Global.{Vec}
use Rattle.std.specs.declared.alloc.AllocError.{AllocError}
use Rattle.route_join.specs.After.{PageView}
use Rattle.ev_edge.specs.declared.reply.Reply.{Reply}
use Rattle.ev_book.specs.declared.refusal.BookRefusal.{BookRefusal}
use Rattle.ev_mailboxes.specs.declared.request.Response.{Response}
use Rattle.ev_mailboxes.specs.declared.request.Response.TheVariants.{Entered, Page, Port, Served as Serves, View}
use Rattle.ev_mailboxes.specs.declared.request.PortView.{PortView}
use Rattle.ev_mailboxes.specs.declared.request.EdgeNetworks.{EdgeNetworks}

-- the book's answer to a step, if this is the answer to a step
abbrev pub entered_in : Response → Option (Result Reply BookRefusal)
entered_in (Entered answer) = Some answer
entered_in (Page page) = None
entered_in (Port view) = None
entered_in (Serves served) = None
entered_in (View text) = None

-- the page of a report, if this is the answer to that query
abbrev pub page_in : Response → Option (Result PageView AllocError)
page_in (Entered answer) = None
page_in (Page page) = Some page
page_in (Port view) = None
page_in (Serves served) = None
page_in (View text) = None

-- the state of a port, if this is the answer to that query
abbrev pub port_in : Response → Option (Option PortView)
port_in (Entered answer) = None
port_in (Page page) = None
port_in (Port view) = Some view
port_in (Serves served) = None
port_in (View text) = None

-- an edge's address and networks, if this is the answer to that query
abbrev pub served_in : Response → Option (Result EdgeNetworks AllocError)
served_in (Entered answer) = None
served_in (Page page) = None
served_in (Port view) = None
served_in (Serves served) = Some served
served_in (View text) = None

-- the text of a view, if this is the answer to that query
abbrev pub view_in : Response → Option (Result (Vec ℕ) AllocError)
view_in (Entered answer) = None
view_in (Page page) = None
view_in (Port view) = None
view_in (Serves served) = None
view_in (View text) = Some text
