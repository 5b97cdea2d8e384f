-- An edge's book beside the history.
use Rattle.std.specs.Prelude.{◌≡◌, ℕ, Bool, true, false, Option, Some, None, List, Result, Ok, Err, slice_get}
use Rattle.route_wire.specs.Fields.{Fields}
use Rattle.ev_edge.specs.declared.event.Event.{Event}
use Rattle.ev_edge.specs.declared.event.Event.TheVariants as events
use Rattle.ev_edge.specs.declared.reply.Reply.{Reply}
use Rattle.ev_edge.specs.declared.config.EdgeConfig.{EdgeConfig}
use Rattle.ev_edge.specs.Edge.{Edge}
use Rattle.ev_edge.specs.Opening as openings
use Rattle.ev_book.specs.declared.refusal.BookRefusal.{BookRefusal}
use Rattle.ev_book.specs.declared.log_entry.LogEntry.{LogEntry}
use Rattle.ev_book.specs.Log.{world}

-- whether other edges have no part in an event: it is no update of another edge and no announcement
abbrev pub is_own : Event → Bool
is_own (events.Take u) = false
is_own events.Announce = false
is_own (events.Frame port octets) = true
is_own (events.TunnelFrame from octets) = true
is_own (events.Pin s port) = true
is_own (events.Unpin s) = true
is_own (events.Thaw s) = true
is_own events.Second = true
is_own (events.PortUp port) = true
is_own (events.PortDown port) = true
is_own (events.Mcheck port) = true
is_own (events.Away a) = true
is_own (events.Back a) = true

-- an event that other edges have no part in, or this update of another edge
abbrev pub IsCovered : Event → Option Fields → Type 0
IsCovered event None = is_own event ≡ true
IsCovered event (Some u) = event ≡ events.Take u

-- the update that an answer announces
abbrev pub announced_by : Result Reply BookRefusal → Option Fields
announced_by (Ok reply) = reply.announced
announced_by (Err refusal) = None

-- the edge at this place isn't open yet, and this is how it opens
pub record Opens (place : ℕ) (log : List LogEntry) (edge : Edge) : Type 0 where
  pub config : EdgeConfig
  pub is_there : slice_get (world log).configs place ≡ Some config
  pub closed : (world log).edges place ≡ None
  pub opens : openings.IsOpening config edge
