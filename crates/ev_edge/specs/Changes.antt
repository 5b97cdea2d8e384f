-- The changes of an edge's own registers at an event: it takes the accepted update, and then makes own updates.
use Rattle.std.specs.Prelude.{◌≡◌, ◌+◌, ◌≤◌, Result, Ok, Err, List, [], ◌∷◌, ◌++◌, length}
use Rattle.route_wire.specs.declared.update.Key.{Key}
use Rattle.route_wire.specs.declared.update.Content.{Content}
use Rattle.route_wire.specs.Fields.{Fields}
use Rattle.route_join.specs.Table.{with_updates}
use Rattle.ev_claims.specs.Speaker.{Speaker, after_importing, after_announcing}
use Rattle.ev_claims.specs.LocalRoutes.{entries}
use Rattle.ev_claims.specs.Changes.{Says, said_updates}
use Rattle.ev_edge.specs.declared.event.Event.{Event}
use Rattle.ev_edge.specs.declared.event.Event.TheVariants as events
use Rattle.ev_edge.specs.declared.reply.Reply.{Reply}
use Rattle.ev_edge.specs.declared.refusal.Refusal.{Refusal}
use Rattle.ev_edge.specs.Edge.{Edge, table_of}

-- the update that an event brings
abbrev pub brought : Event → List Fields
brought (events.Frame port octets) = []
brought (events.TunnelFrame from octets) = []
brought (events.Take u) = u ∷ []
brought (events.Pin s port) = []
brought (events.Unpin s) = []
brought (events.Thaw s) = []
brought events.Second = []
brought (events.PortUp port) = []
brought (events.PortDown port) = []
brought (events.Mcheck port) = []
brought events.Announce = []
brought (events.Away a) = []
brought (events.Back a) = []

-- it is accepted unless it is refused; one that the table knew already is accepted, too
abbrev pub accepted : Event → Result Reply Refusal → List Fields
accepted event (Ok reply) = brought event
accepted event (Err r) = []

-- the own registers after the event's update was taken, or after the first pending register was announced
abbrev pub heard_in : Event → Speaker → Speaker
heard_in (events.Frame port octets) v = v
heard_in (events.TunnelFrame from octets) v = v
heard_in (events.Take u) v = after_importing v u
heard_in (events.Pin s port) v = v
heard_in (events.Unpin s) v = v
heard_in (events.Thaw s) v = v
heard_in events.Second v = v
heard_in (events.PortUp port) v = v
heard_in (events.PortDown port) v = v
heard_in (events.Mcheck port) v = v
heard_in events.Announce v = after_announcing v
heard_in (events.Away a) v = v
heard_in (events.Back a) v = v

abbrev pub heard : Event → Result Reply Refusal → Speaker → Speaker
heard event (Ok reply) v = heard_in event v
heard event (Err r) v = v

-- From there the edge makes own updates, no key twice: `Says` gives its changes, their numbers and the pending
-- registers. There is at most one more than it had stations. The table takes the accepted update, and then the own
-- ones.
pub record Changes (e : Edge) (event : Event) (result : Result Reply Refusal) (e' : Edge) : Type 0 where
  pub said : List (Key × Content)
  pub few : length said ≤ entries e.routes + 1
  pub says : Says (heard event result e.routes.speaker) e'.routes.speaker said
  pub address : e'.routes.speaker.address ≡ e.routes.speaker.address
  pub incarnation : e'.routes.speaker.incarnation ≡ e.routes.speaker.incarnation
  pub counter : e'.routes.speaker.counter ≡ e.routes.speaker.counter + length said
  pub table : table_of e' ≡ with_updates (table_of e) (accepted event result
      ++ said_updates (heard event result e.routes.speaker) said)
