-- The events that come to an edge from outside the fabric.
use Rattle.ev_edge.specs.declared.event.Event.{Event}
use Rattle.ev_edge.specs.declared.event.Event.TheVariants as events
use Rattle.ev_fabric.specs.declared.step.LocalEvent.{LocalEvent}
use Rattle.ev_fabric.specs.declared.step.LocalEvent.TheVariants.{Frame, TunnelFrame, Pin, Unpin, Thaw, Second, PortUp}
use Rattle.ev_fabric.specs.declared.step.LocalEvent.TheVariants.{PortDown, Mcheck, Away, Back}

-- this event as an event of an edge
abbrev pub event_of : LocalEvent → Event
event_of (Frame port octets) = events.Frame port octets
event_of (TunnelFrame from octets) = events.TunnelFrame from octets
event_of (Pin s port) = events.Pin s port
event_of (Unpin s) = events.Unpin s
event_of (Thaw s) = events.Thaw s
event_of Second = events.Second
event_of (PortUp port) = events.PortUp port
event_of (PortDown port) = events.PortDown port
event_of (Mcheck port) = events.Mcheck port
event_of (Away a) = events.Away a
event_of (Back a) = events.Back a
