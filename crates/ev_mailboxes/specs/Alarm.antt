-- The alert of an event, for the operator of an edge.
use Rattle.std.specs.Prelude.{ℕ, Bool, false, true, List, Option, Some, None, is_some, option_map, Result, Ok, Err}
use Rattle.std.specs.Prelude.{if◌then◌else◌}
use Rattle.ether_wire.specs.Frame.{source_of, frame_of}
use Rattle.ether_wire.specs.declared.frame.FrameRefusal.{FrameRefusal}
use Rattle.route_wire.specs.declared.update.Key.{Key}
use Rattle.route_wire.specs.declared.update.Key.TheVariants.{Flood, Mac}
use Rattle.mac_arena.specs.declared.station.Station.{Station}
use Rattle.ev_mobility.specs.declared.alert.Alert.{Alert}
use Rattle.ev_mobility.specs.declared.alert.Alert.TheVariants as alerts
use Rattle.ev_mobility.specs.Alert.{port_of as limited_port}
use Rattle.ev_edge.specs.declared.event.Event.{Event}
use Rattle.ev_edge.specs.declared.event.Event.TheVariants.{Frame, Take, Pin, Unpin, Thaw, Second}
use Rattle.ev_edge.specs.declared.refusal.EdgeRefusal.TheVariants as edge
use Rattle.ev_edge.specs.declared.refusal.Refusal.TheVariants as refused
use Rattle.ev_edge.specs.declared.reply.Reply.{Reply}
use Rattle.ev_book.specs.declared.refusal.BookRefusal.{BookRefusal}
use Rattle.ev_book.specs.declared.refusal.BookRefusal.TheVariants as book
use Rattle.ev_mailboxes.specs.declared.alarm.Alarm.{Alarm}

-- ---- the station and port of an event

-- the station that a key names; a flood list has none
abbrev pub station_by : Key → Option Station
station_by (Flood vni) = None
station_by (Mac vni mac ip) = Some (record { vni = vni; mac = mac })

-- the station that sent a frame of this network, if the octets are a frame
abbrev pub station_in : ℕ → Result (List ℕ) FrameRefusal → Option Station
station_in vni (Ok frame) = Some (record { vni = vni; mac = source_of frame })
station_in vni (Err refusal) = None

-- the station of an event; the VNI is that of the frame, if the event brings one
abbrev pub station_of : ℕ → Event → Option Station
station_of vni (Frame port octets) = station_in vni (frame_of octets.now)
station_of vni (Take u) = station_by u.register.key
station_of vni (Pin s port) = Some s
station_of vni (Unpin s) = Some s
station_of vni (Thaw s) = Some s
station_of vni _ = None

-- the access port of an event's station
abbrev pub port_of : Event → Option ℕ
port_of (Frame port octets) = Some port
port_of (Pin s port) = Some port
port_of _ = None

-- a second passes with the event
abbrev pub is_second : Event → Bool
is_second Second = true
is_second _ = false

-- ---- the alert of the event's answer

-- the call was refused for want of memory, or for the storm limit of a port
abbrev pub refusal_alert : BookRefusal → Option Alert
refusal_alert book.NoRoom = Some alerts.NoMemory
refusal_alert (book.Edge (refused.Edge edge.NoMemory)) = Some alerts.NoMemory
refusal_alert (book.Edge (refused.Edge (edge.PortStorm port))) = Some (alerts.PortStorm port)
refusal_alert _ = None

-- the alert of an answer: that of the reply, or that of the refusal
abbrev pub alert_of : Result Reply BookRefusal → Option Alert
alert_of (Ok reply) = reply.alert
alert_of (Err refusal) = refusal_alert refusal

-- the station of an alert; one about the limit of a port is about no single station
abbrev pub station_for : Alert → ℕ → Event → Option Station
station_for alert vni event = if is_some (limited_port alert) then None else station_of vni event

-- an alert, with its station and port
abbrev pub alarm_of : ℕ → Event → Result Reply BookRefusal → Option Alarm
alarm_of vni event answer =
    option_map (λ alert. record { alert = alert; station = station_for alert vni event; port = port_of event })
    (alert_of answer)
