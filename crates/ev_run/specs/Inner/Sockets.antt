-- The ends of a run's links, and their destinations.
use Rattle.std.specs.Prelude.{List, ◌∷◌, map, Option, Some, None, Result, Ok, Err}
use Rattle.ev_links.specs.declared.device_name.DeviceName.{DeviceName}
use Rattle.ev_links.specs.Tap.{name_of}
use Rattle.ev_links.specs.declared.tap.Tap as devices
use Rattle.ev_links.specs.Wire.{input_device}
use Rattle.ev_links.specs.WireOut.{output_device}
use Rattle.ev_links.specs.declared.wire.Wire.{Wire}
use Rattle.ev_links.specs.declared.wire_out.Destination.{Destination}
use Rattle.ev_links.specs.declared.wire_out.WireOut.{WireOut}
use Rattle.ev_peers.specs.declared.edge_links.Link.{Link}
use Rattle.ev_run.specs.declared.bound.Cable.{Cable}
use Rattle.ev_run.specs.declared.bound.Cable.TheVariants.{Socket, Tap}
use Rattle.ev_run.specs.declared.bound.Sockets.{Sockets}
use Rattle.ev_run.specs.declared.sockets.StartError.{StartError}
use Rattle.ev_run.specs.declared.sockets.StartError.TheVariants.{Unattached}
use Rattle.ev_run.specs.declared.taps.AttachError.{AttachError}
use Rattle.ev_run.specs.LinkEnds.{LinkEnd, Udp, Device}
use Rattle.ev_run.specs.Links.{sends_to}

-- the end at which a port receives its frames over a cable
abbrev pub local_end : Cable → LinkEnd
local_end (Socket socket local remote) = Udp local
local_end (Tap tap) = Device (name_of tap)

-- the end to which it sends them
abbrev pub remote_end : Cable → LinkEnd
remote_end (Socket socket local remote) = Udp remote
remote_end (Tap tap) = Device (name_of tap)

-- the cable over this device if it was found, or else why it can't be used
abbrev pub attached : DeviceName → AttachError → Option devices.Tap → Result Cable StartError
attached name others None = Err (Unattached name others)
attached name others (Some tap) = Ok (Tap tap)

-- the ends at which an edge receives: the one of its tunnels, then those of its ports
abbrev pub bound_at : Sockets → List LinkEnd
bound_at sockets = Udp sockets.at ∷ map local_end sockets.ports.items

-- the ends to which the ports of an edge send
abbrev pub sent_to : Sockets → List LinkEnd
sent_to sockets = map remote_end sockets.ports.items

-- the destination of the frames of a port
abbrev pub to_remote : Cable → Destination
to_remote cable = sends_to (remote_end cable)

-- the device of a cable, if it is one
abbrev pub tap_of : Cable → Option devices.Tap
tap_of (Socket socket local remote) = None
tap_of (Tap tap) = Some tap

-- the devices that a link receives from and sends over
abbrev pub devices_of : {C : Type 0} → Link (Wire C) WireOut → Option devices.Tap × Option devices.Tap
devices_of link = (input_device link.input, output_device link.output)

-- a port's link receives from its device and sends over it, or does neither
abbrev pub own_devices : Cable → Option devices.Tap × Option devices.Tap
own_devices cable = (tap_of cable, tap_of cable)

-- a link of these two directions
abbrev pub link_of : {I O : Type 0} → I → O → Link I O
link_of input output = record { input = input; output = output }
