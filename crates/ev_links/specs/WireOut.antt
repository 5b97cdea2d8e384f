-- Links that send over UDP sockets and tap devices.
use Rattle.std.specs.Prelude.{Option, Some, None}
use Rattle.ev_links.specs.Tap.{name_of}
use Rattle.ev_links.specs.declared.tap.Tap.{Tap}
use Rattle.ev_links.specs.declared.wire_out.Destination.{Destination}
use Rattle.ev_links.specs.declared.wire_out.Destination.TheVariants.{Fixed, At, Device}
use Rattle.ev_links.specs.declared.wire_out.SocketDestination.{SocketDestination}
use Rattle.ev_links.specs.declared.wire_out.SocketDestination.TheVariants.{One, Each}
use Rattle.ev_links.specs.declared.wire_out.Way.{Way}
use Rattle.ev_links.specs.declared.wire_out.Way.TheVariants.{Datagrams, Frames}
use Rattle.ev_links.specs.declared.wire_out.WireOut.{WireOut}

-- the destination of the datagrams that go out of a socket
abbrev pub over_socket : SocketDestination → Destination
over_socket (One address port) = Fixed address port
over_socket (Each port) = At port

abbrev pub destination_by : Way → Destination
destination_by (Datagrams socket to) = over_socket to
destination_by (Frames tap) = Device (name_of tap)

-- the destination of the datagrams that go out of a link
abbrev pub destination_of : WireOut → Destination
destination_of link = destination_by link.way

abbrev pub device_over : Way → Option Tap
device_over (Datagrams socket to) = None
device_over (Frames tap) = Some tap

-- the device that a link sends over, if it sends over one
abbrev pub output_device : WireOut → Option Tap
output_device link = device_over link.way
