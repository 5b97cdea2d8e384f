-- The destinations of datagrams that are sent over a UDP socket.
use Rattle.std.specs.Prelude.{ℕ}
use Rattle.ev_links.specs.declared.wire_out.SocketDestination.{SocketDestination}
use Rattle.ev_links.specs.declared.wire_out.SocketDestination.TheVariants.{One, Each}

-- the address that a datagram is sent to: its own address, or the fixed one
abbrev pub address_for : SocketDestination → ℕ → ℕ
address_for (One address port) to = address
address_for (Each port) to = to

-- the UDP port that each datagram is sent to
abbrev pub port_for : SocketDestination → ℕ
port_for (One address port) = port
port_for (Each port) = port
