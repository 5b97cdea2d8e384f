-- The destinations of a frame (RFC 7432, section 11; ingress replication and split horizon: RFC 8365, section 5)
use Rattle.ether_wire.specs.Ports.{IsPort}
use Rattle.ev_tunnel.specs.declared.place.Place.{Place}
use Rattle.ev_tunnel.specs.declared.place.Place.TheVariants.{Everywhere, AtPort, AtEdge}

-- the port where a destination is is one
abbrev pub IsPlace : Place → Type 0
IsPlace Everywhere = Unit {0}
IsPlace (AtPort port) = IsPort port
IsPlace (AtEdge edge) = Unit {0}
