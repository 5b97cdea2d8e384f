-- The forwarding decision (RFC 7432, section 11, and RFC 8365, section 5, for flooding by ingress replication and for
-- split horizon: a frame from a tunnel goes into no tunnel). The RFCs have no edges that are away: that a frame goes to
-- no edge of a given list is a rule of this project.
use Rattle.std.specs.Prelude.{ℕ, eqb, ◌==◌, ◌&&◌, not, Bool, false, if◌then◌else◌, List, [], ◌∷◌, filter, Option}
use Rattle.std.specs.Prelude.{Some, None}
use Rattle.std.specs.List.{list_any}
use Rattle.ether_wire.specs.Ports.{IsPort, has_port, no_ports, with_port, without_port, common_ports}
use Rattle.ev_tunnel.specs.declared.decision.Ports.{Ports}
use Rattle.ev_tunnel.specs.declared.decision.Source.{Source}
use Rattle.ev_tunnel.specs.declared.decision.Source.TheVariants.{Port, Tunnel}
use Rattle.ev_tunnel.specs.declared.place.Place.{Place}
use Rattle.ev_tunnel.specs.declared.place.Place.TheVariants.{Everywhere, AtPort, AtEdge}
use Rattle.route_join.specs.Table.{Table}
use Rattle.route_join.specs.Owner.{owner}
use Rattle.route_join.specs.Flood.{flood_of}
use Rattle.ev_tunnel.specs.Place.{place_of}

-- the port that a frame came from is one
abbrev pub IsFrom : Source → Type 0
IsFrom (Port p) = IsPort p
IsFrom Tunnel = Unit {0}

-- did the frame come from this port
abbrev pub is_from : Source → ℕ → Bool
is_from (Port p) port = p == port
is_from Tunnel port = false

-- the members of the network that pass, but for the port that the frame came from
abbrev pub open_ports : Source → Ports → ℕ
open_ports (Port p) ports = without_port (common_ports ports.members ports.passing) p
open_ports Tunnel ports = common_ports ports.members ports.passing

-- only the port, if it passes and the frame did not come from it
abbrev pub port_alone : ℕ → Source → Ports → ℕ
port_alone port from ports = if has_port ports.passing port
    && not (is_from from port) then with_port no_ports port else no_ports

-- the access ports that get the frame
abbrev pub local_of : Place → Source → Ports → ℕ
local_of Everywhere from ports = open_ports from ports
local_of (AtPort port) from ports = port_alone port from ports
local_of (AtEdge edge) from ports = no_ports

-- the edges that are not this one
abbrev pub others_of : ℕ → List ℕ → List ℕ
others_of own edges = filter (λ edge. not (edge == own)) edges

-- the edges that get the frame, if `flood` advertise the VNI's flood list
abbrev pub remote_of : Place → Source → List ℕ → ℕ → List ℕ
remote_of place Tunnel flood own = []
remote_of Everywhere (Port p) flood own = others_of own flood
remote_of (AtPort port) (Port p) flood own = []
remote_of (AtEdge edge) (Port p) flood own = edge ∷ []

-- the same for a frame of this network and destination, at this edge with this table
abbrev pub local_for : Table → ℕ → ℕ → Option ℕ → ℕ → Source → ℕ → ℕ → ℕ
local_for t vni destination entry own from members passing =
    local_of (place_of destination entry (owner t vni destination) own) from
    (record { members = members; passing = passing })

abbrev pub remote_for : Table → ℕ → ℕ → Option ℕ → ℕ → Source → List ℕ
remote_for t vni destination entry own from =
    remote_of (place_of destination entry (owner t vni destination) own) from (flood_of t vni) own

-- ---- edges that are away

abbrev pub is_away : List ℕ → ℕ → Bool
is_away away edge = list_any (λ a. eqb a edge) away

abbrev pub is_up : List ℕ → ℕ → Bool
is_up away edge = not (is_away away edge)

-- the owner, unless it is away
abbrev pub up_owner : List ℕ → Option ℕ → Option ℕ
up_owner away None = None
up_owner away (Some edge) = if is_up away edge then Some edge else None

-- the edges that are not away
abbrev pub up_edges : List ℕ → List ℕ → List ℕ
up_edges away edges = filter (is_up away) edges

-- `local_for` and `remote_for` if these edges are away: an owner that is away owns nothing, and no frame is flooded to
-- it
abbrev pub local_up : List ℕ → Table → ℕ → ℕ → Option ℕ → ℕ → Source → ℕ → ℕ → ℕ
local_up away t vni destination entry own from members passing =
    local_of (place_of destination entry (up_owner away (owner t vni destination)) own) from
    (record { members = members; passing = passing })

abbrev pub remote_up : List ℕ → Table → ℕ → ℕ → Option ℕ → ℕ → Source → List ℕ
remote_up away t vni destination entry own from =
    remote_of (place_of destination entry (up_owner away (owner t vni destination)) own) from
    (up_edges away (flood_of t vni)) own
