-- The parts of a configuration that no run can use.
use Rattle.std.specs.Prelude.{ℕ, ◌+◌, ◌-◌, Bool, false, ◌&&◌, ◌||◌, ◌==◌, nat_lt, if◌then◌else◌, List, [], ◌∷◌, ◌++◌}
use Rattle.std.specs.Prelude.{length, take, codes, Option, Some, None}
use Rattle.std.specs.Fmt.{decimal}
use Rattle.std.specs.List.{list_any}
use Rattle.std.specs.Option.{option_map_or}
use Rattle.arrayvec.specs.ArrayVec.{ArrayVec}
use Rattle.ev_edge.specs.declared.config.EdgeConfig.{EdgeConfig}
use Rattle.ev_config.specs.declared.endpoint.Endpoint.{Endpoint}
use Rattle.ev_config.specs.declared.endpoint.PortEndpoints.{PortEndpoints}
use Rattle.ev_report.specs.Originators.{Text}
use Rattle.ev_run.specs.declared.obstacles.End.{End}
use Rattle.ev_run.specs.declared.obstacles.End.TheVariants.{Local, Remote}
use Rattle.ev_run.specs.declared.obstacles.Cause.{Cause}
use Rattle.ev_run.specs.declared.obstacles.Cause.TheVariants.{NoPort, NoHost, Tunnel, Taken}
use Rattle.ev_run.specs.declared.obstacles.ProcessLimits.{ProcessLimits}
use Rattle.ev_run.specs.declared.obstacles.EdgePort.{EdgePort}
use Rattle.ev_run.specs.declared.obstacles.Obstacle.{Obstacle}
use Rattle.ev_run.specs.declared.obstacles.Obstacle.TheVariants.{Unheard, Useless, TooMany, TooManyThreads}
use Rattle.ev_run.specs.RunEdges.{endpoint_text}
use Rattle.ev_view.specs.EdgeViews.{each_from}
use Rattle.ev_run.specs.Needs.{sockets_of, threads_of}
use Rattle.ev_run.specs.Sockets.{tunnel_of}

-- ---- sockets that clash

-- both can't be bound: they have the same UDP port, and either the same address, or one of them all addresses (0.0.0.0)
abbrev pub clashes : Endpoint → Endpoint → Bool
clashes a b = a.port == b.port && (a.address == b.address || (a.address == 0 || b.address == 0))

abbrev pub is_tunnel : List EdgeConfig → Endpoint → Bool
is_tunnel edges at = list_any (λ c. clashes (tunnel_of c) at) edges

-- the local end of a port clashes with this endpoint
abbrev pub is_local : Endpoint → PortEndpoints → Bool
is_local at link = option_map_or (λ local. clashes local at) link.local false

-- the local end of a port of these edges, or of one of these ports, clashes with this endpoint
abbrev pub is_taken : List (ArrayVec PortEndpoints) → List PortEndpoints → Endpoint → Bool
is_taken before ports at = list_any (λ links. list_any (is_local at) links.items) before || list_any (is_local at) ports

-- ---- the ends of a port

-- why a port can't receive its frames at this endpoint, given all edges, the links of the edges before its own, and the
-- links of the ports before it
abbrev pub local_cause : List EdgeConfig → List (ArrayVec PortEndpoints) → List PortEndpoints → Endpoint → Option Cause
local_cause edges before ports at =
    if at.port == 0 then Some NoPort
    else if is_tunnel edges at then Some Tunnel else if is_taken before ports at then Some Taken else None

-- why a port can't send its frames to this endpoint
abbrev pub remote_cause : Endpoint → Option Cause
remote_cause at = if at.port == 0 then Some NoPort else if at.address == 0 then Some NoHost else None

abbrev pub useless : EdgePort → End → Endpoint → Option Cause → List Obstacle
useless seat end at None = []
useless seat end at (Some cause) = Useless seat end at cause ∷ []

abbrev pub local_obstacles : List EdgeConfig → List (ArrayVec PortEndpoints) → List PortEndpoints → EdgePort
    → Option Endpoint → List Obstacle
local_obstacles edges before ports seat None = []
local_obstacles edges before ports seat (Some at) = useless seat Local at (local_cause edges before ports at)

abbrev pub remote_obstacles : EdgePort → Option Endpoint → List Obstacle
remote_obstacles seat None = []
remote_obstacles seat (Some at) = useless seat Remote at (remote_cause at)

-- the obstacles of a port
abbrev pub port_obstacles : List EdgeConfig → List (ArrayVec PortEndpoints) → List PortEndpoints → EdgePort
    → PortEndpoints
    → List Obstacle
port_obstacles edges before ports seat link =
    local_obstacles edges before ports seat link.local ++ remote_obstacles seat link.remote

-- the obstacles of the port at a place of an edge, given the links of the edges before it and its own links
abbrev pub obstacles_at : List EdgeConfig → List (ArrayVec PortEndpoints) → List PortEndpoints → ℕ → PortEndpoints
    → List Obstacle
obstacles_at edges before links place link =
    port_obstacles edges before (take place links) (record { edge = length before + 1; port = place + 1 }) link

-- the obstacles of all ports of an edge
abbrev pub ports_obstacles : List EdgeConfig → List (ArrayVec PortEndpoints) → List PortEndpoints → List Obstacle
ports_obstacles edges before links = each_from (obstacles_at edges before links) 0 links

-- the obstacles of the ports of the edge at a place
abbrev pub ports_at : List EdgeConfig → List (ArrayVec PortEndpoints) → ℕ → ArrayVec PortEndpoints → List Obstacle
ports_at edges all place links = ports_obstacles edges (take place all) links.items

-- the obstacles of all ports
abbrev pub all_ports_obstacles : List EdgeConfig → List (ArrayVec PortEndpoints) → List Obstacle
all_ports_obstacles edges all = each_from (ports_at edges all) 0 all

-- ---- all obstacles

-- an edge whose address is 0.0.0.0: its datagrams come from a different address
abbrev pub edge_obstacles : ℕ → EdgeConfig → List Obstacle
edge_obstacles number c = if c.address == 0 then Unheard number ∷ [] else []

-- the sockets and the three standard streams take more descriptors than are allowed, if that limit is known
abbrev pub count_obstacles : ℕ → Option ℕ → List Obstacle
count_obstacles sockets None = []
count_obstacles sockets (Some most) = if nat_lt (most - 3) sockets then TooMany sockets most ∷ [] else []

-- a run begins with more threads than are allowed, if that limit is known
abbrev pub thread_obstacles : ℕ → Option ℕ → List Obstacle
thread_obstacles threads None = []
thread_obstacles threads (Some most) = if nat_lt most threads then TooManyThreads threads most ∷ [] else []

-- the limits that are too low for a run
abbrev pub limit_obstacles : List EdgeConfig → Bool → ProcessLimits → List Obstacle
limit_obstacles edges is_asked limits = count_obstacles (sockets_of is_asked edges) limits.descriptors
    ++ thread_obstacles (threads_of is_asked edges) limits.threads

-- the obstacles of a run, which clients may query if `is_asked`
abbrev pub obstacles_of : List EdgeConfig → List (ArrayVec PortEndpoints) → Bool → ProcessLimits → List Obstacle
obstacles_of edges all is_asked limits =
    (each_from edge_obstacles 1 edges ++ all_ports_obstacles edges all) ++ limit_obstacles edges is_asked limits

-- ---- the text

abbrev pub lead_text : End → Text
lead_text Local = codes "local is "
lead_text Remote = codes "remote is "

abbrev pub cause_text : Cause → Text
cause_text NoPort = codes ", and UDP port 0 is none\n"
cause_text NoHost = codes ", and address 0.0.0.0 is nobody's\n"
cause_text Tunnel = codes ", where an edge has its tunnels\n"
cause_text Taken = codes ", where a port before it takes its frames\n"

-- `, port P: `
abbrev pub port_text : ℕ → Text
port_text port = codes ", port " ++ decimal port ++ codes ": "

-- `edge E, port P: `
abbrev pub seat_text : EdgePort → Text
seat_text seat = codes "edge " ++ decimal seat.edge ++ port_text seat.port

-- the kind of an end, and its endpoint
abbrev pub end_text : End → Endpoint → Text
end_text end at = lead_text end ++ endpoint_text at

abbrev pub most_text : ℕ → Text
most_text most = codes " sockets and 3 standard streams, allowed are " ++ decimal most ++ codes " descriptors\n"

abbrev pub most_threads_text : ℕ → Text
most_threads_text most = codes " threads, allowed are " ++ decimal most ++ codes "\n"

abbrev pub obstacle_text : Obstacle → Text
obstacle_text (Unheard edge) = codes "edge " ++ decimal edge
    ++ codes ": address is 0.0.0.0, from which no edge is heard\n"
obstacle_text (Useless seat end at cause) = seat_text seat ++ end_text end at ++ cause_text cause
obstacle_text (TooMany sockets most) = decimal sockets ++ most_text most
obstacle_text (TooManyThreads threads most) = decimal threads ++ most_threads_text most

-- the text is independent of the number
abbrev pub told_of : ℕ → Obstacle → Text
told_of number obstacle = obstacle_text obstacle

abbrev pub obstacles_text : List Obstacle → Text
obstacles_text found = each_from told_of 0 found
