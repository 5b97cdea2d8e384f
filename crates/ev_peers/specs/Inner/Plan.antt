-- The plan for the threads of an edge: the task of each, and the link over which each sends.
use Rattle.std.specs.Prelude.{ℕ, ◌+◌, List, [], ◌∷◌, length, map, reverse, slice_get, Option, Some, None}
use Rattle.ev_edge.specs.declared.config.PortConfig.{PortConfig}
use Rattle.ev_peers.specs.declared.edge_links.Link.{Link}
use Rattle.ev_peers.specs.declared.plan.Task.{Task}
use Rattle.ev_peers.specs.declared.plan.Task.TheVariants.{Port, Tunnel, Clock, Peer}

-- the place of the link over which a task's datagrams come
abbrev pub source_of : {I : Type 0} → Task I → ℕ
source_of (Port port vni link) = port
source_of (Tunnel link) = 0
source_of (Clock clock) = 0
source_of Peer = 0

-- the network of a port, or network 0 if the port doesn't exist
abbrev pub vni_in : Option PortConfig → ℕ
vni_in None = 0
vni_in (Some port) = port.vni

-- the network of the port at this place, the one of port 1 being place 0
abbrev pub vni_at : List PortConfig → ℕ → ℕ
vni_at ports place = vni_in (slice_get ports place)

-- the task of each of these links, that of the last port first: the port's number, its network, its link
abbrev pub port_tasks : {I O : Type 0} → List PortConfig → List (Link I O) → List (Task I)
port_tasks ports [] = []
port_tasks ports (link ∷ before) =
    Port (length before + 1) (vni_at ports (length before)) link.input ∷ port_tasks ports before

-- the tasks of the clock, of the tunnel, and of the ports, the last port first
abbrev pub tasks_of : {I O : Type 0} → List PortConfig → I → I → List (Link I O) → List (Task I)
tasks_of ports clock tunnel links = Clock clock ∷ Tunnel tunnel ∷ port_tasks ports (reverse links)

-- the outputs of ports, the last port first
abbrev pub outputs_back : {I O : Type 0} → List (Link I O) → List O
outputs_back links = map (λ link. link.output) (reverse links)

-- all outputs: the tunnel's, then those of the ports, port 1 first
abbrev pub outputs_of : {I O : Type 0} → O → List (Link I O) → List O
outputs_of tunnel links = tunnel ∷ map (λ link. link.output) links
