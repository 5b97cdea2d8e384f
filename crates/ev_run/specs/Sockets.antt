-- The ends of a run's links.
use Rattle.std.specs.Prelude.{◌≡◌, ◌||◌, Bool, true, is_none, List, [], ◌∷◌, map, Contains}
use Rattle.std.specs.List.{filter_map, flat_map, list_any}
use Rattle.arrayvec.specs.ArrayVec.{ArrayVec}
use Rattle.ev_edge.specs.declared.config.EdgeConfig.{EdgeConfig}
use Rattle.ev_config.specs.declared.endpoint.Endpoint.{Endpoint}
use Rattle.ev_config.specs.declared.endpoint.PortEndpoints.{PortEndpoints}
use Rattle.ev_config.specs.declared.whole.Config.{Config}
use Rattle.ev_run.specs.declared.sockets.StartError.{StartError}
use Rattle.ev_run.specs.declared.sockets.StartError.TheVariants.{Unbindable, Unattached, Unnamed, NoMemory}
use Rattle.ev_run.specs.LinkEnds.{LinkEnd, Udp, Device, local_of, remote_of}

-- the endpoint of an edge's tunnels (RFC 7348)
abbrev pub tunnel_of : EdgeConfig → Endpoint
tunnel_of c = record { address = c.address; port = 4789 }

-- the ends at which ports receive their frames
abbrev pub locals_of : List PortEndpoints → List LinkEnd
locals_of links = filter_map local_of links

-- the ends at which an edge receives: from its tunnels, and from its ports
abbrev pub edge_ends : EdgeConfig → ArrayVec PortEndpoints → List LinkEnd
edge_ends edge links = Udp (tunnel_of edge) ∷ locals_of links.items

-- the ends to which ports send their frames
abbrev pub remotes_of : List PortEndpoints → List LinkEnd
remotes_of links = filter_map remote_of links

-- the ends to which the ports of each edge send, port 1 first
abbrev pub all_remotes : List (ArrayVec PortEndpoints) → List (List LinkEnd)
all_remotes all = map (λ links. remotes_of links.items) all

-- the ends at which each of these edges receives, with the links of each
abbrev pub ends_from : List EdgeConfig → List (ArrayVec PortEndpoints) → List (List LinkEnd)
ends_from [] all = []
ends_from (edge ∷ edges) [] = []
ends_from (edge ∷ edges) (links ∷ all) = edge_ends edge links ∷ ends_from edges all

-- the ends at which each edge of a configuration receives
abbrev pub endpoints_of : Config → List (List LinkEnd)
endpoints_of config = ends_from config.edges.items config.links.items

-- all of these, in one list
abbrev pub all_ends : Config → List LinkEnd
all_ends config = flat_map (λ ends. ends) (endpoints_of config)

-- a port has no end at which it receives its frames, or none to which it sends them
abbrev pub lacks_end : PortEndpoints → Bool
lacks_end link = is_none (local_of link) || is_none (remote_of link)

-- one of these ports lacks an end
abbrev pub lacks_ends : List PortEndpoints → Bool
lacks_ends links = list_any lacks_end links

-- a port of a configuration lacks an end
abbrev pub lacks_address : Config → Bool
lacks_address config = list_any (λ links. lacks_ends links.items) config.links.items

-- the reason that prevents a run over these ends: an endpoint can't be bound, a device can't be used, a port lacks
-- an end, or there is no memory
abbrev pub Hinders : List LinkEnd → Bool → StartError → Type 0
Hinders ends is_lacking (Unbindable at why) = Contains ends (Udp at)
Hinders ends is_lacking (Unattached name why) = Contains ends (Device name)
Hinders ends is_lacking Unnamed = is_lacking ≡ true
Hinders ends is_lacking NoMemory = Unit {0}
