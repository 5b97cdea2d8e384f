-- From the configuration to the links of a run: the setups of its edges.
use Rattle.std.specs.Prelude.{◌≡◌, ℕ, ◌==◌, if◌then◌else◌, List, map}
use Rattle.ev_edge.specs.declared.config.EdgeConfig.{EdgeConfig}
use Rattle.ev_links.specs.WireOut.{destination_of}
use Rattle.ev_links.specs.declared.wire_out.Destination.{Destination}
use Rattle.ev_links.specs.declared.wire_out.Destination.TheVariants as to
use Rattle.ev_links.specs.declared.wire_out.WireOut.{WireOut}
use Rattle.ev_peers.specs.EdgeThreads.{EdgeSetup}
use Rattle.ev_run.specs.LinkEnds.{LinkEnd, Udp, Device}

-- the destination of the frames for an end
abbrev pub sends_to : LinkEnd → Destination
sends_to (Udp at) = to.Fixed at.address at.port
sends_to (Device name) = to.Device name

-- the destinations of an edge's ports, port 1 first
abbrev pub destinations_of : EdgeSetup WireOut → List Destination
destinations_of setup = map destination_of setup.outputs

-- the configuration with which an edge begins: in this incarnation if it names none
abbrev pub begun_of : ℕ → EdgeConfig → EdgeConfig
begun_of incarnation config =
    record config { incarnation = if config.incarnation == 0 then incarnation else config.incarnation }

-- The setups are those of edges with these configurations, in their order. Each port of an edge sends to its end
-- of `remotes`, port 1 to the first one.
pub record AreSetupsOf (incarnation : ℕ) (configs : List EdgeConfig) (remotes : List (List LinkEnd))
    (setups : List (EdgeSetup WireOut)) : Type 0 where
  pub begun : map (λ setup. setup.config) setups ≡ map (begun_of incarnation) configs
  pub sends : map destinations_of setups ≡ map (map sends_to) remotes
