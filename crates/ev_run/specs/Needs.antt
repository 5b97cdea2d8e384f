-- The resources that a run takes at its beginning.
use Rattle.std.specs.Prelude.{ℕ, ◌+◌, ◌-◌, ◌*◌, ◌/◌, ◌^◌, min, Bool, ◌==◌, if◌then◌else◌, List, [], ◌++◌, length, fold}
use Rattle.std.specs.Prelude.{codes, is_some}
use Rattle.std.specs.List.{filter}
use Rattle.std.specs.Fmt.{decimal}
use Rattle.arrayvec.specs.ArrayVec.{ArrayVec}
use Rattle.ev_edge.specs.declared.config.EdgeConfig.{EdgeConfig}
use Rattle.ev_config.specs.declared.endpoint.PortEndpoints.{PortEndpoints}
use Rattle.ev_report.specs.Originators.{Text}
use Rattle.ev_run.specs.declared.needs.Needs.{Needs}

-- the number of ports of an edge
abbrev pub ports_of : EdgeConfig → ℕ
ports_of c = length c.ports.items

-- two threads for each port and two for the tunnel, of which one receives and one sends; one for the clock, one for the
-- updates of other edges, and the edge's own
abbrev pub edge_threads : EdgeConfig → ℕ
edge_threads c = 2 * ports_of c + 5

-- one descriptor for the tunnel, and one for each port
abbrev pub edge_sockets : EdgeConfig → ℕ
edge_sockets c = ports_of c + 1

-- The approximate number of octets of memory: the measured needs of an edge, of each thread, and of each place and
-- bucket of a learning table, of which there are at most 65536.
abbrev pub edge_memory : EdgeConfig → ℕ
edge_memory c = (512000 + 98304 * edge_threads c) + (68 * min c.capacity 65536 + 12 * min c.buckets 65536)

-- the greatest number that is counted
abbrev pub most : ℕ
most = 2 ^ 64 - 1

-- the needs with one edge more
abbrev pub with_edge : Needs → EdgeConfig → Needs
with_edge n c = record {
  threads = min (n.threads + edge_threads c) most;
  sockets = min (n.sockets + edge_sockets c) most;
  devices = n.devices;
  memory = min (n.memory + edge_memory c) most;
}

-- the needs without edges: the thread that reads standard input, the one that writes alerts, and the program's memory
abbrev pub alone : Needs
alone = record { threads = 2; sockets = 0; devices = 0; memory = 2351104 }

-- the needs if each port is a socket
abbrev pub edges_needs : List EdgeConfig → Needs
edges_needs edges = fold with_edge alone edges

abbrev pub is_device : PortEndpoints → Bool
is_device link = is_some link.device

-- the number of devices, with those of one more edge
abbrev pub with_devices : ℕ → ArrayVec PortEndpoints → ℕ
with_devices n links = min (n + length (filter is_device links.items)) most

abbrev pub devices_of : List (ArrayVec PortEndpoints) → ℕ
devices_of all = fold with_devices 0 all

abbrev pub needs_of : List EdgeConfig → List (ArrayVec PortEndpoints) → Needs
needs_of edges all =
    record (edges_needs edges) { sockets = (edges_needs edges).sockets - devices_of all; devices = devices_of all }

-- ---- clients that query a run

-- The most sockets that clients take: the one to which they connect, two for each of 8 clients, and one of a client for
-- which no seat is free.
abbrev pub client_sockets : ℕ
client_sockets = 18

abbrev pub sockets_of : Bool → List EdgeConfig → ℕ
sockets_of is_asked edges =
    if is_asked then min ((edges_needs edges).sockets + client_sockets) most else (edges_needs edges).sockets

-- The threads with which a run begins. If clients may query the run, two more: one accepts clients, and one watches
-- the sessions with edges elsewhere.
abbrev pub threads_of : Bool → List EdgeConfig → ℕ
threads_of is_asked edges =
    if is_asked then min ((edges_needs edges).threads + 2) most else (edges_needs edges).threads

-- ---- the text

abbrev pub threads_text : ℕ → Text
threads_text threads = decimal threads ++ codes " threads\n"

abbrev pub sockets_text : ℕ → Text
sockets_text sockets = decimal sockets ++ codes " UDP sockets\n"

-- devices, if there are any
abbrev pub devices_text : ℕ → Text
devices_text devices =
    if devices == 0 then [] else decimal devices ++ (if devices == 1 then codes " device\n" else codes " devices\n")

-- the whole MiB and one more
abbrev pub memory_text : ℕ → Text
memory_text memory = codes "about " ++ decimal (memory / 1048576 + 1) ++ codes " MiB of memory\n"

-- a line for each need
abbrev pub needs_text : Needs → Text
needs_text n = threads_text n.threads ++ sockets_text n.sockets ++ devices_text n.devices ++ memory_text n.memory

-- the resources that clients take in addition: a thread that accepts them, one that watches sessions, two for each of
-- 8 clients, and memory for these
abbrev pub clients_text : Text
clients_text = codes "for 8 clients at most 18 threads, 18 sockets and about 2 MiB of memory more\n"

-- the needs, with those of clients if clients may query the run
abbrev pub asked_text : Bool → Needs → Text
asked_text is_asked n = needs_text n ++ (if is_asked then clients_text else [])
