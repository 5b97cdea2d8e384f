-- All faults of a document: its faulty keys, each with its table, in the order in which they are printed.
use Rattle.std.specs.Prelude.{ℕ, ◌+◌, Bool, true, false, not, ◌&&◌, ◌==◌, if◌then◌else◌, List, [], ◌∷◌, ◌++◌, codes}
use Rattle.std.specs.Prelude.{is_some, is_none, Option, Some, None}
use Rattle.std.specs.Option.{unwrap_or}
use Rattle.ether_wire.specs.Parse.{◌>>=◌}
use Rattle.std.specs.List.{list_any}
use Rattle.std.specs.Str.{bytes_eq}
use Rattle.toml.specs.Data.{Data, Items, no_items, item, Members, get_member, as_table}
use Rattle.ev_config.specs.declared.schema.KeyKind.{KeyKind}
use Rattle.ev_config.specs.declared.schema.KeyKind.TheVariants as kind
use Rattle.ev_config.specs.declared.whole.Use.{Use}
use Rattle.ev_config.specs.declared.whole.Use.TheVariants.{Any, Run, Serve}
use Rattle.ev_config.specs.Schema.{Key, Row, hello, max_age, forward_delay}
use Rattle.ev_config.specs.Schema.{file_rows, served_rows, edge_rows, port_rows, peer_rows}
use Rattle.ev_config.specs.Keys.{number_in, flag_in, addr_in, bridge_in, endpoint_in, device_in, name_in, path_in}
use Rattle.ev_config.specs.Keys.{vni_in, new_among, vnis_in, tables_in, tables_beside, count_of, spelt, known_number}
use Rattle.ev_config.specs.Keys.{tables_at, keys_of, times_fit, has_device}

-- a table of the document; edges, ports of an edge, and peers count from 1
pub data Spot : Type 0 where
  File : Spot
  Edge : ℕ → Spot
  Port : ℕ → ℕ → Spot
  Peer : ℕ → Spot

-- a faulty key
abbrev pub Faulty : Type 0
Faulty = Spot × Key

-- the addresses and the bridges that tables spell
pub record SeenNames : Type 0 where
  pub addresses : List ℕ
  pub bridges : List ℕ

abbrev pub no_names : SeenNames
no_names = record { addresses = []; bridges = [] }

-- the conditions on the values of a table: whether the document is for a run, the names of the tables before, the VNIs
-- of the edge, if they are known, the number of edges, and whether the table is that of a port with a device
pub record Context : Type 0 where
  pub for_run : Bool
  pub names : SeenNames
  pub vnis : Option (List ℕ)
  pub edges : ℕ
  pub has_device : Bool

-- ---- a key

-- one of these, if they are known
abbrev pub is_known : Option (List ℕ) → Option ℕ → Bool
is_known known None = false
is_known None (Some n) = true
is_known (Some vnis) (Some n) = list_any (λ x. x == n) vnis

-- The value is one of this kind. A run has devices, and a port has no endpoints beside a device.
abbrev pub is_right : Context → KeyKind → Data → Bool
is_right c kind.Address d = is_some (new_among c.names.addresses (addr_in d))
is_right c kind.Bridge d = is_some (new_among c.names.bridges (bridge_in d))
is_right c kind.Vnis d = is_some (vnis_in d)
is_right c kind.Vni d = is_known c.vnis (vni_in d)
is_right c (kind.Number range) d = is_some (number_in range d)
is_right c (kind.Flag default) d = is_some (flag_in d)
is_right c kind.Endpoint d = not c.has_device && is_some (endpoint_in d)
is_right c kind.Device d = c.for_run && is_some (device_in d)
is_right c kind.Path d = is_some (path_in d)
is_right c kind.Tables d = is_some (tables_in d)
is_right c kind.Peers d = is_some (tables_beside c.edges d)

-- the key may not be missing
abbrev pub is_needed : Context → KeyKind → Bool
is_needed c (kind.Number range) = false
is_needed c (kind.Flag default) = false
is_needed c kind.Peers = false
is_needed c kind.Device = false
is_needed c kind.Endpoint = c.for_run && not c.has_device
is_needed c kind.Address = true
is_needed c kind.Bridge = true
is_needed c kind.Vnis = true
is_needed c kind.Vni = true
is_needed c kind.Path = true
is_needed c kind.Tables = true

abbrev pub is_faulty_at : Context → KeyKind → Option Data → Bool
is_faulty_at c k None = is_needed c k
is_faulty_at c k (Some d) = not (is_right c k d)

-- the key of this row is faulty
abbrev pub is_faulty : Context → Row → Members → Bool
is_faulty c row t = is_faulty_at c row.1 (get_member row.0 t)

-- ---- a table

-- a fault at this key, if there is one
abbrev pub fault_if : Bool → Spot → Key → List Faulty
fault_if b spot key = if b then (spot, key) ∷ [] else []

-- the faulty keys of these rows
abbrev pub rows_faults : Context → Spot → List Row → Members → List Faulty
rows_faults c spot [] t = []
rows_faults c spot (row ∷ rows) t = fault_if (is_faulty c row t) spot row.0 ++ rows_faults c spot rows t

-- the row with this key
abbrev pub find_row : List Row → Key → Option Row
find_row [] k = None
find_row (row ∷ rows) k = if bytes_eq row.0 k then Some row else find_row rows k

-- the keys that no row has
abbrev pub unknown : Spot → List Row → List Key → List Faulty
unknown spot rows [] = []
unknown spot rows (k ∷ ks) = fault_if (is_none (find_row rows k)) spot k ++ unknown spot rows ks

-- the faults of a table with these rows
abbrev pub table_faults : Context → Spot → List Row → Members → List Faulty
table_faults c spot rows t = rows_faults c spot rows t ++ unknown spot rows (keys_of t)

-- ---- an edge

-- whether the times of an edge fit together, if each is right
abbrev pub times_in : Members → Option Bool
times_in t = do
  hello ← known_number (codes "hello") hello t
  max_age ← known_number (codes "max_age") max_age t
  forward_delay ← known_number (codes "forward_delay") forward_delay t
  Some (times_fit hello max_age forward_delay)

abbrev pub is_odd : Option Bool → Bool
is_odd None = false
is_odd (Some fit) = not fit

-- the conditions of an edge on the values of a port's table
abbrev pub port_context : Context → Members → Context
port_context c t = record {
  for_run = c.for_run;
  names = c.names;
  vnis = c.vnis;
  edges = c.edges;
  has_device = has_device t;
}

abbrev pub port_faults : Context → ℕ → ℕ → Option Members → List Faulty
port_faults c n m None = []
port_faults c n m (Some t) = table_faults (port_context c t) (Port n m) port_rows t

-- the faults of the ports of an edge, the first of which has this number
abbrev pub ports_faults : Context → ℕ → ℕ → Items → List Faulty
ports_faults c n m no_items = []
ports_faults c n m (item d ds) = port_faults c n m (as_table d) ++ ports_faults c n (m + 1) ds

-- its keys, the relation of its times, its ports
abbrev pub edge_faults_by : Context → ℕ → Members → List Faulty
edge_faults_by c n t = table_faults c (Edge n) edge_rows t
    ++ (fault_if (is_odd (times_in t)) (Edge n) (codes "max_age")
    ++ ports_faults c n 1 (tables_at (codes "port") t))

-- the conditions on the values of an edge's table
abbrev pub edge_context : Bool → SeenNames → Members → Context
edge_context for_run names t = record {
  for_run = for_run;
  names = names;
  vnis = spelt (codes "vnis") vnis_in t;
  edges = 0;
  has_device = false;
}

-- the faults of an edge with this number, given the names before it
abbrev pub edge_faults : Bool → SeenNames → ℕ → Option Members → List Faulty
edge_faults for_run names n None = []
edge_faults for_run names n (Some t) =
    edge_faults_by (edge_context for_run names t) n t

-- ---- edges and peers

-- one more after these, if there is one
abbrev pub joined : List ℕ → Option ℕ → List ℕ
joined before None = before
joined before (Some n) = before ++ n ∷ []

-- with the names that a table spells
abbrev pub after : SeenNames → Option Members → SeenNames
after names None = names
after names (Some t) = record {
  addresses = joined names.addresses (spelt (codes "address") addr_in t);
  bridges = joined names.bridges (spelt (codes "bridge") bridge_in t);
}

-- with those of all tables
abbrev pub after_all : SeenNames → Items → SeenNames
after_all names no_items = names
after_all names (item d ds) = after_all (after names (as_table d)) ds

-- the faults of the edges, the first of which has this number
abbrev pub edges_faults : Bool → SeenNames → ℕ → Items → List Faulty
edges_faults for_run names n no_items = []
edges_faults for_run names n (item d ds) = edge_faults for_run names n (as_table d)
    ++ edges_faults for_run (after names (as_table d)) (n + 1) ds

-- the conditions on the values of a peer's table
abbrev pub peer_context : SeenNames → Context
peer_context names = record { for_run = true; names = names; vnis = None; edges = 0; has_device = false }

abbrev pub peer_faults : SeenNames → ℕ → Option Members → List Faulty
peer_faults names n None = []
peer_faults names n (Some t) = table_faults (peer_context names) (Peer n) peer_rows t

-- the faults of the peers, the first of which has this number, given the names before it
abbrev pub peers_faults : SeenNames → ℕ → Items → List Faulty
peers_faults names n no_items = []
peers_faults names n (item d ds) = peer_faults names n (as_table d)
    ++ peers_faults (after names (as_table d)) (n + 1) ds

-- ---- devices

-- a port, and the name of its device
abbrev pub NamedPort : Type 0
NamedPort = Spot × List ℕ

abbrev pub named_at : Spot → Option (List ℕ) → List NamedPort
named_at spot None = []
named_at spot (Some name) = (spot, name) ∷ []

-- the port of an edge, if its table spells the name of a device
abbrev pub named_port : ℕ → ℕ → Option Members → List NamedPort
named_port n m None = []
named_port n m (Some t) = named_at (Port n m) (spelt (codes "device") name_in t)

-- those of the ports of an edge, the first of which has this number
abbrev pub named_ports : ℕ → ℕ → Items → List NamedPort
named_ports n m no_items = []
named_ports n m (item d ds) = named_port n m (as_table d) ++ named_ports n (m + 1) ds

abbrev pub named_of_edge : ℕ → Option Members → List NamedPort
named_of_edge n None = []
named_of_edge n (Some t) = named_ports n 1 (tables_at (codes "port") t)

-- those of the edges, the first of which has this number
abbrev pub named_of_edges : ℕ → Items → List NamedPort
named_of_edges n no_items = []
named_of_edges n (item d ds) = named_of_edge n (as_table d) ++ named_of_edges (n + 1) ds

-- one of these ports has a device of this name
abbrev pub is_named : List NamedPort → List ℕ → Bool
is_named ports name = list_any (λ p. bytes_eq p.1 name) ports

-- the faults of those ports whose device a port before has
abbrev pub repeated : List NamedPort → List NamedPort → List Faulty
repeated before [] = []
repeated before (p ∷ ps) = fault_if (is_named before p.1) p.0 (codes "device") ++ repeated (before ++ p ∷ []) ps

-- the faults of the devices of a run that a port before has; elsewhere each device is a fault of its port's table
abbrev pub device_faults : Bool → Items → List Faulty
device_faults false edges = []
device_faults true edges = repeated [] (named_of_edges 1 edges)

-- ---- a document

abbrev pub rows_for : Use → List Row
rows_for Any = file_rows
rows_for Run = file_rows
rows_for Serve = served_rows

-- the rows of a table
abbrev pub rows_at : Use → Spot → List Row
rows_at wanted File = rows_for wanted
rows_at wanted (Edge n) = edge_rows
rows_at wanted (Port n m) = port_rows
rows_at wanted (Peer n) = peer_rows

-- whether ports need their endpoints or a device
abbrev pub is_run : Use → Bool
is_run Any = false
is_run Run = true
is_run Serve = true

-- the conditions on the values of the document's own keys, given the number of edges
abbrev pub own_context : ℕ → Context
own_context edges = record { for_run = true; names = no_names; vnis = None; edges = edges; has_device = false }

-- the faults of the document's own keys, given the number of edges
abbrev pub own_faults : Use → ℕ → Members → List Faulty
own_faults wanted edges t = table_faults (own_context edges) File (rows_for wanted) t

abbrev pub edge_items : Members → Items
edge_items t = tables_at (codes "edge") t

-- the tables of the peers, given the number of edges
abbrev pub peers_beside : Use → ℕ → Members → Items
peers_beside Any edges t = no_items
peers_beside Run edges t = no_items
peers_beside Serve edges t = unwrap_or (spelt (codes "peer") (tables_beside edges) t) no_items

abbrev pub peer_items : Use → Members → Items
peer_items wanted t = peers_beside wanted (count_of (edge_items t)) t

-- the names of all edges
abbrev pub edge_names : Members → SeenNames
edge_names t = after_all no_names (edge_items t)

-- the names of all edges and all peers
abbrev pub names_in : Use → Members → SeenNames
names_in wanted t = after_all (edge_names t) (peer_items wanted t)

-- the faults of a document for a use: of its own keys, of its edges, of devices that two ports have, of its peers
abbrev pub faults_in : Use → Members → List Faulty
faults_in wanted t = own_faults wanted (count_of (edge_items t)) t
    ++ (edges_faults (is_run wanted) no_names 1 (edge_items t)
    ++ (device_faults (is_run wanted) (edge_items t)
    ++ peers_faults (edge_names t) 1 (peer_items wanted t)))
