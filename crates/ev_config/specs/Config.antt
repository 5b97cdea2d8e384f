-- The configuration that a document gives, or its first fault.
use Rattle.std.specs.Prelude.{◌≡◌, ℕ, Bool, true, false, List, [], ◌∷◌, map, codes, string_bytes, String}
use Rattle.std.specs.Prelude.{Some, None, Result, Ok, Err}
use Rattle.std.specs.List.{list_all}
use Rattle.std.specs.Option.{unwrap_or}
use Rattle.std.specs.declared.alloc.Global.{Global}
use Rattle.toml.specs.Data.{Items, Members}
use Rattle.toml.specs.Parse.{parse_document}
use Rattle.arrayvec.specs.ArrayVec.{ArrayVec}
use Rattle.ev_edge.specs.declared.config.EdgeConfig.{EdgeConfig}
use Rattle.ev_config.specs.declared.endpoint.PortEndpoints.{PortEndpoints}
use Rattle.ev_config.specs.declared.whole.Config.{Config}
use Rattle.ev_config.specs.declared.whole.ServedConfig.{ServedConfig}
use Rattle.ev_config.specs.declared.whole.Use.{Use}
use Rattle.ev_config.specs.declared.whole.Use.TheVariants.{Any, Run, Serve}
use Rattle.ev_config.specs.declared.config.ConfigRefusal.{ConfigRefusal}
use Rattle.ev_config.specs.declared.config.ConfigRefusal.TheVariants as refusal
use Rattle.ev_config.specs.Schema.{Key, idle, peer_hold}
use Rattle.ev_config.specs.Keys.{path_in, spelt, number_at, tables_of}
use Rattle.ev_config.specs.ConfigPort.{has_cable}
use Rattle.ev_config.specs.ConfigEdge.{edge_of, links_of}
use Rattle.ev_config.specs.Faults.{Faulty, edge_items, names_in, faults_in}

-- edges, and the links of each one's ports
abbrev pub Whole : Type 0
Whole = List EdgeConfig × List (ArrayVec PortEndpoints)

-- the edges of these tables, each of which lists these addresses
abbrev pub edges_of : List ℕ → Items → Whole
edges_of listed edges = (map (edge_of listed) (tables_of edges), map links_of (tables_of edges))

-- the edges of a document for a use; each lists all edges and all peers
abbrev pub whole_of : Use → Members → Whole
whole_of wanted t = edges_of (names_in wanted t).addresses (edge_items t)

-- if there is no fault, the value; otherwise the first faulty key
abbrev pub unless_faulty : {X : Type 0} → List Faulty → X → Result X Key
unless_faulty [] x = Ok x
unless_faulty (first ∷ more) x = Err first.1

-- the configuration of a document for a use
abbrev pub whole_in : Use → Members → Result Whole Key
whole_in wanted t = unless_faulty (faults_in wanted t) (whole_of wanted t)

abbrev pub use_for : Bool → Use
use_for true = Run
use_for false = Any

abbrev pub config_faults : Bool → Members → List Faulty
config_faults for_run = faults_in (use_for for_run)

abbrev pub config_in : Bool → Members → Result Whole Key
config_in for_run = whole_in (use_for for_run)

-- each port of each edge has its cable
abbrev pub have_cables : Bool → List (ArrayVec PortEndpoints) → Bool
have_cables for_run links = list_all (λ ls. list_all (has_cable for_run) ls.items) links

abbrev pub view_of : Config → Whole
view_of c = (c.edges.items, c.links.items)

-- The document gives this configuration, or this first faulty key, or it is none. Memory excuses any text.
abbrev pub TextGives : {X V : Type 0} → (X → V) → (Members → Result V Key) → List ℕ → Result X ConfigRefusal → Type 0
TextGives view read text (Ok x) = (t : Members) × (parse_document text ≡ Some t) × (read t ≡ Ok (view x))
TextGives view read text (Err (refusal.Key k)) =
    (t : Members) × (parse_document text ≡ Some t) × (read t ≡ Err (string_bytes k))
TextGives view read text (Err refusal.Text) = parse_document text ≡ None
TextGives view read text (Err refusal.NoMemory) = Unit {0}

abbrev pub ConfigOf : Bool → List ℕ → Result Config ConfigRefusal → Type 0
ConfigOf for_run = TextGives view_of (config_in for_run)

-- ---- edges that answer queries while they run

-- the edges, the path of the control socket, the seconds after which a console is ended that sends nothing, and the
-- seconds without a session after which an edge elsewhere is away
abbrev pub ServedWhole : Type 0
ServedWhole = Whole × (List ℕ × (ℕ × ℕ))

abbrev pub served_whole : Members → ServedWhole
served_whole t = (
  whole_of Serve t,
  (
    unwrap_or (spelt (codes "control") path_in t) [],
    (number_at (codes "idle") idle t, number_at (codes "peer_hold") peer_hold t),
  ),
)

abbrev pub served_faults : Members → List Faulty
served_faults = faults_in Serve

abbrev pub served_in : Members → Result ServedWhole Key
served_in t = unless_faulty (served_faults t) (served_whole t)

abbrev pub served_view : ServedConfig → ServedWhole
served_view s = (view_of s.config, (string_bytes s.control, (s.idle, s.hold)))

abbrev pub ServedOf : List ℕ → Result ServedConfig ConfigRefusal → Type 0
ServedOf = TextGives served_view served_in

-- the configuration of the edges alone
abbrev pub ServedEdgesOf : List ℕ → Result Config ConfigRefusal → Type 0
ServedEdgesOf text (Ok config) =
    (control : String Global) × (idle : ℕ) × (hold : ℕ)
    × ServedOf text (Ok (record { config = config; control = control; idle = idle; hold = hold }))
ServedEdgesOf text (Err refused) = ServedOf text (Err refused)

-- ---- a configuration for a use

abbrev pub ConfigFor : Use → List ℕ → Result Config ConfigRefusal → Type 0
ConfigFor Any = ConfigOf false
ConfigFor Run = ConfigOf true
ConfigFor Serve = ServedEdgesOf

-- ---- faults and the result of reading

-- the first of these faults is at this key
abbrev pub StartAt : Key → List Faulty → Type 0
StartAt key [] = ⊥
StartAt key (first ∷ more) = first.1 ≡ key

-- There is no fault exactly if reading gives a value; otherwise the first fault is the one that reading returns.
abbrev pub Agree : {X : Type 0} → Result X Key → List Faulty → Type 0
Agree (Ok x) faults = faults ≡ []
Agree (Err key) faults = StartAt key faults

-- the faults and the reading agree for each use
pub record ReadingsAgree : Type 0 where
  pub config : (for_run : Bool) (t : Members) → Agree (config_in for_run t) (config_faults for_run t)
  pub served : (t : Members) → Agree (served_in t) (served_faults t)
