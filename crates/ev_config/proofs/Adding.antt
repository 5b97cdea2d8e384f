-- Faults that are collected one after the other.
use Rattle.std.proofs.Common.{◌≡◌, ℕ, Bool, List, [], ◌++◌, Ok, Err, ap, ◌∙◌, append_assoc}
use Rattle.std.specs.Prelude.{Result}
use Rattle.toml.specs.Data.{Items, Members}
use Rattle.ev_config.specs.declared.faults.FaultyKey.{FaultyKey}
use Rattle.ev_config.specs.declared.whole.Use.{Use}
use Rattle.ev_config.specs.Keys.{count_of}
use Rattle.ev_config.specs.Faults.{Faulty, SeenNames, no_names, after_all, edges_faults, peers_faults, own_faults}
use Rattle.ev_config.specs.Faults.{device_faults, edge_items, is_run, peers_beside, peer_items, edge_names, faults_in}
use Rattle.ev_config.specs.Inner.Faults.{faults_view, Adds}

-- these, and then the rest
pub adds_then : {Y E : Type 0} (some rest : List Faulty) (v0 v1 vn : List FaultyKey) (end : Result Y E)
    → faults_view v1 ≡ faults_view v0 ++ some → Adds rest v1 vn end → Adds (some ++ rest) v0 vn end
adds_then some rest v0 v1 vn (Ok y) e more =
    more ∙ ap (λ l. l ++ rest) e ∙ append_assoc (faults_view v0) some rest
adds_then some rest v0 v1 vn (Err any) e more = tt

-- the names of all edges
pub names_of_edges : (t : Members) (n0 n1 : SeenNames) (es : Items) → n0 ≡ no_names → es ≡ edge_items t
    → n1 ≡ after_all n0 es → n1 ≡ edge_names t
names_of_edges t n0 n1 es zn ze k = k ∙ ap (λ (n : SeenNames). after_all n es) zn ∙ ap (after_all no_names) ze

-- the tables of all peers
pub tables_of_peers : (w : Use) (t : Members) (count : ℕ) (es ps : Items) → es ≡ edge_items t → count ≡ count_of es
    → ps ≡ peers_beside w count t → ps ≡ peer_items w t
tables_of_peers w t count es ps ze zc zp = zp ∙ ap (λ (n : ℕ). peers_beside w n t) (zc ∙ ap count_of ze)

-- the faults of a document's own keys, of its edges, of its devices and of its peers
pub all_added : (w : Use) (t : Members) (v0 v1 v2 v3 v4 : List FaultyKey) (n0 n1 : SeenNames) (run : Bool) (count : ℕ)
    (es ps : Items) → v0 ≡ [] → n0 ≡ no_names → run ≡ is_run w → es ≡ edge_items t → count ≡ count_of es
    → ps ≡ peers_beside w count t → faults_view v1 ≡ faults_view v0 ++ own_faults w count t
    → faults_view v2 ≡ faults_view v1 ++ edges_faults run n0 1 es → n1 ≡ after_all n0 es
    → faults_view v3 ≡ faults_view v2 ++ device_faults run es
    → faults_view v4 ≡ faults_view v3 ++ peers_faults n1 1 ps → faults_view v4 ≡ faults_in w t
all_added w t v0 v1 v2 v3 v4 n0 n1 run count es ps z0 zn zr ze zc zp h1 h2 k1 h3 h4 =
    let own = own_faults w (count_of (edge_items t)) t in
    let edges = edges_faults (is_run w) no_names 1 (edge_items t) in
    let devices = device_faults (is_run w) (edge_items t) in
    let peers = peers_faults (edge_names t) 1 (peer_items w t) in
    let e1 : faults_view v1 ≡ own = h1 ∙ ap (λ (l : List FaultyKey). faults_view l ++ own_faults w count t) z0
    ∙ ap (λ (n : ℕ). own_faults w n t) (zc ∙ ap count_of ze) in
    let e2 : faults_view v2 ≡ own ++ edges = h2 ∙ ap (λ (l : List Faulty). l ++ edges_faults run n0 1 es) e1
    ∙ ap (λ (b : Bool). own ++ edges_faults b n0 1 es) zr
    ∙ ap (λ (n : SeenNames). own ++ edges_faults (is_run w) n 1 es) zn
    ∙ ap (λ (ds : Items). own ++ edges_faults (is_run w) no_names 1 ds) ze in
    let e3 : faults_view v3 ≡ (own ++ edges) ++ devices =
    h3 ∙ ap (λ (l : List Faulty). l ++ device_faults run es) e2
    ∙ ap (λ (b : Bool). (own ++ edges) ++ device_faults b es) zr
    ∙ ap (λ (ds : Items). (own ++ edges) ++ device_faults (is_run w) ds) ze in
    h4 ∙ ap (λ (l : List Faulty). l ++ peers_faults n1 1 ps) e3
    ∙ ap (λ (n : SeenNames). ((own ++ edges) ++ devices) ++ peers_faults n 1 ps) (names_of_edges t n0 n1 es zn ze k1)
    ∙ ap (λ (ds : Items). ((own ++ edges) ++ devices) ++ peers_faults (edge_names t) 1 ds)
    (tables_of_peers w t count es ps ze zc zp)
    ∙ append_assoc (own ++ edges) devices peers ∙ append_assoc own edges (devices ++ peers)
