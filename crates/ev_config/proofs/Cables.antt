-- The ports of a document without faults have cables.
use Rattle.std.proofs.Common.{◌≡◌, ℕ, ◌+◌, Bool, true, false, not, ◌&&◌, List, [], ◌++◌, map, Option, Some, None, refl}
use Rattle.std.proofs.Common.{is_some, codes}
use Rattle.std.specs.Prelude.{option_and_then, if◌then◌else◌}
use Rattle.std.specs.List.{list_all}
use Rattle.std.proofs.lemmas.Bool.{and_from}
use Rattle.toml.specs.Data.{Data, Items, no_items, item, Members, get_member, as_table}
use Rattle.ev_config.specs.declared.schema.KeyKind.TheVariants as kind
use Rattle.ev_config.specs.declared.whole.Use.{Use}
use Rattle.ev_config.specs.Schema.{port_rows}
use Rattle.ev_config.specs.Keys.{endpoint_in, device_in, count_of, tables_at, with_table, tables_of}
use Rattle.ev_config.specs.ConfigPort.{link_of, has_cable}
use Rattle.ev_config.specs.ConfigEdge.{links_of}
use Rattle.ev_config.specs.Faults.{Port, Faulty, SeenNames, no_names, Context, is_faulty_at, port_context, port_faults}
use Rattle.ev_config.specs.Faults.{ports_faults, edge_context, edge_faults, after, edges_faults, peers_faults}
use Rattle.ev_config.specs.Faults.{device_faults, is_run, own_faults, edge_items, peer_items, edge_names, faults_in}
use Rattle.ev_config.specs.Config.{whole_of, have_cables}
use Rattle.ev_config.proofs.Opening.{none_left, none_right, table_right, ports_right}

both_right : (a b : Bool) → not a ≡ false → not b ≡ false → (a && b) ≡ true
both_right true true p q = refl
both_right true false p q = cc
both_right false b p q = cc

one_right : (a : Bool) → not a ≡ false → (if a then true else false) ≡ true
one_right true p = refl
one_right false p = cc

-- the conditions on a port's table
abbrev at_port : Context → Bool → Bool → Context
at_port c run has = record { for_run = run; names = c.names; vnis = c.vnis; edges = c.edges; has_device = has }

-- a port of which these three keys are right
cabled : (c : Context) (run : Bool) (d l r : Option Data)
    → is_faulty_at (at_port c run (is_some d)) kind.Device d ≡ false
    → is_faulty_at (at_port c run (is_some d)) kind.Endpoint l ≡ false
    → is_faulty_at (at_port c run (is_some d)) kind.Endpoint r ≡ false
    → has_cable run (record {
      local = option_and_then endpoint_in l;
      remote = option_and_then endpoint_in r;
      device = option_and_then device_in d;
    }) ≡ true
cabled c false None l r p q s = refl
cabled c false (Some x) l r p q s = cc
cabled c true None None r p q s = cc
cabled c true None (Some y) None p q s = cc
cabled c true None (Some y) (Some z) p q s = both_right (is_some (endpoint_in y)) (is_some (endpoint_in z)) q s
cabled c true (Some x) None None p q s = one_right (is_some (device_in x)) p
cabled c true (Some x) (Some y) r p q s = cc
cabled c true (Some x) None (Some z) p q s = cc

port_cabled : (c : Context) (n m : ℕ) (t : Members) → port_faults c n m (Some t) ≡ []
    → has_cable c.for_run (link_of t) ≡ true
port_cabled c n m t f = cabled c c.for_run (get_member (codes "device") t) (get_member (codes "local") t)
    (get_member (codes "remote") t)
    (table_right (port_context c t) (Port n m) port_rows t 11 (codes "device", kind.Device) refl f)
    (table_right (port_context c t) (Port n m) port_rows t 9 (codes "local", kind.Endpoint) refl f)
    (table_right (port_context c t) (Port n m) port_rows t 10 (codes "remote", kind.Endpoint) refl f)

ports_cabled : (c : Context) (n m : ℕ) (ds : Items) → ports_faults c n m ds ≡ []
    → list_all (has_cable c.for_run) (map link_of (tables_of ds)) ≡ true
ports_cabled c n m no_items h = refl
ports_cabled c n m (item d ds) h =
    go (as_table d) (none_left (port_faults c n m (as_table d)) (ports_faults c n (m + 1) ds) h)
    (ports_cabled c n (m + 1) ds (none_right (port_faults c n m (as_table d)) (ports_faults c n (m + 1) ds) h))
  where
    go : (o : Option Members) → port_faults c n m o ≡ []
        → list_all (has_cable c.for_run) (map link_of (tables_of ds)) ≡ true
        → list_all (has_cable c.for_run) (map link_of (with_table o (tables_of ds))) ≡ true
    go None f more = more
    go (Some t) f more = and_from (has_cable c.for_run (link_of t))
        (list_all (has_cable c.for_run) (map link_of (tables_of ds))) (port_cabled c n m t f) more

edges_cabled : (run : Bool) (names : SeenNames) (n : ℕ) (ds : Items) → edges_faults run names n ds ≡ []
    → have_cables run (map links_of (tables_of ds)) ≡ true
edges_cabled run names n no_items h = refl
edges_cabled run names n (item d ds) h =
    go (as_table d) (none_left (edge_faults run names n (as_table d)) rest h)
    (edges_cabled run (after names (as_table d)) (n + 1) ds
    (none_right (edge_faults run names n (as_table d)) rest h))
  where
    rest : List Faulty
    rest = edges_faults run (after names (as_table d)) (n + 1) ds

    go : (o : Option Members) → edge_faults run names n o ≡ []
        → have_cables run (map links_of (tables_of ds)) ≡ true
        → have_cables run (map links_of (with_table o (tables_of ds))) ≡ true
    go None f more = more
    go (Some t) f more =
        and_from (list_all (has_cable run) (map link_of (tables_of (tables_at (codes "port") t))))
        (have_cables run (map links_of (tables_of ds)))
        (ports_cabled (edge_context run names t) n 1 (tables_at (codes "port") t) (ports_right run names n t f)) more

pub cables : (wanted : Use) (t : Members) → faults_in wanted t ≡ []
    → have_cables (is_run wanted) (whole_of wanted t).1 ≡ true
cables wanted t none =
    let own = own_faults wanted (count_of (edge_items t)) t in
    let of_edges = edges_faults (is_run wanted) no_names 1 (edge_items t) in
    let of_devices = device_faults (is_run wanted) (edge_items t) in
    let of_peers = peers_faults (edge_names t) 1 (peer_items wanted t) in
    edges_cabled (is_run wanted) no_names 1 (edge_items t)
    (none_left of_edges (of_devices ++ of_peers) (none_right own (of_edges ++ (of_devices ++ of_peers)) none))
