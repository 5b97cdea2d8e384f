-- The edges of a document without faults can be opened as a fabric.
use Rattle.std.proofs.Common.{◌≡◌, ℕ, zero, suc, ◌+◌, ◌<◌, ◌≤◌, Bool, true, false, not, ◌&&◌, List, [], ◌∷◌, ◌++◌}
use Rattle.std.proofs.Common.{length, map, Option, Some, None, refl, sym, ap, subst, ◌∙◌, arith, Contains, codes}
use Rattle.std.proofs.Common.{is_some, slice_get, append_assoc, length-append, leb-true, ltb-true}
use Rattle.std.specs.Prelude.{eqb, ◌==◌, ◌%◌, ◌||◌, nat_lt, nat_le, if◌then◌else◌, option_and_then, ℤ, pos, negsuc}
use Rattle.std.specs.List.{IsDistinct, list_any}
use Rattle.std.specs.Option.{unwrap_or}
use Rattle.std.proofs.lemmas.Bool.{eqb-true}
use Rattle.std.proofs.lemmas.List.{length-map, append-nil}
use Rattle.std.proofs.lemmas.List.Elements.{Contains-append_left}
use Rattle.std.proofs.lemmas.Map.Views.{Contains-from_any}
use Rattle.toml.specs.Data.{Data, Items, no_items, item, Members, get_member, as_array, as_table, as_integer}
use Rattle.ether_wire.proofs.DistinctNumbers.{same_tests, distinct_more, distinct_none}
use Rattle.ev_edge.specs.declared.config.EdgeConfig.{EdgeConfig}
use Rattle.ev_edge.specs.Config.{IsConfig, vnis_of}
use Rattle.ev_fabric.specs.Fabric.{addresses_of}
use Rattle.ev_fabric.specs.Opening.{AreConfigs}
use Rattle.ev_config.specs.declared.schema.Range.{Range}
use Rattle.ev_config.specs.declared.schema.KeyKind.TheVariants as kind
use Rattle.ev_config.specs.declared.whole.Use.{Use}
use Rattle.ev_config.specs.declared.whole.Use.TheVariants.{Any, Run, Serve}
use Rattle.ev_config.specs.Schema.{Key, Row, edge_rows, port_rows, peer_rows, capacity, buckets, hello}
use Rattle.ev_config.specs.Keys.{keys_of, within, number_in, vni_in, new_among, numbers_from}
use Rattle.ev_config.specs.Keys.{count_of, is_few, few}
use Rattle.ev_config.specs.Keys.{vnis_in, are_tables, tables_in, tables_beside, spelt, number_at, tables_at}
use Rattle.ev_config.specs.Keys.{with_table, tables_of, addr_in}
use Rattle.ev_config.specs.ConfigPort.{port_of}
use Rattle.ev_config.specs.ConfigEdge.{edge_of}
use Rattle.ev_config.specs.Faults.{Spot, File, Edge, Port, Peer, Faulty, SeenNames, no_names, Context, is_known}
use Rattle.ev_config.specs.Faults.{is_faulty_at, is_faulty}
use Rattle.ev_config.specs.Faults.{fault_if, rows_faults, table_faults, unknown, times_in, is_odd, ports_faults}
use Rattle.ev_config.specs.Faults.{port_context, port_faults, edge_context, peer_context, own_context}
use Rattle.ev_config.specs.Faults.{edge_faults, joined, after, after_all, edges_faults, peer_faults}
use Rattle.ev_config.specs.Faults.{peers_faults, own_faults, edge_items, peer_items, edge_names, names_in}
use Rattle.ev_config.specs.Faults.{device_faults, faults_in, is_run, rows_for}
use Rattle.ev_config.specs.Config.{whole_of}

-- ---- lists without faults

pub none_left : {X : Type 0} (xs ys : List X) → xs ++ ys ≡ [] → xs ≡ []
none_left [] ys h = refl
none_left (x ∷ xs) ys h = cc

pub none_right : {X : Type 0} (xs ys : List X) → xs ++ ys ≡ [] → ys ≡ []
none_right [] ys h = h
none_right (x ∷ xs) ys h = cc

no_fault : (b : Bool) (s : Spot) (k : Key) → fault_if b s k ≡ [] → b ≡ false
no_fault true s k h = cc
no_fault false s k h = refl

-- the row at this place is right
row_right : (c : Context) (s : Spot) (rows : List Row) (t : Members) (i : ℕ) (row : Row) → slice_get rows i ≡ Some row
    → rows_faults c s rows t ≡ [] → is_faulty c row t ≡ false
row_right c s [] t i row at h = cc
row_right c s (x ∷ rows) t zero row at h =
    let this : is_faulty c x t ≡ false = no_fault (is_faulty c x t) s x.0
    (none_left (fault_if (is_faulty c x t) s x.0) (rows_faults c s rows t) h) in
    let same : x ≡ row = cc in
    subst (λ (r : Row). is_faulty c r t ≡ false) same this
row_right c s (x ∷ rows) t (suc i) row at h = row_right c s rows t i row at
    (none_right (fault_if (is_faulty c x t) s x.0) (rows_faults c s rows t) h)

-- the row of a table without faults
pub table_right : (c : Context) (s : Spot) (rows : List Row) (t : Members) (i : ℕ) (row : Row)
    → slice_get rows i ≡ Some row → table_faults c s rows t ≡ [] → is_faulty c row t ≡ false
table_right c s rows t i row at h = row_right c s rows t i row at
    (none_left (rows_faults c s rows t) (unknown s rows (keys_of t)) h)

-- ---- names

-- an address that none of those before is
abbrev IsNew : List ℕ → Option ℕ → Type 0
IsNew before None = ⊥
IsNew before (Some n) = list_any (λ x. x == n) before ≡ false

new_at : (c : Context) (o : Option Data) → is_faulty_at c kind.Address o ≡ false
    → IsNew c.names.addresses (option_and_then addr_in o)
new_at c None h = cc
new_at c (Some d) h = go (addr_in d) h
  where
    pick : (b : Bool) (n : ℕ) → not (is_some (if b then None else Some n)) ≡ false → b ≡ false
    pick true n e = cc
    pick false n e = refl

    go : (o : Option ℕ) → not (is_some (new_among c.names.addresses o)) ≡ false → IsNew c.names.addresses o
    go None e = cc
    go (Some n) e = pick (list_any (λ x. x == n) c.names.addresses) n e

-- each table spells a new address
abbrev NewIn : SeenNames → Option Members → Type 0
NewIn names None = Unit {0}
NewIn names (Some t) = IsNew names.addresses (spelt (codes "address") addr_in t)

abbrev AllNew : SeenNames → Items → Type 0
AllNew names no_items = Unit {0}
AllNew names (item d ds) = NewIn names (as_table d) × AllNew (after names (as_table d)) ds

abbrev later_faults : Bool → SeenNames → ℕ → Members → List Faulty
later_faults for_run names n t = fault_if (is_odd (times_in t)) (Edge n) (codes "max_age")
    ++ ports_faults (edge_context for_run names t) n 1 (tables_at (codes "port") t)

own_right : (for_run : Bool) (names : SeenNames) (n : ℕ) (t : Members) → edge_faults for_run names n (Some t) ≡ []
    → table_faults (edge_context for_run names t) (Edge n) edge_rows t ≡ []
own_right for_run names n t h =
    none_left (table_faults (edge_context for_run names t) (Edge n) edge_rows t) (later_faults for_run names n t) h

pub ports_right : (for_run : Bool) (names : SeenNames) (n : ℕ) (t : Members) → edge_faults for_run names n (Some t) ≡ []
    → ports_faults (edge_context for_run names t) n 1 (tables_at (codes "port") t) ≡ []
ports_right for_run names n t h =
    none_right (fault_if (is_odd (times_in t)) (Edge n) (codes "max_age"))
    (ports_faults (edge_context for_run names t) n 1 (tables_at (codes "port") t))
    (none_right (table_faults (edge_context for_run names t) (Edge n) edge_rows t) (later_faults for_run names n t) h)

edges_new : (for_run : Bool) (names : SeenNames) (n : ℕ) (ds : Items) → edges_faults for_run names n ds ≡ []
    → AllNew names ds
edges_new for_run names n no_items h = tt
edges_new for_run names n (item d ds) h = (
  go (as_table d) (none_left (edge_faults for_run names n (as_table d)) rest h),
  edges_new for_run (after names (as_table d)) (n + 1) ds
      (none_right (edge_faults for_run names n (as_table d)) rest h),
)
  where
    rest : List Faulty
    rest = edges_faults for_run (after names (as_table d)) (n + 1) ds

    go : (o : Option Members) → edge_faults for_run names n o ≡ [] → NewIn names o
    go None e = tt
    go (Some t) e = new_at (edge_context for_run names t) (get_member (codes "address") t)
        (table_right (edge_context for_run names t) (Edge n) edge_rows t 0 (codes "address", kind.Address) refl
        (own_right for_run names n t e))

peers_new : (names : SeenNames) (n : ℕ) (ds : Items) → peers_faults names n ds ≡ [] → AllNew names ds
peers_new names n no_items h = tt
peers_new names n (item d ds) h = (
  go (as_table d) (none_left (peer_faults names n (as_table d)) rest h),
  peers_new (after names (as_table d)) (n + 1) ds (none_right (peer_faults names n (as_table d)) rest h),
)
  where
    rest : List Faulty
    rest = peers_faults (after names (as_table d)) (n + 1) ds

    go : (o : Option Members) → peer_faults names n o ≡ [] → NewIn names o
    go None e = tt
    go (Some t) e = new_at (peer_context names) (get_member (codes "address") t)
        (table_right (peer_context names) (Peer n) peer_rows t 0 (codes "address", kind.Address) refl e)

-- one address more
joined_distinct : (before : List ℕ) (o : Option ℕ) → IsNew before o → IsDistinct eqb before
    → IsDistinct eqb (joined before o)
joined_distinct before None new h = absurd new
joined_distinct before (Some n) new h = distinct_more before n h new

names_distinct : (names : SeenNames) (ds : Items) → AllNew names ds → IsDistinct eqb names.addresses
    → IsDistinct eqb (after_all names ds).addresses
names_distinct names no_items new h = h
names_distinct names (item d ds) new h = names_distinct (after names (as_table d)) ds new.1 (go (as_table d) new.0)
  where
    go : (o : Option Members) → NewIn names o → IsDistinct eqb (after names o).addresses
    go None n = h
    go (Some t) n = joined_distinct names.addresses (spelt (codes "address") addr_in t) n h

-- those before are still there
names_there : (names : SeenNames) (ds : Items) (n : ℕ) → Contains names.addresses n
    → Contains (after_all names ds).addresses n
names_there names no_items n h = h
names_there names (item d ds) n h = names_there (after names (as_table d)) ds n (go (as_table d))
  where
    more : (o : Option ℕ) → Contains (joined names.addresses o) n
    more None = h
    more (Some a) = Contains-append_left names.addresses (a ∷ []) n h

    go : (o : Option Members) → Contains (after names o).addresses n
    go None = h
    go (Some t) = more (spelt (codes "address") addr_in t)

names_few : (names : SeenNames) (ds : Items)
    → length (after_all names ds).addresses ≤ length names.addresses + count_of ds
names_few names no_items = omega arith
names_few names (item d ds) =
    let rest = names_few (after names (as_table d)) ds in
    let this : length (after names (as_table d)).addresses ≤ length names.addresses + 1 = go (as_table d) in
    omega (arith, rest, this)
  where
    more : (o : Option ℕ) → length (joined names.addresses o) ≤ length names.addresses + 1
    more None = omega arith
    more (Some a) = omega (arith, length-append names.addresses (a ∷ []))

    go : (o : Option Members) → length (after names o).addresses ≤ length names.addresses + 1
    go None = omega arith
    go (Some t) = more (spelt (codes "address") addr_in t)

-- the names of the edges are their addresses
names_are : (listed : List ℕ) (names : SeenNames) (ds : Items) → AllNew names ds
    → (after_all names ds).addresses ≡ names.addresses ++ addresses_of (map (edge_of listed) (tables_of ds))
names_are listed names no_items new = sym (append-nil names.addresses)
names_are listed names (item d ds) new = go (as_table d) new.0 (names_are listed (after names (as_table d)) ds new.1)
  where
    more : (t : Members) (o : Option ℕ) → IsNew names.addresses o
        → joined names.addresses o ++ addresses_of (map (edge_of listed) (tables_of ds))
        ≡ names.addresses ++ unwrap_or o 0 ∷ addresses_of (map (edge_of listed) (tables_of ds))
    more t None n = absurd n
    more t (Some a) n = append_assoc names.addresses (a ∷ []) (addresses_of (map (edge_of listed) (tables_of ds)))

    go : (o : Option Members) → NewIn names o
        → (after_all (after names o) ds).addresses
        ≡ (after names o).addresses ++ addresses_of (map (edge_of listed) (tables_of ds))
        → (after_all (after names o) ds).addresses
        ≡ names.addresses ++ addresses_of (map (edge_of listed) (with_table o (tables_of ds)))
    go None n e = e
    go (Some t) n e = e ∙ more t (spelt (codes "address") addr_in t) n

-- ---- an edge

-- a number is in its range
in_range : (r : Range) (default : ℕ) (o : Option Data) → r.0 ≤ default → default ≤ r.1
    → (r.0 ≤ unwrap_or (option_and_then (number_in r) o) default)
    × (unwrap_or (option_and_then (number_in r) o) default ≤ r.1)
in_range r default None low high = (low, high)
in_range r default (Some d) low high = go (as_integer d)
  where
    pick : (n : ℕ) (a b c : Bool) → nat_le r.0 n ≡ a → nat_le n r.1 ≡ b
        → (r.0 ≤ unwrap_or (if a && b && c then Some n else None) default)
        × (unwrap_or (if a && b && c then Some n else None) default ≤ r.1)
    pick n true true true p q = (leb-true r.0 n p, leb-true n r.1 q)
    pick n true true false p q = (low, high)
    pick n true false c p q = (low, high)
    pick n false b c p q = (low, high)

    go : (z : Option ℤ) → (r.0 ≤ unwrap_or (within r z) default) × (unwrap_or (within r z) default ≤ r.1)
    go None = (low, high)
    go (Some (pos n)) = pick n (nat_le r.0 n) (nat_le n r.1) (r.2 == 0 || n % r.2 == 0) refl refl
    go (Some (negsuc n)) = (low, high)

-- a number more keeps the numbers distinct
abbrev More : (Data → Option ℕ) → List ℕ → Items → List ℕ → Type 0
More read before ds ns = (n : ℕ) → list_any (λ x. x == n) before ≡ false
    → numbers_from read (before ++ n ∷ []) ds ≡ Some ns → IsDistinct eqb ns

-- distinct numbers
numbers_distinct : (read : Data → Option ℕ) (before : List ℕ) (ds : Items) (ns : List ℕ) → IsDistinct eqb before
    → numbers_from read before ds ≡ Some ns → IsDistinct eqb ns
numbers_distinct read before no_items ns h e = let same : before ≡ ns = cc in subst (IsDistinct eqb) same h
numbers_distinct read before (item d ds) ns h e =
    go (λ n new is. numbers_distinct read (before ++ n ∷ []) ds ns (distinct_more before n h new) is) (read d) e
  where
    pick : More read before ds ns → (n : ℕ) (b : Bool) → list_any (λ x. x == n) before ≡ b
        → option_and_then (λ m. numbers_from read (before ++ m ∷ []) ds) (if b then None else Some n) ≡ Some ns
        → IsDistinct eqb ns
    pick more n true new is = cc
    pick more n false new is = more n new is

    go : More read before ds ns → (o : Option ℕ)
        → option_and_then (λ m. numbers_from read (before ++ m ∷ []) ds) (new_among before o) ≡ Some ns
        → IsDistinct eqb ns
    go more None is = cc
    go more (Some n) is = pick more n (list_any (λ x. x == n) before) refl is

vnis_distinct : (o : Option Data) → IsDistinct eqb (unwrap_or (option_and_then vnis_in o) [])
vnis_distinct None = distinct_none
vnis_distinct (Some d) = go (option_and_then few (as_array d))
  where
    pick : (ds : Items) (r : Option (List ℕ)) → numbers_from vni_in [] ds ≡ r → IsDistinct eqb (unwrap_or r [])
    pick ds None e = distinct_none
    pick ds (Some ns) e = numbers_distinct vni_in [] ds ns distinct_none e

    go : (o : Option Items) → IsDistinct eqb (unwrap_or (option_and_then (numbers_from vni_in []) o) [])
    go None = distinct_none
    go (Some ds) = pick ds (numbers_from vni_in [] ds) refl

-- ---- ports

-- one of the edge's VNIs, as a right key is
abbrev IsServed : List ℕ → Option ℕ → Type 0
IsServed vnis None = ⊥
IsServed vnis (Some n) = Contains vnis n

there : (n : ℕ) (ns : List ℕ) → list_any (λ x. x == n) ns ≡ true → Contains ns n
there n ns h = Contains-from_any eqb-true n ns (sym (same_tests n ns) ∙ h)

known_there : (vnis : List ℕ) (o : Option ℕ) → not (is_known (Some vnis) o) ≡ false → IsServed vnis o
known_there vnis None h = cc
known_there vnis (Some n) h = there n vnis (go (list_any (λ x. x == n) vnis) h)
  where
    go : (b : Bool) → not b ≡ false → b ≡ true
    go true e = refl
    go false e = cc

port_served : (c : Context) (vnis : List ℕ) (o : Option Data) → c.vnis ≡ Some vnis → is_faulty_at c kind.Vni o ≡ false
    → IsServed vnis (option_and_then vni_in o)
port_served c vnis None is h = cc
port_served c vnis (Some d) is h =
    known_there vnis (vni_in d) (subst (λ (k : Option (List ℕ)). not (is_known k (vni_in d)) ≡ false) is h)

ports_served : (c : Context) (vnis : List ℕ) (n m : ℕ) (ds : Items) → c.vnis ≡ Some vnis → ports_faults c n m ds ≡ []
    → (v : ℕ) → Contains (vnis_of (map port_of (tables_of ds))) v → Contains vnis v
ports_served c vnis n m no_items is h v (i, l, e) = absurd (omega (arith, l))
ports_served c vnis n m (item d ds) is h v at =
    go (as_table d) (none_left (port_faults c n m (as_table d)) (ports_faults c n (m + 1) ds) h)
    (ports_served c vnis n (m + 1) ds is
    (none_right (port_faults c n m (as_table d)) (ports_faults c n (m + 1) ds) h) v) at
  where
    one : (o : Option ℕ) → IsServed vnis o → unwrap_or o 0 ≡ v → Contains vnis v
    one None s e = absurd s
    one (Some k) s e = subst (Contains vnis) e s

    go : (o : Option Members) → port_faults c n m o ≡ []
        → (Contains (vnis_of (map port_of (tables_of ds))) v → Contains vnis v)
        → Contains (vnis_of (map port_of (with_table o (tables_of ds)))) v → Contains vnis v
    go None f more w = more w
    go (Some t) f more (zero, l, e) = one (spelt (codes "vni") vni_in t)
        (port_served (port_context c t) vnis (get_member (codes "vni") t) is
        (table_right (port_context c t) (Port n m) port_rows t 0 (codes "vni", kind.Vni) refl f)) e
    go (Some t) f more (suc i, l, e) = more (i, omega (arith, l), e)

-- as many tables as items
tables_count : (ds : Items) → are_tables ds ≡ true → length (tables_of ds) ≡ count_of ds
tables_count no_items h = refl
tables_count (item d ds) h = go (λ e. tables_count ds e) (as_table d) h
  where
    go : (are_tables ds ≡ true → length (tables_of ds) ≡ count_of ds) → (o : Option Members)
        → (is_some o && are_tables ds) ≡ true → length (with_table o (tables_of ds)) ≡ 1 + count_of ds
    go more None e = cc
    go more (Some t) e = let rest = more e in omega (arith, rest)

-- 1 to 64 tables
pub record AreTables (ds : Items) : Type 0 where
  pub some : 0 < length (tables_of ds)
  pub few : length (tables_of ds) ≤ 64
  pub count : count_of ds ≤ 64

tables_right : (c : Context) (o : Option Data) → is_faulty_at c kind.Tables o ≡ false
    → AreTables (unwrap_or (option_and_then tables_in o) no_items)
tables_right c None h = cc
tables_right c (Some d) h = go (as_array d) h
  where
    pick : (ds : Items) (a b k : Bool) → nat_lt 0 (count_of ds) ≡ a → nat_le (count_of ds) 64 ≡ b → are_tables ds ≡ k
        → not (is_some (if (a && b) && k then Some ds else None)) ≡ false
        → AreTables (unwrap_or (if (a && b) && k then Some ds else None) no_items)
    pick ds true true true p q w e =
        let count : length (tables_of ds) ≡ count_of ds = tables_count ds w in
        let some = ltb-true 0 (count_of ds) p in
        let few = leb-true (count_of ds) 64 q in
        record { some = omega (arith, some, count); few = omega (arith, few, count); count = few }
    pick ds true true false p q w e = cc
    pick ds true false k p q w e = cc
    pick ds false b k p q w e = cc

    go : (o : Option Items)
        → not (is_some (option_and_then (λ ds. if is_few ds && are_tables ds then Some ds else None) o)) ≡ false
        → AreTables (unwrap_or (option_and_then (λ ds. if is_few ds && are_tables ds then Some ds else None) o)
        no_items)
    go None e = cc
    go (Some ds) e = pick ds (nat_lt 0 (count_of ds)) (nat_le (count_of ds) 64) (are_tables ds) refl refl refl e

-- ---- edges

-- the conditions on an edge that its table settles
pub record Fits (listed : List ℕ) (t : Members) : Type 0 where
  pub some_port : 1 ≤ length (edge_of listed t).ports.items
  pub served : (v : ℕ) → Contains (vnis_of (edge_of listed t).ports.items) v → Contains (edge_of listed t).vnis.items v

abbrev IsKnown : Option (List ℕ) → Type 0
IsKnown None = ⊥
IsKnown (Some vnis) = Unit {0}

vnis_known : (c : Context) (o : Option Data) → is_faulty_at c kind.Vnis o ≡ false → IsKnown (option_and_then vnis_in o)
vnis_known c None h = cc
vnis_known c (Some d) h = go (vnis_in d) h
  where
    go : (o : Option (List ℕ)) → not (is_some o) ≡ false → IsKnown o
    go None e = cc
    go (Some vnis) e = tt

fits : (for_run : Bool) (names : SeenNames) (n : ℕ) (listed : List ℕ) (t : Members)
    → edge_faults for_run names n (Some t) ≡ [] → Fits listed t
fits for_run names n listed t h = record {
  some_port = subst (λ (k : ℕ). 1 ≤ k) (sym (length-map (tables_of (tables_at (codes "port") t)) port_of)) ports.some;
  served = go (spelt (codes "vnis") vnis_in t) refl
      (vnis_known (edge_context for_run names t) (get_member (codes "vnis") t)
      (table_right (edge_context for_run names t) (Edge n) edge_rows t 2 (codes "vnis", kind.Vnis) refl
      (own_right for_run names n t h)));
}
  where
    ports : AreTables (tables_at (codes "port") t)
    ports = tables_right (edge_context for_run names t) (get_member (codes "port") t)
        (table_right (edge_context for_run names t) (Edge n) edge_rows t 13 (codes "port", kind.Tables) refl
        (own_right for_run names n t h))

    go : (o : Option (List ℕ)) → spelt (codes "vnis") vnis_in t ≡ o → IsKnown o
        → (v : ℕ) → Contains (vnis_of (map port_of (tables_of (tables_at (codes "port") t)))) v
        → Contains (unwrap_or (spelt (codes "vnis") vnis_in t) []) v
    go None is k = absurd k
    go (Some vnis) is k = λ v at. subst (λ (o : Option (List ℕ)). Contains (unwrap_or o []) v) (sym is)
        (ports_served (edge_context for_run names t) vnis n 1 (tables_at (codes "port") t) is
        (ports_right for_run names n t h) v at)

-- each edge of the tables fits
all_fit : (for_run : Bool) (names : SeenNames) (n : ℕ) (listed : List ℕ) (ds : Items)
    → edges_faults for_run names n ds ≡ [] → (x : EdgeConfig) → Contains (map (edge_of listed) (tables_of ds)) x
    → (t : Members) × Fits listed t × (edge_of listed t ≡ x)
all_fit for_run names n listed no_items h x (i, l, e) = absurd (omega (arith, l))
all_fit for_run names n listed (item d ds) h x at =
    go (as_table d) (none_left (edge_faults for_run names n (as_table d)) rest h)
    (all_fit for_run (after names (as_table d)) (n + 1) listed ds
    (none_right (edge_faults for_run names n (as_table d)) rest h) x) at
  where
    rest : List Faulty
    rest = edges_faults for_run (after names (as_table d)) (n + 1) ds

    go : (o : Option Members) → edge_faults for_run names n o ≡ []
        → (Contains (map (edge_of listed) (tables_of ds)) x → (t : Members) × Fits listed t × (edge_of listed t ≡ x))
        → Contains (map (edge_of listed) (with_table o (tables_of ds))) x
        → (t : Members) × Fits listed t × (edge_of listed t ≡ x)
    go None f more w = more w
    go (Some t) f more (zero, l, e) = (t, fits for_run names n listed t f, e)
    go (Some t) f more (suc i, l, e) = more (i, omega (arith, l), e)

name_there : (cs : List EdgeConfig) (c : EdgeConfig) → Contains cs c → Contains (addresses_of cs) c.address
name_there [] c (n, l, e) = absurd (omega (arith, l))
name_there (x ∷ cs) c (zero, l, e) = (zero, omega arith, ap (λ (d : EdgeConfig). d.address) e)
name_there (x ∷ cs) c (suc n, l, e) = next (name_there cs c (n, omega (arith, l), e))
  where
    next : Contains (addresses_of cs) c.address → Contains (addresses_of (x ∷ cs)) c.address
    next (m, k, p) = (suc m, omega (arith, k), p)

-- ---- a document

-- addresses to list: at most 64 that differ, with those of all edges
record AreHeard (names listed : List ℕ) : Type 0 where
  distinct : IsDistinct eqb listed
  few : length listed ≤ 64
  all : (n : ℕ) → Contains names n → Contains listed n

one_there : (names xs : List ℕ) → 0 < length names → ((n : ℕ) → Contains names n → Contains xs n) → 0 < length xs
one_there [] xs some h = absurd (omega (arith, some))
one_there (n ∷ ns) xs some h = go (h n (zero, omega arith, refl))
  where
    go : Contains xs n → 0 < length xs
    go (i, l, e) = omega (arith, l)

heard : (wanted : Use) (t : Members) → count_of (edge_items t) ≤ 64
    → edges_faults (is_run wanted) no_names 1 (edge_items t) ≡ []
    → peers_faults (edge_names t) 1 (peer_items wanted t) ≡ []
    → AreHeard (edge_names t).addresses (names_in wanted t).addresses
heard wanted t count edges peers = record {
  distinct = names_distinct (edge_names t) (peer_items wanted t)
      (peers_new (edge_names t) 1 (peer_items wanted t) peers)
      (names_distinct no_names (edge_items t) (edges_new (is_run wanted) no_names 1 (edge_items t) edges)
      distinct_none);
  few =
      let mine : length (edge_names t).addresses ≤ 0 + count_of (edge_items t) = names_few no_names (edge_items t) in
      let all = names_few (edge_names t) (peer_items wanted t) in
      let room = fit wanted in
      omega (arith, mine, all, room);
  all = λ n at. names_there (edge_names t) (peer_items wanted t) n at;
}
  where
    beside : (n : ℕ) (o : Option Data) → n ≤ 64
        → n + count_of (unwrap_or (option_and_then (tables_beside n) o) no_items) ≤ 64
    beside n None h = omega (arith, h)
    beside n (Some d) h = go (tables_in d)
      where
        pick : (ds : Items) (b : Bool) → nat_le (n + count_of ds) 64 ≡ b
            → n + count_of (unwrap_or (if b then Some ds else None) no_items) ≤ 64
        pick ds true e = leb-true (n + count_of ds) 64 e
        pick ds false e = omega (arith, h)

        go : (o : Option Items)
            → n + count_of (unwrap_or (option_and_then (λ ds. if nat_le (n + count_of ds) 64 then Some ds else None) o)
            no_items) ≤ 64
        go None = omega (arith, h)
        go (Some ds) = pick ds (nat_le (n + count_of ds) 64) refl

    fit : (w : Use) → count_of (edge_items t) + count_of (peer_items w t) ≤ 64
    fit Any = omega (arith, count)
    fit Run = omega (arith, count)
    fit Serve = beside (count_of (edge_items t)) (get_member (codes "peer") t) count

pub opens : (wanted : Use) (t : Members) → faults_in wanted t ≡ [] → AreConfigs (whole_of wanted t).0
opens wanted t none = record {
  some = subst (λ k. 0 < k) size tables.some;
  few = subst (λ k. k ≤ 64) size tables.few;
  apart = subst (IsDistinct eqb) same
      (names_distinct no_names (edge_items t) (edges_new (is_run wanted) no_names 1 (edge_items t) edges)
      distinct_none);
  configs = λ x at. is_config x at (all_fit (is_run wanted) no_names 1 listed (edge_items t) edges x at);
  listed = λ x at o is. lists x (all_fit (is_run wanted) no_names 1 listed (edge_items t) edges x at) o
      (h.all o (subst (λ names. Contains names o) (sym same) is));
}
  where
    listed : List ℕ
    listed = (names_in wanted t).addresses

    own : List Faulty
    own = own_faults wanted (count_of (edge_items t)) t

    of_edges : List Faulty
    of_edges = edges_faults (is_run wanted) no_names 1 (edge_items t)

    of_devices : List Faulty
    of_devices = device_faults (is_run wanted) (edge_items t)

    of_peers : List Faulty
    of_peers = peers_faults (edge_names t) 1 (peer_items wanted t)

    later : of_edges ++ (of_devices ++ of_peers) ≡ []
    later = none_right own (of_edges ++ (of_devices ++ of_peers)) none

    edges : edges_faults (is_run wanted) no_names 1 (edge_items t) ≡ []
    edges = none_left of_edges (of_devices ++ of_peers) later

    file : Context
    file = own_context (count_of (edge_items t))

    first : (w : Use) → slice_get (rows_for w) 0 ≡ Some (codes "edge", kind.Tables)
    first Any = refl
    first Run = refl
    first Serve = refl

    tables : AreTables (edge_items t)
    tables = tables_right file (get_member (codes "edge") t)
        (table_right file File (rows_for wanted) t 0 (codes "edge", kind.Tables) (first wanted)
        (none_left own (of_edges ++ (of_devices ++ of_peers)) none))

    h : AreHeard (edge_names t).addresses listed
    h = heard wanted t tables.count edges
        (none_right of_devices of_peers (none_right of_edges (of_devices ++ of_peers) later))

    same : (edge_names t).addresses ≡ addresses_of (whole_of wanted t).0
    same = names_are listed no_names (edge_items t) (edges_new (is_run wanted) no_names 1 (edge_items t) edges)

    size : length (tables_of (edge_items t)) ≡ length (whole_of wanted t).0
    size = sym (length-map (tables_of (edge_items t)) (edge_of listed))

    count : length (edge_names t).addresses ≡ length (tables_of (edge_items t))
    count = ap length same ∙ length-map (whole_of wanted t).0 (λ (c : EdgeConfig). c.address) ∙ sym size

    config_of : (u : Members) → Fits listed u → Contains (whole_of wanted t).0 (edge_of listed u)
        → IsConfig (edge_of listed u)
    config_of u f at = record {
      originators = record {
        some = one_there (edge_names t).addresses listed (subst (λ k. 0 < k) (sym count) tables.some) h.all;
        few = h.few;
        distinct = h.distinct;
      };
      listed = h.all (edge_of listed u).address
          (subst (λ names. Contains names (edge_of listed u).address) (sym same)
          (name_there (whole_of wanted t).0 (edge_of listed u) at));
      distinct = vnis_distinct (get_member (codes "vnis") u);
      some_port = f.some_port;
      served = f.served;
      some_place = (places u).0;
      places = (places u).1;
      some_bucket = (room u).0;
      buckets = (room u).1;
      hello = (in_range hello 2 (get_member (codes "hello") u) (omega arith) (omega arith)).0;
    }
      where
        places : (v : Members) → (1 ≤ number_at (codes "capacity") capacity v)
            × (number_at (codes "capacity") capacity v ≤ 65536)
        places v = in_range capacity 1024 (get_member (codes "capacity") v) (omega arith) (omega arith)

        room : (v : Members) → (1 ≤ (edge_of listed v).buckets) × ((edge_of listed v).buckets ≤ 65536)
        room v = in_range buckets (number_at (codes "capacity") capacity v) (get_member (codes "buckets") v)
            (places v).0 (places v).1

    is_config : (x : EdgeConfig) → Contains (whole_of wanted t).0 x
        → ((u : Members) × Fits listed u × (edge_of listed u ≡ x)) → IsConfig x
    is_config x at (u, f, e) = subst IsConfig e
        (config_of u f (subst (Contains (whole_of wanted t).0) (sym e) at))

    lists : (x : EdgeConfig) → ((u : Members) × Fits listed u × (edge_of listed u ≡ x)) → (o : ℕ) → Contains listed o
        → Contains x.originators.items o
    lists x (u, f, e) o is = subst (λ (c : EdgeConfig). Contains c.originators.items o) e is
