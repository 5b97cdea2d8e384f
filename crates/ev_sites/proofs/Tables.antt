-- A table by the list of updates that it took, the newest first: its contents are computed from that list.
use Rattle.std.proofs.Common.{◌≡◌, ℕ, zero, suc, true, false, cond, Some, None, Option, List, [], ◌∷◌}
use Rattle.std.proofs.Common.{sym, ◌∙◌, arith}
use Rattle.std.proofs.lemmas.List.{nil_from_length}
use Rattle.std.specs.Prelude.{Contains, map}
use Rattle.std.specs.Ordering.{eq_by_cmp}
use Rattle.std.specs.FinMap.{empty, insert, entries, put, get-empty, get-insert, entries-insert, len-entries, len-empty}
use Rattle.route_wire.specs.declared.update.Register.{Register}
use Rattle.route_wire.specs.declared.update.Value.{Value}
use Rattle.route_wire.specs.Fields.{Fields}
use Rattle.route_wire.specs.Order.{register_cmp, is_newer}
use Rattle.route_wire.specs.Inner.Totals.{register_total}
use Rattle.route_join.specs.Table.{Registers, Table, value_at, with_update, is_news}
use Rattle.route_join.specs.Owner.{owner, owner_among}
use Rattle.route_join.specs.Flood.{flood_of, flooding}
use Rattle.route_join.specs.Updates.{update_from, about}
use Rattle.ev_mobility.specs.declared.seq.Seq.{Seq}
use Rattle.ev_mobility.specs.Seq.{seq_for, seq_of, heard_all, nothing_heard}
use Rattle.ev_fabric.proofs.Example.{listeners}

-- a register with its value
abbrev pub Said : Type 0
Said = Register × Value

abbrev pub registers_of : List Said → Registers
registers_of [] = empty
registers_of (e ∷ es) = insert (registers_of es) e.0 e.1

-- of an edge of the examples
abbrev pub table_with : List Said → Table
table_with es = record { originators = listeners; registers = registers_of es }

-- ---- one register

abbrev pub looked_up : List Said → Register → Option Value
looked_up [] r = None
looked_up (e ∷ es) r = cond (eq_by_cmp register_cmp r e.0) (Some e.1) (looked_up es r)

pub found : (es : List Said) (r : Register) → value_at (table_with es) r ≡ looked_up es r
found [] r = get-empty {X = Value} register_cmp r
found (e ∷ es) r =
    get-insert register_total (registers_of es) e.0 e.1 r
    ∙ rw (found es r)

-- an update that is news is taken
pub taken : (es : List Said) (r : Register) (v : Value) → is_news (looked_up es r) v ≡ true
    → with_update (table_with es) (record { register = r; value = v }) ≡ table_with ((r, v) ∷ es)
taken es r v news =
    rw (found es r, news)

-- one that is no news isn't
pub unchanged : (es : List Said) (r : Register) (v : Value) → is_news (looked_up es r) v ≡ false
    → with_update (table_with es) (record { register = r; value = v }) ≡ table_with es
unchanged es r v old =
    rw (found es r, old)

-- ---- all registers, in their order

abbrev pub in_order : List Said → List Said
in_order [] = []
in_order (e ∷ es) = put register_cmp e.0 e.1 (in_order es)

all_said : (es : List Said) → entries (registers_of es) ≡ in_order es
all_said [] =
    nil_from_length (entries (empty {X = Value} {R = register_cmp}))
    (sym (len-entries (empty {X = Value} {R = register_cmp})) ∙ len-empty register_cmp Value)
all_said (e ∷ es) =
    entries-insert register_total (registers_of es) e.0 e.1 ∙ rw (all_said es)

pub floods : (es : List Said) (vni : ℕ) → flood_of (table_with es) vni ≡ flooding vni (in_order es)
floods es vni = rw (all_said es)

pub owned : (es : List Said) (vni mac : ℕ) → owner (table_with es) vni mac ≡ owner_among vni mac (in_order es)
owned es vni mac = rw (all_said es)

abbrev pub next_among : ℕ → ℕ → ℕ → List Said → Seq
next_among own vni mac es = seq_of (heard_all own (map update_from (about vni mac es)) nothing_heard)

pub next_number : (es : List Said) (own vni mac : ℕ)
    → seq_for (table_with es) own vni mac ≡ next_among own vni mac (in_order es)
next_number es own vni mac = rw (all_said es)

-- ---- updates that it has

-- the update, or a newer one of its register
abbrev pub Has : List Said → Fields → Type 0
Has es u = (v : Value) × (looked_up es u.register ≡ Some v) × (is_newer u.value v ≡ false)

abbrev pub HasAll : List Said → List Fields → Type 0
HasAll es [] = Unit {0}
HasAll es (u ∷ us) = Has es u × HasAll es us

has_each : (es : List Said) (us : List Fields) → HasAll es us → (u : Fields) → Contains us u → Has es u
has_each es [] h u (n, less, is) = absurd (omega (arith, less))
has_each es (w ∷ us) h u (zero, less, is) = (rw is at h.0)
has_each es (w ∷ us) h u (suc n, less, is) = has_each es us h.1 u (n, omega (arith, less), is)

pub arrived : (es : List Said) (us : List Fields) → HasAll es us → (u : Fields) → Contains us u
    → (v : Value) × (value_at (table_with es) u.register ≡ Some v) × (is_newer u.value v ≡ false)
arrived es us h u inside = let x = has_each es us h u inside in (x.0, found es u.register ∙ x.1, x.2)
