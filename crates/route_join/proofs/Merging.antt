-- Updates taken one after the other, and the join of two tables of groups.
use Rattle.std.proofs.Common.{◌≡◌, ℕ, suc, zero, true, Some, None, List, [], ◌∷◌, ◌++◌, map, length, length-append}
use Rattle.std.proofs.Common.{take, refl, sym, ap, ◌∙◌, arith, inl, inr}
use Rattle.std.specs.List.{slice_get}
use Rattle.std.specs.Prelude.{OnErr, Result, Ok, Err}
use Rattle.std.specs.Result.{is_err}
use Rattle.std.proofs.Math.Seq.{take-append_seam, get_or-append_seam}
use Rattle.std.proofs.lemmas.List.{map-append, length-map}
use Rattle.std.specs.Ordering.{is_lt, eq_by_cmp}
use Rattle.std.proofs.lemmas.Bool.{cases_Bool, and_parts as both}
use Rattle.std.specs.FinMap.{entries, entries_sorted, get-entries, same_map}
use Rattle.std.specs.FinMap.Entries.{find, below_all, is_sorted}
use Rattle.route_wire.specs.declared.update.Register.{Register}
use Rattle.route_wire.specs.declared.update.Value.{Value}
use Rattle.route_wire.specs.Fields.{Fields}
use Rattle.route_wire.specs.Order.{register_cmp}
use Rattle.route_wire.specs.Inner.Totals.{register_total, register_exact}
use Rattle.route_join.specs.declared.table.Taken.{Taken}
use Rattle.route_join.specs.declared.table.TakeError.{TakeError}
use Rattle.route_join.specs.declared.table.TakeError.TheVariants.{UnknownOriginator, NoMemory}
use Rattle.route_join.specs.Group.{IsGrouped, updates_in}
use Rattle.route_join.specs.Laws.{MergeCompletes}
use Rattle.route_join.specs.Table.{Table, value_at, with_update, with_updates, entries_of, table_from}
use Rattle.route_join.specs.Updates.{update_from, all_updates}
use Rattle.route_join.specs.Joins.{newer_of, with_entries, join, IsPartJoin}
use Rattle.route_join.proofs.Orders.{from_T}
use Rattle.route_join.proofs.Edits.{listed_as}
use Rattle.route_join.proofs.Groupings.{Groups}
use Rattle.route_join.proofs.Joins.{newer_of-same, newer_of-assoc, entries_at, join_is}

pub updates_append : (t : Table) (us vs : List Fields) → with_updates t (us ++ vs) ≡ with_updates (with_updates t us) vs
updates_append t [] vs = refl
updates_append t (u ∷ us) vs = updates_append (with_update t u) us vs

-- entries are updates
pub entries_updates : (t : Table) (us : List Fields) → with_entries t (entries_of us) ≡ with_updates t us
entries_updates t [] = refl
entries_updates t (u ∷ us) = entries_updates (with_update t u) us

-- a table listens to the same originators after an update
pub same_listeners : (t : Table) (u : Fields) → (with_update t u).originators ≡ t.originators
same_listeners t u = grind arith

-- a fact that holds if a call failed
pub on_err : {X E : Type 0} (r : Result X E) (P : Type 0) → OnErr r P → is_err r ≡ true → P
on_err (Ok x) P p e = cc
on_err (Err x) P p e = p

pub refused_memory : (r : Result Taken TakeError) → is_err r ≡ true → (r ≡ Err UnknownOriginator → ⊥) → r ≡ Err NoMemory
refused_memory r e n = grind arith

-- ---- places in lists one after the other
pub get_before : (us qs : List Fields) (k : ℕ) (u : Fields) → slice_get us k ≡ Some u → slice_get (us ++ qs) k ≡ Some u
get_before [] qs k u h = cc
get_before (x ∷ us) qs zero u h = h
get_before (x ∷ us) qs (suc k) u h = get_before us qs k u h

-- entries as updates
pub updates_back : (us : List Fields) → map update_from (entries_of us) ≡ us
updates_back [] = refl
updates_back (u ∷ us) = rw (updates_back us)

-- updates as entries
pub entries_back : (es : List (Register × Value)) → entries_of (map update_from es) ≡ es
entries_back [] = refl
entries_back (e ∷ es) = rw (entries_back es)

pub all_is : {s : Table} {os : List ℕ} {gs : Groups} → IsGrouped os gs → table_from os (updates_in gs) ≡ s
    → all_updates s ≡ updates_in gs
all_is {s} {os} {gs} g view = rw (← view, listed_as os (updates_in gs) g.kept.ordered) (updates_back (updates_in gs))

-- the updates before one whose register is new are joined
pub joins_first : (t s new : Table) (done rest : List Fields) (u : Fields) (k : ℕ)
    → done ++ u ∷ rest ≡ all_updates s → k ≡ length done → new ≡ with_updates t done → value_at new u.register ≡ None
    → IsPartJoin t s k new
joins_first t s new done rest u k whole counted taken absent =
    let f : Fields → Register × Value = λ x. (x.register, x.value) in
    let split : entries s.registers ≡ entries_of done ++ (u.register, u.value) ∷ entries_of rest =
    sym (entries_back (entries s.registers)) ∙ ap entries_of (sym whole) ∙ map-append f done (u ∷ rest) in
    let count : k ≡ length (entries_of done) = counted ∙ sym (length-map done f) in
    record {
      within = rw (split, length-append) (omega (arith, count));
      joined = rw (split, count, take-append_seam) (taken ∙ sym (entries_updates t done));
      fresh = λ d. rw (split, count, get_or-append_seam) absent;
    }

pub join_all : (t s now : Table) (done : List Fields) → done ≡ all_updates s → now ≡ with_updates t done
    → now ≡ join t s
join_all t s now done whole merged = rw (
  merged,
  whole,
  ← entries_updates t (all_updates s),
  entries_back (entries s.registers),
)

-- ---- a second merge completes the first
pub below_front : (q : Register) (k : ℕ) (es : List (Register × Value)) → below_all register_cmp q es ≡ true
    → below_all register_cmp q (take k es) ≡ true
below_front q zero es h = refl
below_front q (suc k) [] h = refl
below_front q (suc k) (e ∷ es) h =
    let parts = both (is_lt (register_cmp q e.0)) (below_all register_cmp q es) h in
    rw parts.0 (below_front q k es parts.1)

pub sorted_front : (k : ℕ) (es : List (Register × Value)) → is_sorted register_cmp es ≡ true
    → is_sorted register_cmp (take k es) ≡ true
sorted_front zero es h = refl
sorted_front (suc k) [] h = refl
sorted_front (suc k) (e ∷ es) h =
    let parts = both _ _ h in
    rw (below_front e.0 k es parts.0) (sorted_front k es parts.1)

-- a register's value among the first entries is its value among all
front_known : (r : Register) (k : ℕ) (es : List (Register × Value))
    → newer_of (find register_cmp r (take k es)) (find register_cmp r es) ≡ find register_cmp r es
front_known r zero es = refl
front_known r (suc k) [] = refl
front_known r (suc k) (e ∷ es) = elim (cases_Bool (eq_by_cmp register_cmp r e.0)) [
  | inl t ↦ rw t (newer_of-same (Some e.1))
  | inr t ↦ rw t (front_known r k es)
]

pub merge_completes : MergeCompletes
merge_completes s t j k h = same_map register_total register_exact _ _ (λ r.
    let es = entries t.registers in
    rw (
      join_is j t r,
      join_is s t r,
      h.joined,
      entries_at (take k es)
          (sorted_front k es (from_T _ (entries_sorted t.registers))) s r,
      get-entries t.registers r,
    )
    (newer_of-assoc (value_at s r) (find register_cmp r (take k es)) (find register_cmp r es)
    ∙ ap (newer_of (value_at s r)) (front_known r k es)))
