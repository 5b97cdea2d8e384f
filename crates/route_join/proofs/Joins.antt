-- Joins of tables, and the tables of growing sets.
use Rattle.std.proofs.Common.{◌≡◌, ◌≢◌, ◌⊎◌, inl, inr, true, false, Option, Some, None, List, [], ◌∷◌, ◌++◌}
use Rattle.std.proofs.Common.{refl, sym, ap, ◌∙◌, append_assoc, append-nil, arith}
use Rattle.std.proofs.lemmas.List.Elements.{Contains-append_left, Contains-append_right, Contains-append_cases}
use Rattle.std.specs.Ordering.{is_lt}
use Rattle.std.proofs.lemmas.Bool.{false_from_ne_true, cases_Bool, and_parts as both}
use Rattle.std.proofs.lemmas.List.MinMax.{ranks_by}
use Rattle.std.specs.FinMap as map
use Rattle.std.specs.FinMap.Entries.{find, is_sorted}
use Rattle.route_wire.specs.declared.update.Register.{Register}
use Rattle.route_wire.specs.declared.update.Value.{Value}
use Rattle.route_wire.specs.Fields.{Fields}
use Rattle.route_wire.specs.Order.{register_cmp, is_newer}
use Rattle.route_wire.specs.Inner.Totals.{register_total, register_exact, value_total, neither_newer}
use Rattle.route_join.specs.Table.{Table, value_at, with_update, table_from}
use Rattle.route_join.specs.Table.{IsTableOf, entries_of}
use Rattle.route_join.specs.Joins.{newer_of, IsJoin, with_entries, join}
use Rattle.route_join.specs.Laws.{NoneTaken, OneTaken, AllTaken, OneJoined, JoinIs, JoinCommutes, JoinAssociates}
use Rattle.route_join.specs.Laws.{JoinRepeats, JoinOfTables, NewerStands, OthersStay}
use Rattle.route_join.proofs.Orders.{less, from_T}
use Rattle.route_join.proofs.Tables.{itself_register, same_or_other, other_register, below_none, at_same}
use Rattle.route_join.proofs.Tables.{at_other, not_newer_itself, one_table}
use Rattle.route_join.proofs.Edits.{found, table_of}

-- ---- the newer of two values is a semilattice
pub newer_trans : (a b c : Value) → is_newer b a ≡ true → is_newer c b ≡ true → is_newer c a ≡ true
newer_trans a b c p q = ap is_lt (value_total.trans a b c (less _ p) (less _ q))

pub not_newer_trans : (a b c : Value) → is_newer b a ≡ false → is_newer c b ≡ false → is_newer c a ≡ false
not_newer_trans = (ranks_by value_total (λ v. v)).chain

pub newer_of-none : (x : Option Value) → newer_of x None ≡ x
newer_of-none x = grind arith

pub newer_of-comm : (x y : Option Value) → newer_of x y ≡ newer_of y x
newer_of-comm None y = sym (newer_of-none y)
newer_of-comm (Some a) None = refl
newer_of-comm (Some a) (Some b) = elim (cases_Bool (is_newer b a)) [
  | inl e ↦ let f = (ranks_by value_total (λ v. v)).one_way a b e in cc
  | inr e ↦ elim (cases_Bool (is_newer a b)) [ inl f ↦ cc | inr f ↦ let same = neither_newer a b f e in cc ]
]

pub newer_of-same : (x : Option Value) → newer_of x x ≡ x
newer_of-same x = grind (arith, not_newer_itself)

pub newer_of-assoc : (x y z : Option Value) → newer_of (newer_of x y) z ≡ newer_of x (newer_of y z)
newer_of-assoc None y z = refl
newer_of-assoc (Some a) None z = refl
newer_of-assoc (Some a) (Some b) None = newer_of-none _
newer_of-assoc (Some a) (Some b) (Some c) = elim (cases_Bool (is_newer b a)) [
  | inl e ↦ elim (cases_Bool (is_newer c b)) [ inl f ↦ let h = newer_trans a b c e f in cc | inr f ↦ cc ]
  | inr e ↦ elim (cases_Bool (is_newer c b)) [ inl f ↦ cc | inr f ↦ let h = not_newer_trans a b c e f in cc ]
]

-- it is one of the two
newer_of-cases : (x y : Option Value) (v : Value) → newer_of x y ≡ Some v → (x ≡ Some v) ⊎ (y ≡ Some v)
newer_of-cases x y v e = grind arith

-- if a value is not newer than the first, it is not newer than the newer of both
newer_of-above : (v : Value) (y : Option Value) (w : Value) → is_newer w v ≡ false
    → (z : Value) × (newer_of (Some v) y ≡ Some z) × (is_newer w z ≡ false)
newer_of-above v None w h = (v, refl, h)
newer_of-above v (Some b) w h = elim (cases_Bool (is_newer b v)) [
  | inl e ↦ (b, cc, false_from_ne_true _ (λ f. let t = newer_trans v b w e f in cc))
  | inr e ↦ (v, cc, h)
]

-- ---- one update more
pub newer_stands : NewerStands
newer_stands t u = grind (arith, at_same)

pub update_other : (t : Table) (r : Register) (v : Value) (q : Register) → q ≢ r
    → value_at (with_update t (record { register = r; value = v })) q ≡ value_at t q
update_other t r v q ne = grind (arith, at_other)

pub others_stay : OthersStay
others_stay t u r ne = update_other t u.register u.value r ne

-- ---- a join has each register's newer value
pub entries_at : (es : List (Register × Value)) → is_sorted register_cmp es ≡ true → (t : Table) (q : Register)
    → value_at (with_entries t es) q ≡ newer_of (value_at t q) (find register_cmp q es)
entries_at [] h t q = sym (newer_of-none (value_at t q))
entries_at (e ∷ es) h t q =
    let parts = both _ _ h in
    let u : Fields = record { register = e.0; value = e.1 } in
    rw (entries_at es parts.1 (with_update t u) q) (elim (same_or_other q e.0) [
      | inl is ↦ rw (is, newer_stands t u, below_none e.0 es parts.0, itself_register e.0) (newer_of-none _)
      | inr ne ↦ rw (update_other t e.0 e.1 q ne, other_register q e.0 ne)
    ])

pub join_is : JoinIs
join_is s t r = entries_at (map.entries t.registers) (from_T _ (map.entries_sorted t.registers)) s r
    ∙ ap (newer_of (value_at s r)) (sym (map.get-entries t.registers r))

pub join_commutes : JoinCommutes
join_commutes s t = map.same_map register_total register_exact _ _ (λ r. rw (join_is s t r, join_is t s r)
    (newer_of-comm (value_at s r) (value_at t r)))

pub join_repeats : JoinRepeats
join_repeats s = map.same_map register_total register_exact _ _ (λ r. join_is s s r ∙ newer_of-same (value_at s r))

pub join_associates : JoinAssociates
join_associates s t u = map.same_map register_total register_exact _ _ (λ r.
    rw (join_is (join s t) u r, join_is s t r, join_is s (join t u) r, join_is t u r)
    (newer_of-assoc (value_at s r) (value_at t r) (value_at u r)))

-- ---- the table of two sets together
pub joined_sets : (us vs : List Fields) (s t j : Table) → IsTableOf us s → IsTableOf vs t → IsJoin s t j
    → IsTableOf (us ++ vs) j
joined_sets us vs s t j a b h = record {
  from = λ r v at. elim (newer_of-cases (value_at s r) (value_at t r) v (sym (h r) ∙ at)) [
    | inl e ↦ Contains-append_left us vs _ (a.from r v e)
    | inr e ↦ Contains-append_right us vs _ (b.from r v e)
  ];
  newest = λ u c. elim (Contains-append_cases us vs u c) [
    | inl here ↦
        let n = a.newest u here in
        let z = newer_of-above n.0 (value_at t u.register) u.value n.2 in
        (z.0, rw (h u.register, n.1) z.1, z.2)
    | inr there ↦
        let n = b.newest u there in
        let z = newer_of-above n.0 (value_at s u.register) u.value n.2 in
        (z.0, rw (h u.register, newer_of-comm (value_at s u.register) (value_at t u.register), n.1) z.1, z.2)
  ];
}

pub join_of_tables : JoinOfTables
join_of_tables us vs s t a b = joined_sets us vs s t (join s t) a b (join_is s t)

-- ---- the tables of no update, and of one
pub none_taken : NoneTaken
none_taken os = table_of os [] refl

-- one more update is the join with its table
update_joins : (t : Table) (u : Fields) → IsJoin t (table_from [] (u ∷ [])) (with_update t u)
update_joins t u r = rw (found [] (u ∷ []) r refl) (entries_at (entries_of (u ∷ [])) refl t r)

pub one_taken : OneTaken
one_taken us t u h = joined_sets us (u ∷ []) t _ _ h (table_of [] (u ∷ []) refl) (update_joins t u)

pub all_taken : AllTaken
all_taken us [] t h = rw append-nil h
all_taken us (v ∷ vs) t h = rw append_assoc at (all_taken (us ++ v ∷ []) vs (with_update t v) (one_taken us t v h))

pub one_joined : OneJoined
one_joined s t u h =
    let same = one_table (u ∷ []) (u ∷ []) t (table_from [] (u ∷ [])) (record { there = λ w c. c; back = λ w c. c }) h
    (table_of [] (u ∷ []) refl) in
    map.same_map register_total register_exact _ _ (λ r. join_is s t r
    ∙ ap (λ m. newer_of (value_at s r) (map.get m r)) same ∙ sym (update_joins s u r))
