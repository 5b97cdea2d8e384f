-- Laws on a report that is read page by page, while the table may change between two pages.
use Rattle.std.specs.Prelude.{◌≡◌, true, false, None, Option, is_some, List, [], ◌∷◌, Contains}
use Rattle.std.specs.List.{flat_map, AllByRecursion}
use Rattle.route_wire.specs.declared.update.Register.{Register}
use Rattle.route_wire.specs.declared.update.Value.{Value}
use Rattle.route_wire.specs.Fields.{Fields}
use Rattle.route_join.specs.Table.{Table, IsOrdered, value_at}
use Rattle.route_join.specs.Updates.{all_updates}
use Rattle.route_join.specs.After.{page_at, is_last, last_from}

-- pages of these tables, one of each, in their order; each begins after the last register of the page before
abbrev pub ArePages : Option Register → List Table → List (List Fields) → Type 0
ArePages after [] [] = Unit {0}
ArePages after [] (p ∷ ps) = ⊥
ArePages after (t ∷ ts) [] = ⊥
ArePages after (t ∷ ts) (p ∷ ps) = (p ≡ page_at after t) × ArePages (last_from after p) ts ps

-- each page is full but the last one
abbrev pub IsWhole : List (List Fields) → Type 0
IsWhole [] = ⊥
IsWhole (p ∷ []) = is_last p ≡ true
IsWhole (p ∷ q ∷ ps) = (is_last p ≡ false) × IsWhole (q ∷ ps)

abbrev pub joined : List (List Fields) → List Fields
joined ps = flat_map (λ (p : List Fields). p) ps

-- the updates of pages are in the order of a report, and at most one is of a register
abbrev pub PagesAscend : Type 0
PagesAscend = (ts : List Table) (ps : List (List Fields)) → ArePages None ts ps → IsOrdered (joined ps)

-- if the table doesn't change, they are its updates
abbrev pub PagesOfOne : Type 0
PagesOfOne = (t : Table) (ts : List Table) (ps : List (List Fields)) → AllByRecursion (λ s. s ≡ t) ts
    → ArePages None ts ps → IsWhole ps → joined ps ≡ all_updates t

-- a register that is in the table all the time has an update among them
abbrev pub RegisterStays : Type 0
RegisterStays = (r : Register) (ts : List Table) (ps : List (List Fields))
    → AllByRecursion (λ t. is_some (value_at t r) ≡ true) ts → ArePages None ts ps → IsWhole ps
    → (v : Value) × Contains (joined ps) (record { register = r; value = v })
