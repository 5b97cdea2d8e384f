-- Groups in an index: found by their subjects, which are in the order of a report.
use Rattle.std.specs.Prelude.{◌≡◌, Bool, true, Option, is_some, List, [], ◌∷◌}
use Rattle.std.specs.List.{list_any}
use Rattle.std.specs.List.Sorted.{IsStrictlySortedBy}
use Rattle.std.specs.Option.{unwrap_or}
use Rattle.std.specs.Map.{lookup}
use Rattle.std.specs.BTreeMap.{is_at}
use Rattle.route_wire.specs.Fields.{Fields}
use Rattle.route_join.specs.Subject.{Subject, subject_cmp}
use Rattle.route_join.specs.Inner.Subject.{subject_eq}

-- the group of a subject, among groups in the order of their subjects
abbrev pub group_at : Subject → List (Subject × List Fields) → Option (List Fields)
group_at s gs = lookup (is_at (subject_cmp s)) gs

-- the group of a subject, among groups in any order
abbrev pub group_in : List (Subject × List Fields) → Subject → Option (List Fields)
group_in gs s = lookup (subject_eq s) gs

-- the groups of these subjects, in their order
abbrev pub groups_along : List Subject → List (Subject × List Fields) → List (Subject × List Fields)
groups_along [] gs = []
groups_along (s ∷ ss) gs = (s, unwrap_or (group_in gs s) []) ∷ groups_along ss gs

abbrev pub is_among : List Subject → Subject → Bool
is_among ss s = list_any (is_at (subject_cmp s)) ss

-- the subjects ascend, and are exactly those that have a group
pub record AreIndexed (ss : List Subject) (gs : List (Subject × List Fields)) : Type 0 where
  pub ascend : IsStrictlySortedBy subject_cmp ss
  pub same : (s : Subject) → is_among ss s ≡ is_some (group_in gs s)

-- each of these subjects has a group
abbrev pub AreThere : List Subject → List (Subject × List Fields) → Type 0
AreThere [] gs = Unit {0}
AreThere (s ∷ ss) gs = (is_some (group_in gs s) ≡ true) × AreThere ss gs
