-- Groups: the updates of one subject, with the place of the best advert among them.
use Rattle.std.specs.Prelude.{◌≡◌, ℕ, ◌<◌, ◌^◌, List, []}
use Rattle.std.specs.Prelude.{◌∷◌, ◌++◌, length}
use Rattle.std.specs.declared.cmp.Ordering.TheVariants.{Less}
use Rattle.route_wire.specs.declared.update.Register.{Register}
use Rattle.route_wire.specs.declared.update.Value.{Value}
use Rattle.route_wire.specs.Fields.{Fields}
use Rattle.route_join.specs.Subject.{Subject, subject_cmp, subject_of}
use Rattle.route_join.specs.Table.{entries_of, IsKept}

-- ---- many groups

-- all are about the subject
abbrev pub AreAbout : Subject → List (Register × Value) → Type 0
AreAbout s [] = Unit {0}
AreAbout s (e ∷ es) = (subject_of e.0.key ≡ s) × AreAbout s es

abbrev pub IsSome : List (Register × Value) → Type 0
IsSome [] = ⊥
IsSome (e ∷ es) = Unit {0}

-- the subject comes before those of the groups
abbrev pub IsBefore : Subject → List (Subject × List Fields) → Type 0
IsBefore s [] = Unit {0}
IsBefore s (g ∷ gs) = (subject_cmp s g.0 ≡ Less) × IsBefore s gs

-- groups in the order of their subjects, each with some updates about its subject
abbrev pub AreGroups : List (Subject × List Fields) → Type 0
AreGroups [] = Unit {0}
AreGroups (g ∷ gs) = AreAbout g.0 (entries_of g.1) × IsSome (entries_of g.1) × IsBefore g.0 gs × AreGroups gs

-- all their updates
abbrev pub updates_in : List (Subject × List Fields) → List Fields
updates_in [] = []
updates_in (g ∷ gs) = g.1 ++ updates_in gs

-- the invariant of a table of groups
pub record IsGrouped (originators : List ℕ) (gs : List (Subject × List Fields)) : Type 0 where
  pub kept : IsKept originators (updates_in gs)
  pub groups : AreGroups gs

-- the invariant with the number of registers
pub record IsCounted (originators : List ℕ) (gs : List (Subject × List Fields)) (held : ℕ) : Type 0 where
  pub grouped : IsGrouped originators gs
  pub counted : held ≡ length (updates_in gs)
  pub few : held < 2 ^ 64
