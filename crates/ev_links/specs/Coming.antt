-- Things that come to a worker one after the other, and how it handles each.
use Rattle.std.specs.Prelude.{◌≡◌, List, [], ◌∷◌, ◌++◌, Option, Some, None, map, reverse}

-- the history of a link or an outlet with these things appended; one without a history (`None`) stays without
abbrev pub behind : {A : Type 0} → Option (List A) → List A → Option (List A)
behind None more = None
behind (Some told) more = Some (told ++ more)

-- the history of a source with these things appended; `things` has the last one first
abbrev pub after_these : {A : Type 0} → Option (List (Option A)) → List A → Option (List (Option A))
after_these came things = behind came (reverse (map Some things))

-- each of these things is handled, one after the other; the list has the last one first
abbrev pub Each : {A S : Type 0} → (S → A → S → Type 0) → S → List A → S → Type 0
Each Does s [] s' = s' ≡ s
Each {A} {S} Does s (a ∷ rest) s' = (middle : S) × Each Does s rest middle × Does middle a s'

-- Each thing that came meanwhile was handled by `Does`, in their order, and nothing else was done.
pub record DoesAll {A S : Type 0} (Does : S → A → S → Type 0) (came : Option (List (Option A))) (s : S)
    (came' : Option (List (Option A))) (s' : S) : Type 0 where
  pub things : List A
  pub told : came' ≡ after_these came things
  pub done : Each Does s things s'

-- `DoesAll` holds, and then the source came to its end.
pub record DoesAllToTheEnd {A S : Type 0} (Does : S → A → S
    → Type 0) (came : Option (List (Option A))) (s : S) (came' : Option (List (Option A))) (s' : S) : Type 0 where
  pub before : Option (List (Option A))
  pub all : DoesAll Does came s before s'
  pub end : came' ≡ behind before (None ∷ [])
