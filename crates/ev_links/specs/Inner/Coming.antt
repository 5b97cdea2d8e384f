-- Things that come to a worker one after the other, and how it handles each.
use Rattle.std.specs.Prelude.{◌≡◌, List, [], ◌∷◌, Option, Some}
use Rattle.ev_links.specs.Coming.{behind}

-- One more thing came and was handled by `Does`.
pub record DoesOne {A S : Type 0} (Does : S → A → S → Type 0) (came : Option (List (Option A))) (s : S)
    (came' : Option (List (Option A))) (s' : S) : Type 0 where
  pub thing : A
  pub told : came' ≡ behind came (Some thing ∷ [])
  pub done : Does s thing s'
