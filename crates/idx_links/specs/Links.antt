-- what callers see of a set of doubly linked lists: how many nodes there are, and each list
use Rattle.std.specs.Prelude.{ℕ, ◌≡◌, Bool, true, false, ◌||◌, ◌==◌, List, [], ◌∷◌, if◌then◌else◌, slice_index_or}

pub record Links : Type 0 where
  pub nodes : ℕ
  pub lists : List (List ℕ)

-- is the node on the list
abbrev pub has : List ℕ → ℕ → Bool
has [] n = false
has (x ∷ xs) n = (x == n) || has xs n

-- the list without the node
abbrev pub without : ℕ → List ℕ → List ℕ
without n [] = []
without n (x ∷ xs) = if x == n then xs else x ∷ without n xs

-- the list at a place
abbrev pub list_at : List (List ℕ) → ℕ → List ℕ
list_at lists l = slice_index_or lists l []

-- no list has the node
abbrev pub IsFree : List (List ℕ) → ℕ → Type 0
IsFree lists n = (l : ℕ) → has (list_at lists l) n ≡ false

-- no node occurs twice
abbrev pub Apart : List ℕ → Type 0
Apart [] = Unit {0}
Apart (x ∷ xs) = (has xs x ≡ false) × Apart xs

-- some list has the node
abbrev pub IsLinked : List (List ℕ) → ℕ → Type 0
IsLinked lists n = (l : ℕ) × (has (list_at lists l) n ≡ true)
