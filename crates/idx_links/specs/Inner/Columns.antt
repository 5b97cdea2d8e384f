-- The links of all places, one column for each kind.
use Rattle.std.specs.Prelude.{ℕ, ◌+◌, ◌-◌, ◌<◌, ◌≤◌, ◌^◌, ◌==◌, ◌++◌, if◌then◌else◌, Option, Some, None, List, map}
use Rattle.std.specs.Prelude.{drop, replicate}

pub record Columns : Type 0 where
  pub next : List ℕ
  pub prev : List ℕ
  pub owner : List (Option ℕ)
  pub lens : List ℕ

-- a list's number from one more than it; 0 means no list
abbrev pub list_named : ℕ → Option ℕ
list_named mark = if mark == 0 then None else Some (mark - 1)

-- the list that each place is on, by the marks of all places: the first are the lists' own, which are on none
abbrev pub owners : ℕ → List ℕ → List (Option ℕ)
owners lists marks = replicate lists None ++ map list_named (drop lists marks)

-- places of which some belong to lists have numbers and lengths of 32 bits
pub record Fits (lists places : ℕ) : Type 0 where
  pub first : lists ≤ places
  pub small : places + 1 < 2 ^ 32
