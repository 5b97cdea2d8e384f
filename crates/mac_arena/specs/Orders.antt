-- The orders in which the table's nodes stand.
use Rattle.std.specs.Prelude.{ℕ, List}

pub record Orders : Type 0 where
  pub nodes : ℕ
  pub chains : List (List ℕ)
  pub ports : List (List ℕ)
  pub ageing : List ℕ
  pub free : List ℕ
