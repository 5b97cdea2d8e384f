-- The orders in which the table's nodes stand.
use Rattle.std.specs.Prelude.{ℕ, ◌≡◌, List, [], ◌∷◌, ◌++◌, length, slice_set}
use Rattle.idx_links.specs.Links.{list_at}
use Rattle.idx_links.specs.Families.{Families, lists_of}
use Rattle.mac_arena.specs.Orders.{Orders}

abbrev pub orders_of : Families → Orders
orders_of f = record {
  nodes = f.nodes;
  chains = lists_of f 0;
  ports = lists_of f 1;
  ageing = list_at (lists_of f 2) 0;
  free = list_at (lists_of f 2) 1;
}

-- three families, and two lists in the last
pub record IsOrders (f : Families) : Type 0 where
  pub three : length f.families ≡ 3
  pub two : length (lists_of f 2) ≡ 2

-- a node at the end of a list
abbrev pub joined : ℕ → ℕ → List (List ℕ) → List (List ℕ)
joined l node lists = slice_set lists l (list_at lists l ++ node ∷ [])
