-- what callers see of several families of lists over one arena of nodes
use Rattle.std.specs.Prelude.{ℕ, ◌+◌, ◌-◌, ◌*◌, ◌/◌, ◌%◌, ◌<◌, ◌≤◌, ◌≡◌, ◌^◌, true, List, [], length, map}
use Rattle.std.specs.Prelude.{slice_index_or}
use Rattle.std.specs.List.{range_with_len}
use Rattle.idx_links.specs.Links.{Links, has, list_at}

pub record Families : Type 0 where
  pub nodes : ℕ
  pub families : List (List (List ℕ))

-- the lists of a family
abbrev pub lists_of : Families → ℕ → List (List ℕ)
lists_of f k = slice_index_or f.families k []

-- each node on a list of the family is one of its nodes
abbrev pub AreNodes : Families → ℕ → Type 0
AreNodes f k = (l n : ℕ) → has (list_at (lists_of f k) l) n ≡ true → n < f.nodes

-- ---- the families side by side in one set of lists: the lists of a family come after those of the families before it,
-- and node n of the k-th family is node n * families + k

-- the first list of a family
abbrev pub start : List ℕ → ℕ → ℕ
start starts k = slice_index_or starts k 0

abbrev pub nodes_in : ℕ → List ℕ → List (List ℕ) → ℕ → ℕ → List ℕ
nodes_in families starts lists k l = map (λ m. m / families) (list_at lists (start starts k + l))

abbrev pub family_in : ℕ → List ℕ → List (List ℕ) → ℕ → List (List ℕ)
family_in families starts lists k = map (nodes_in families starts lists k)
    (range_with_len 0 (start starts (k + 1) - start starts k))

abbrev pub families_of : ℕ → ℕ → List ℕ → Links → Families
families_of families nodes starts links = record {
  nodes = nodes;
  families = map (family_in families starts links.lists) (range_with_len 0 families);
}

-- families with places for the same number of nodes each; a family's lists have only its own nodes, each below their
-- number
pub record IsFamily (families nodes : ℕ) (starts : List ℕ) (links : Links) : Type 0 where
  pub counted : length starts ≡ families + 1
  pub rises : (k : ℕ) → k < families → start starts k ≤ start starts (k + 1)
  pub whole : start starts families ≤ length links.lists
  pub few : start starts families < 2 ^ 64
  pub enough : nodes * families ≤ links.nodes
  pub small : nodes * families < 2 ^ 64
  pub own : (l m : ℕ) → has (list_at links.lists l) m ≡ true
      → (start starts (m % families) ≤ l) × (l < start starts (m % families + 1))
  pub below : (l m : ℕ) → has (list_at links.lists l) m ≡ true → m < nodes * families
