-- what callers see of several families of lists over one arena of nodes
use Rattle.std.specs.Prelude.{ℕ, ◌+◌, ◌<◌, ◌≡◌, ◌^◌, List, length}
use Rattle.std.specs.Prelude.{slice_index_or}
use Rattle.idx_links.specs.Families.{start}

-- each family starts where the lists of the one before end
pub record AreStarts (counts starts : List ℕ) : Type 0 where
  pub counted : length starts ≡ length counts + 1
  pub ends : (k : ℕ) → k < length counts → start starts (k + 1) ≡ start starts k + slice_index_or counts k 0
  pub few : start starts (length counts) < 2 ^ 64
