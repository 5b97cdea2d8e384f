-- Rings of places: a list is a ring through its own place, its sentinel, and then its nodes.
use Rattle.std.specs.Prelude.{ℕ, zero, suc, ◌+◌, ◌-◌, ◌<◌, ◌≤◌, ◌≡◌, Bool, false, ◌==◌, Option, Some, None, List, []}
use Rattle.std.specs.Prelude.{◌∷◌, length, map, get_or, sum}
use Rattle.std.specs.List.{range_with_len, count_by}
use Rattle.std.specs.Option.{is_none}
use Rattle.idx_links.specs.Links.{Links, has, Apart}

-- n places, following f from s
abbrev pub walk : ℕ → (ℕ → ℕ) → ℕ → List ℕ
walk zero f s = []
walk (suc n) f s = s ∷ walk n f (f s)

-- following f from a goes through xs to b
abbrev pub Path : (ℕ → ℕ) → ℕ → List ℕ → ℕ → Type 0
Path f a [] b = f a ≡ b
Path f a (x ∷ xs) b = (f a ≡ x) × Path f x xs b

abbrev pub follow : List ℕ → ℕ → ℕ
follow next x = get_or next x 0

-- the places on the ring of l, from the sentinel on, without it
abbrev pub ring_of : List ℕ → List ℕ → ℕ → List ℕ
ring_of next lens l = walk (get_or lens l 0) (follow next) (follow next l)

-- the nodes on list l
abbrev pub nodes_of : List ℕ → List ℕ → ℕ → List ℕ
nodes_of next lens l = map (λ x. x - length lens) (ring_of next lens l)

abbrev pub links_of : List ℕ → List ℕ → Links
links_of next lens = record {
  nodes = length next - length lens;
  lists = map (nodes_of next lens) (range_with_len 0 (length lens));
}

abbrev pub is_at : Option ℕ → ℕ → Bool
is_at None l = false
is_at (Some k) l = k == l

-- the ring of l returns to l, and has exactly the places that l owns
pub record IsRing (next : List ℕ) (owner : List (Option ℕ)) (lens : List ℕ) (l : ℕ) : Type 0 where
  pub path : Path (follow next) l (ring_of next lens l) l
  pub apart : Apart (ring_of next lens l)
  pub owned : (x : ℕ) → has (ring_of next lens l) x ≡ is_at (get_or owner x None) l

-- next and prev undo each other
pub record AreInverse (next prev : List ℕ) : Type 0 where
  pub same : length prev ≡ length next
  pub forth : (x : ℕ) → x < length next → (get_or next x 0 < length next) × (get_or prev (get_or next x 0) 0 ≡ x)
  pub back : (x : ℕ) → x < length next → (get_or prev x 0 < length next) × (get_or next (get_or prev x 0) 0 ≡ x)

pub record IsGood (next prev : List ℕ) (owner : List (Option ℕ)) (lens : List ℕ) : Type 0 where
  pub inverse : AreInverse next prev
  pub owners : length owner ≡ length next
  pub few : length lens ≤ length next
  pub sentinels : (l : ℕ) → l < length lens → get_or owner l None ≡ None
  pub listed : (x l : ℕ) → get_or owner x None ≡ Some l → l < length lens
  pub alone : (x : ℕ) → length lens ≤ x → x < length next → get_or owner x None ≡ None → get_or next x 0 ≡ x
  pub rings : (l : ℕ) → l < length lens → IsRing next owner lens l
  pub counted : sum lens + count_by is_none owner ≡ length next
