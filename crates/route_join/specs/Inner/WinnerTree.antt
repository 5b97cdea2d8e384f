-- Updates at places, and the place of the best advert among them: each place knows the best one of its own update and
-- of those below it. Below place n are the places 2 n + 1 and 2 n + 2, as in a heap.
use Rattle.std.specs.Prelude.{◌≡◌, ◌≢◌, ◌⊎◌, ◌==◌, ℕ, ◌+◌, ◌*◌, ◌<◌, ◌≤◌, Bool, true, false, Option, Some}
use Rattle.std.specs.Prelude.{None, List, map}
use Rattle.std.specs.Prelude.{if◌then◌else◌}
use Rattle.std.specs.List.{slice_get}
use Rattle.route_wire.specs.declared.update.Advert.{Advert}
use Rattle.route_wire.specs.Fields.{Fields}
use Rattle.route_join.specs.declared.winner_tree.WinnerNode.{WinnerNode}
use Rattle.route_join.specs.Owner.{advert_in}
use Rattle.route_join.specs.Inner.Group.{candidate_in, wins}

-- adverts that are equally good, so that the order of their registers decides which one is better
abbrev pub is_level_by : Bool → Bool → ℕ → ℕ → Bool
is_level_by true false m n = false
is_level_by false true m n = false
is_level_by true true m n = n == m
is_level_by false false m n = n == m

abbrev pub are_level : Option Advert → Option Advert → Bool
are_level None d = false
are_level (Some c) None = false
are_level (Some c) (Some d) = is_level_by c.is_static d.is_static c.sequence d.sequence

-- the updates at the places
abbrev pub owns : List WinnerNode → List Fields
owns bs = map (λ (b : WinnerNode). b.own) bs

-- the update at the place of a best one
abbrev pub said_at : List Fields → Option ℕ → Option Fields
said_at us None = None
said_at us (Some p) = slice_get us p

-- the place of the better one of the best so far and another best
abbrev pub better_of : List Fields → Option ℕ → Option ℕ → Option ℕ
better_of us best other =
    if wins (candidate_in (said_at us other)) (candidate_in (said_at us best)) then other else best

-- the best stored at a place, of its own update and of those below it; `None` if the place doesn't exist
abbrev pub best_in : Option WinnerNode → Option ℕ
best_in None = None
best_in (Some b) = b.best

abbrev pub best_below : List WinnerNode → ℕ → Option ℕ
best_below bs p = best_in (slice_get bs p)

-- the best one of a place's own update and of the bests of the two places below
abbrev pub best_at : List WinnerNode → ℕ → Option ℕ
best_at bs p = better_of (owns bs) (better_of (owns bs) (better_of (owns bs) None (Some p)) (best_below bs (2 * p + 1)))
    (best_below bs (2 * p + 2))

-- the best stored at the place is right
abbrev pub IsSettledAt : List WinnerNode → ℕ → Type 0
IsSettledAt bs p = best_below bs p ≡ best_at bs p

abbrev pub AreSettled : List WinnerNode → Type 0
AreSettled bs = (p : ℕ) → IsSettledAt bs p

-- On the way up from the place x, whose update was replaced, at place q. The bests stored at the places after q are
-- right. The best stored at a place before q is right too, unless x is the best of a place right below it.
pub record IsSettledBut (bs : List WinnerNode) (x q : ℕ) : Type 0 where
  pub behind : (p : ℕ) → q < p → IsSettledAt bs p
  pub before : (p : ℕ) → p < q → best_below bs (2 * p + 1) ≢ Some x → best_below bs (2 * p + 2) ≢ Some x
      → IsSettledAt bs p
  -- if x is the best of a place before q, it is that of one right below it
  pub told : (p : ℕ) → p < q → best_below bs p ≡ Some x
      → (best_below bs (2 * p + 1) ≡ Some x) ⊎ (best_below bs (2 * p + 2) ≡ Some x)
  -- x is not the best of any place after q that is right below a place before q
  pub beside : (p : ℕ) → q < p → p ≤ 2 * q → best_below bs p ≢ Some x

-- w is among the updates and advertises, and none of them wins against it
pub record Wins (us : List Fields) (w : Fields) : Type 0 where
  pub place : ℕ
  pub stands : slice_get us place ≡ Some w
  pub advert : Advert
  pub advertises : advert_in w.value.content ≡ Some advert
  pub best : (p : ℕ) (u : Fields) → slice_get us p ≡ Some u
      → wins (candidate_in (Some u)) (candidate_in (Some w)) ≡ false

-- the best of them, `None` if nothing is advertised
abbrev pub IsBestOf : List Fields → Option Fields → Type 0
IsBestOf us None = (p : ℕ) (u : Fields) → slice_get us p ≡ Some u → advert_in u.value.content ≡ None
IsBestOf us (Some w) = Wins us w
