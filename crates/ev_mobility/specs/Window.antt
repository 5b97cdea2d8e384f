-- Windows of moves (RFC 7432, section 15.1, with N of 5 and M of 180 seconds).
use Rattle.std.specs.Prelude.{ℕ, ◌+◌, ◌==◌, ◌||◌, nat_lt, Bool, false, if◌then◌else◌, Option, Some, None, List, [], ◌∷◌}
use Rattle.std.specs.List.{list_any}
use Rattle.ev_mobility.specs.declared.window.Window.{Window}

-- ---- the definition: an address has moved at these seconds since its last thaw, the newest first

-- the second of a window's first move, and how many moves it has
pub record Span : Type 0 where
  pub start : ℕ
  pub moves : ℕ

-- a move within 180 seconds of the newest window's start is one more of it; any other one starts a window
abbrev pub with_move : ℕ → List Span → List Span
with_move second [] = record { start = second; moves = 1 } ∷ []
with_move second (s ∷ ss) =
    if nat_lt second (s.start + 180) then record { start = s.start; moves = s.moves + 1 } ∷ ss
    else record { start = second; moves = 1 } ∷ s ∷ ss

-- the windows of the moves, the newest first
abbrev pub spans : List ℕ → List Span
spans [] = []
spans (second ∷ earlier) = with_move second (spans earlier)

-- the newest window has five moves: this move is its fifth
abbrev pub ends_in_fifth : List Span → Bool
ends_in_fifth [] = false
ends_in_fifth (s ∷ ss) = s.moves == 5

-- some window has five moves at least
abbrev pub has_five : List Span → Bool
has_five ss = list_any (λ s. nat_lt 4 s.moves) ss

-- ---- what is kept of them, and how one more move changes it

abbrev pub up_to_six : ℕ → ℕ
up_to_six n = if nat_lt n 6 then n else 6

-- the newest window, its moves counted up to 6, and whether the address is frozen
abbrev pub kept : List Span → Option Window
kept [] = None
kept (s ∷ ss) = Some (record { start = s.start; count = up_to_six s.moves; frozen = has_five (s ∷ ss) })

abbrev pub one_more : ℕ → ℕ
one_more n = if nat_lt n 6 then n + 1 else 6

abbrev pub runs : Window → ℕ → Bool
runs w second = nat_lt second (w.start + 180)

abbrev pub count_with : Option Window → ℕ → ℕ
count_with None second = 1
count_with (Some w) second = if runs w second then one_more w.count else 1

abbrev pub is_fifth : Option Window → ℕ → Bool
is_fifth w second = count_with w second == 5

abbrev pub is_frozen : Option Window → Bool
is_frozen None = false
is_frozen (Some w) = w.frozen

abbrev pub start_with : Option Window → ℕ → ℕ
start_with None second = second
start_with (Some w) second = if runs w second then w.start else second

abbrev pub after_move : Option Window → ℕ → Window
after_move w second = record {
  start = start_with w second;
  count = count_with w second;
  frozen = is_frozen w || is_fifth w second;
}
