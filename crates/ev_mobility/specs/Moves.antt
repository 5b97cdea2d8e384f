-- The windows of stations that have moved.
use Rattle.std.specs.Prelude.{◌≡◌, ℕ, Bool, true, Option, Some, None, IsSome, List, [], ◌∷◌}
use Rattle.std.specs.List.{list_any}
use Rattle.std.specs.Map.{keys_of}
use Rattle.std.specs.FinMap.{FinMap, get, insert, remove, empty}
use Rattle.mac_arena.specs.declared.station.Station.{Station}
use Rattle.mac_arena.specs.Station.{station_cmp, is_same}
use Rattle.ev_mobility.specs.declared.window.Window.{Window}
use Rattle.ev_mobility.specs.Window.{after_move}

-- each station that has moved since its last thaw, with its newest window; and the stations with a place
pub record Moves : Type 0 where
  pub windows : FinMap station_cmp Window
  pub places : List Station

abbrev pub window_at : Moves → Station → Option Window
window_at m s = get m.windows s

abbrev pub has_place : Moves → Station → Bool
has_place m s = list_any (is_same s) m.places

-- a station that has moved since the last thaw has a place
abbrev pub ArePlaced : Moves → Type 0
ArePlaced m = (s : Station) → IsSome (window_at m s) → has_place m s ≡ true

-- one more move of the station
abbrev pub after_note : Moves → Station → ℕ → Moves
after_note m s second = record m { windows = insert m.windows s (after_move (window_at m s) second) }

-- its window ends
abbrev pub after_thaw : Moves → Station → Moves
after_thaw m s = record m { windows = remove m.windows s }

-- ---- stations that have a place, and their windows, if any

abbrev pub with_window : FinMap station_cmp Window → Station → Option Window → FinMap station_cmp Window
with_window m s None = remove m s
with_window m s (Some w) = insert m s w

abbrev pub windows_of : List (Station × Option Window) → FinMap station_cmp Window
windows_of [] = empty
windows_of (e ∷ es) = with_window (windows_of es) e.0 e.1

abbrev pub moves_of : List (Station × Option Window) → Moves
moves_of es = record { windows = windows_of es; places = keys_of es }
