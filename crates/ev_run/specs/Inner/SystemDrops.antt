-- The rows of the system's table of sockets that report drops, and the drops that a console shows.
use Rattle.std.specs.Prelude.{◌≡◌, ◌⊎◌, ℕ, ◌-◌, max, Bool, not, ◌==◌, if◌then◌else◌, List, [], ◌∷◌, ◌++◌, map}
use Rattle.std.specs.Prelude.{Option, Some, None}
use Rattle.std.specs.Option.{unwrap_or}
use Rattle.std.specs.List.{fold, slice_get}
use Rattle.ev_config.specs.declared.endpoint.Endpoint.{Endpoint}
use Rattle.ev_report.specs.Originators.{Text}
use Rattle.ev_run.specs.LinkEnds.{LinkEnd, Udp, Device}
use Rattle.ev_run.specs.SystemDrops.{local_text, rows_of, words_of, names, count_of, dropped_at}

-- a row reports dropped datagrams: the number of its thirteenth word isn't 0
abbrev pub reports_drops : Text → Bool
reports_drops row = not (count_of (slice_get (words_of row) 12) == 0)

-- these rows, each with a line feed
abbrev pub text_of_rows : List Text → Text
text_of_rows [] = []
text_of_rows (row ∷ rows) = row ++ 10 ∷ text_of_rows rows

-- the drops that a row reports at a socket: none if its second word isn't the socket's
abbrev pub row_report : Text → Text → Option ℕ
row_report local row =
    if names local (slice_get (words_of row) 1) then Some (count_of (slice_get (words_of row) 12)) else None

-- the greater of two numbers, or the known one
abbrev pub greater : Option ℕ → Option ℕ → Option ℕ
greater None other = other
greater (Some one) None = Some one
greater (Some one) (Some other) = Some (max one other)

-- how many datagrams the text reports as dropped at a socket: the greatest number of a row, or none if it has no row of
-- the socket
abbrev pub reported_at : Text → Endpoint → Option ℕ
reported_at text at = fold (λ most row. greater most (row_report (local_text at) row)) None (rows_of text)

-- these drops, or none if the table couldn't be read
abbrev pub drops_in : Option Text → Endpoint → Option ℕ
drops_in None at = None
drops_in (Some text) at = reported_at text at

-- those at an end of a link: the table has none of a device
abbrev pub drops_at : Option Text → LinkEnd → Option ℕ
drops_at table (Udp at) = drops_in table at
drops_at table (Device name) = None

-- the drops at each link of the edge with this number, from 1; each edge receives at these ends
abbrev pub drops_of_edge : Option Text → List (List LinkEnd) → ℕ → List (Option ℕ)
drops_of_edge table sockets edge = map (drops_at table) (unwrap_or (slice_get sockets (edge - 1)) [])

-- The text reports the drops of this table. It is empty if the table couldn't be read or memory was refused.
abbrev pub IsShortened : Option Text → Text → Type 0
IsShortened None short = short ≡ []
IsShortened (Some text) short = (short ≡ []) ⊎ ((at : Endpoint) → dropped_at short at ≡ dropped_at text at)
