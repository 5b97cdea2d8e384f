-- The sessions with edges elsewhere: which of these edges are away, and since which second. The default of 90 seconds
-- is the hold time of a BGP session (RFC 4271, section 10). That a route stays in the table is a rule of this project.
use Rattle.std.specs.Prelude.{◌≡◌, ◌≤◌, ℕ, ◌+◌, ◌-◌, ◌^◌, min, Bool, true, false, ◌==◌, ◌&&◌, not, nat_le, nat_lt}
use Rattle.std.specs.Prelude.{if◌then◌else◌, List, [], ◌∷◌, ◌++◌, length, map, Option, Some, None}
use Rattle.std.specs.List.{All, list_any}
use Rattle.ev_exchange.specs.declared.sessions.Session.{Session}
use Rattle.ev_exchange.specs.declared.sessions.Change.{Change}
use Rattle.ev_exchange.specs.declared.sessions.Change.TheVariants.{Begins, Ends, Marks}
use Rattle.ev_exchange.specs.declared.sessions.Turn.{Turn}

abbrev pub is_of : ℕ → Session → Bool
is_of edge s = s.edge == edge

-- one connection more; one less, since this second; or marked as away, or as back
abbrev pub changed : Change → Session → Session
changed Begins s = record s { connections = min (s.connections + 1) (2 ^ 64 - 1) }
changed (Ends now) s = record s { connections = s.connections - 1; since = now }
changed (Marks is_away) s = record s { is_away = is_away }

-- this change of the session with the edge
abbrev pub at_edge : ℕ → Change → Session → Session
at_edge edge change s = if is_of edge s then changed change s else s

-- ---- connections

abbrev pub first_session : ℕ → Session
first_session edge = record { edge = edge; connections = 1; since = 0; is_away = false }

-- the first update of an edge has come over a connection; there are at most 64 edges
abbrev pub after_begin : ℕ → List Session → List Session
after_begin edge all =
    if list_any (is_of edge) all then map (at_edge edge Begins) all
    else if nat_lt (length all) 64 then all ++ first_session edge ∷ [] else all

-- a connection over which updates of the edge came has ended at this second
abbrev pub after_end : ℕ → ℕ → List Session → List Session
after_end edge now all = map (at_edge edge (Ends now)) all

-- ---- edges that are away

-- no connection for `hold` seconds; never with `hold` 0
abbrev pub is_overdue : ℕ → ℕ → Session → Bool
is_overdue now hold s = s.connections == 0 && not (hold == 0) && nat_le hold (now - s.since)

abbrev pub turn_to : Bool → Session → Turn
turn_to is_away s = record { edge = s.edge; is_away = is_away }

-- the step that is due: an edge is away once it is overdue, and back once it isn't
abbrev pub turn_of : ℕ → ℕ → Session → Option Turn
turn_of now hold s =
    if is_overdue now hold s then (if s.is_away then None else Some (turn_to true s))
    else if s.is_away then Some (turn_to false s) else None

abbrev pub or_later : Option Turn → Option Turn → Option Turn
or_later None later = later
or_later (Some turn) later = Some turn

-- the first step that is due
abbrev pub first_turn : ℕ → ℕ → List Session → Option Turn
first_turn now hold [] = None
first_turn now hold (s ∷ more) = or_later (turn_of now hold s) (first_turn now hold more)

-- the edges have taken this step
abbrev pub after_turn : Turn → List Session → List Session
after_turn turn all = map (at_edge turn.edge (Marks turn.is_away)) all

-- if no step is due, the edges that are marked as away are exactly those that are overdue
abbrev pub MarksAreDue : Type 0
MarksAreDue =
    (now hold : ℕ) (all : List Session) → first_turn now hold all ≡ None
    → map (λ s. s.is_away) all ≡ map (is_overdue now hold) all

-- ---- a history

-- a connection with updates of an edge begins, or one ends at a second; or the edges of this process take a step
pub data Happening : Type 0 where
  begins : ℕ → Happening
  ends : ℕ → ℕ → Happening
  takes : Turn → Happening

abbrev pub after_one : Happening → List Session → List Session
after_one (begins edge) all = after_begin edge all
after_one (ends edge now) all = after_end edge now all
after_one (takes turn) all = after_turn turn all

-- the first one first
abbrev pub after_these : List Happening → List Session → List Session
after_these [] all = all
after_these (h ∷ more) all = after_these more (after_one h all)

-- a connection of this edge begins or ends
abbrev pub is_about : ℕ → Happening → Bool
is_about edge (begins other) = other == edge
is_about edge (ends other now) = other == edge
is_about edge (takes turn) = false

-- The last connection of an edge has ended at second t, and none has begun since. Whatever else has happened, the edge
-- is overdue exactly if `hold` seconds have passed, and `hold` isn't 0.
abbrev pub OverdueAfterHold : Type 0
OverdueAfterHold =
    (edge t now hold : ℕ) (all : List Session) (since : List Happening)
    → All (λ s. s.edge ≡ edge → s.connections ≤ 1) all → list_any (is_about edge) since ≡ false
    → All (λ s. s.edge ≡ edge → is_overdue now hold s ≡ (not (hold == 0) && nat_le hold (now - t)))
    (after_these since (after_end edge t all))
