-- The alerts of an edge: those that wait for the operator, and the recent ones: taken, and less than 180 seconds old.
use Rattle.std.specs.Prelude.{ℕ, ◌+◌, ◌-◌, ◌^◌, min, Bool, false, true, ◌&&◌, not, ◌==◌, nat_lt, if◌then◌else◌, List}
use Rattle.std.specs.Prelude.{[], ◌∷◌, ◌++◌, length, filter, Option, Some, None}
use Rattle.std.specs.List.{list_any}
use Rattle.mac_arena.specs.declared.station.Station.{Station}
use Rattle.ev_mobility.specs.Alert.{number_of, port_of}
use Rattle.ev_mailboxes.specs.declared.alarm.Alarm.{Alarm}
use Rattle.ev_mailboxes.specs.declared.board.Posted.{Posted}
use Rattle.ev_mailboxes.specs.declared.board.Notice.{Notice}

-- The alerts that were taken and those that wait, each with the first one first; the number of seconds that have
-- passed; and the number of alerts that were suppressed since the last accepted one.
pub record BoardState : Type 0 where
  pub told : List Posted
  pub waiting : List Posted
  pub clock : ℕ
  pub held : ℕ

abbrev pub board_of : List Posted → List Posted → ℕ → ℕ → BoardState
board_of told waiting clock held = record { told = told; waiting = waiting; clock = clock; held = held }

abbrev pub empty_board : BoardState
empty_board = board_of [] [] 0 0

-- one more; the count stops at 2^64 - 1
abbrev pub one_more : ℕ → ℕ
one_more n = min (n + 1) (2 ^ 64 - 1)

abbrev pub after_second : BoardState → BoardState
after_second b = board_of b.told b.waiting (one_more b.clock) b.held

-- ---- an alert comes

abbrev pub same_station : Option Station → Option Station → Bool
same_station None None = true
same_station (Some s) (Some t) = (s.vni == t.vni) && (s.mac == t.mac)
same_station None (Some t) = false
same_station (Some s) None = false

-- they are about the limit of the same port, or of no port
abbrev pub same_limit : Option ℕ → Option ℕ → Bool
same_limit None None = true
same_limit (Some p) (Some q) = p == q
same_limit None (Some q) = false
same_limit (Some p) None = false

-- they have the same kind and station, and if they are about the limit of a port, the same port
abbrev pub is_like : Alarm → Posted → Bool
is_like a p =
    (number_of a.alert == number_of p.alarm.alert)
    && (same_station a.station p.alarm.station && same_limit (port_of a.alert) (port_of p.alarm.alert))

-- it came less than 180 seconds ago
abbrev pub is_fresh : ℕ → Posted → Bool
is_fresh now p = nat_lt (now - p.second) 180

-- the taken alerts that came 180 seconds ago or earlier are forgotten
abbrev pub forgetting : BoardState → BoardState
forgetting b = board_of (filter (is_fresh b.clock) b.told) b.waiting b.clock b.held

-- no taken or waiting alert of the board is like it, and there are fewer than 16 of both
abbrev pub is_put : Alarm → BoardState → Bool
is_put a b = (not (list_any (is_like a) b.told) && not (list_any (is_like a) b.waiting))
    && nat_lt (length b.told + length b.waiting) 16

abbrev pub posted : Alarm → ℕ → ℕ → Posted
posted alarm second held = record { alarm = alarm; second = second; held = held }

-- the alert waits after the others, with the number of alerts suppressed before it; or it is suppressed, too
abbrev pub putting : Alarm → BoardState → BoardState
putting a b = if is_put a b then board_of b.told (b.waiting ++ posted a b.clock b.held ∷ []) b.clock 0
    else board_of b.told b.waiting b.clock (one_more b.held)

abbrev pub after_alarm : Alarm → BoardState → BoardState
after_alarm a b = putting a (forgetting b)

-- ---- alerts are taken

abbrev pub notice_of : Posted → Notice
notice_of p = record { held = p.held; alarm = Some p.alarm }

abbrev pub first_in : List Posted → Option Notice
first_in [] = None
first_in (p ∷ ps) = Some (notice_of p)

abbrev pub first_notice : BoardState → Option Notice
first_notice b = first_in b.waiting

abbrev pub left : List Posted → BoardState → BoardState
left [] b = b
left (p ∷ ps) b = board_of (b.told ++ p ∷ []) ps b.clock b.held

abbrev pub after_take : BoardState → BoardState
after_take b = left b.waiting b

-- at the end: the number of alerts that were suppressed since the last accepted one
abbrev pub last_notice : BoardState → Option Notice
last_notice b = if b.held == 0 then None else Some (record { held = b.held; alarm = None })

abbrev pub after_last : BoardState → BoardState
after_last b = board_of b.told b.waiting b.clock 0
