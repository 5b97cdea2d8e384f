-- The changes of the links over which an edge sends that wait for the operator.
use Rattle.std.specs.Prelude.{ℕ, ◌==◌, Bool, false, ◌&&◌, nat_lt, if◌then◌else◌, is_some, List, [], ◌∷◌, ◌++◌, length}
use Rattle.std.specs.Prelude.{drop, Option, Some, None, slice_get, slice_set, replicate}
use Rattle.ev_mailboxes.specs.declared.receptions.Input.{Input}
use Rattle.ev_mailboxes.specs.declared.receptions.Input.TheVariants.{Port, Tunnel}
use Rattle.ev_mailboxes.specs.declared.sendings.Sending.{Sending}
use Rattle.ev_mailboxes.specs.declared.send_watch.SendWatch.{SendWatch}
use Rattle.ev_mailboxes.specs.SendWatch.{new_watch, change_of, after_second}

-- the watch of each link, the tunnel's first; and the waiting changes, the first one first
pub record SendingsState : Type 0 where
  pub watches : List SendWatch
  pub waiting : List Sending

abbrev pub sendings_of : List SendWatch → List Sending → SendingsState
sendings_of watches waiting = record { watches = watches; waiting = waiting }

abbrev pub no_sendings : SendingsState
no_sendings = sendings_of (replicate 65 new_watch) []

-- the link at a place
abbrev pub output_of : ℕ → Input
output_of place = if place == 0 then Tunnel else Port place

-- the link exists, and fewer than 128 changes wait
abbrev pub can_look : ℕ → SendingsState → Bool
can_look place s = nat_lt place 65 && nat_lt (length s.waiting) 128

-- a change waits after the others
abbrev pub with_change : ℕ → Option Bool → List Sending → List Sending
with_change place None waiting = waiting
with_change place (Some works) waiting = waiting ++ record { output = output_of place; works = works } ∷ []

-- the link's watch changes
abbrev pub looked : ℕ → ℕ → ℕ → Option SendWatch → SendingsState → SendingsState
looked place sent failed None s = s
looked place sent failed (Some w) s =
    sendings_of (slice_set s.watches place (after_second sent failed w))
    (with_change place (change_of sent failed w) s.waiting)

abbrev pub after_look : ℕ → ℕ → ℕ → SendingsState → SendingsState
after_look place sent failed s =
    if can_look place s then looked place sent failed (slice_get s.watches place) s else s

-- the link changes
abbrev pub changed_of : ℕ → ℕ → Option SendWatch → Bool
changed_of sent failed None = false
changed_of sent failed (Some w) = is_some (change_of sent failed w)

abbrev pub is_changed : ℕ → ℕ → ℕ → SendingsState → Bool
is_changed place sent failed s = can_look place s && changed_of sent failed (slice_get s.watches place)

abbrev pub first_sending : List Sending → Option Sending
first_sending [] = None
first_sending (first ∷ rest) = Some first

abbrev pub after_first : SendingsState → SendingsState
after_first s = sendings_of s.watches (drop 1 s.waiting)
