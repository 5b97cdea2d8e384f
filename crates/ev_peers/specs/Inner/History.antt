-- The seats of running edges in the history.
use Rattle.std.specs.Prelude.{◌≡◌, ℕ, ◌+◌, ◌<◌, List, [], ◌∷◌, Option, Some, None, Result, Ok, Err, slice_get}
use Rattle.std.specs.declared.alloc.AllocError.{AllocError}
use mathlib.Core.List.{IsPrefix}
use Rattle.ev_book.specs.declared.log_entry.LogEntry.{LogEntry}
use Rattle.ev_book.specs.Log.{count as entries_of}
use Rattle.ev_book.specs.Rule.{SeatState}
use Rattle.ev_peers.specs.declared.edge_outcome.EdgeOutcome.{EdgeOutcome}
use Rattle.ev_peers.specs.EdgeThreads.{EdgeSetup}
use Rattle.ev_peers.specs.History.{IsSeatOf, StandsAt}

-- the seat of an edge that ran
abbrev pub seat_in : Result (EdgeOutcome × SeatState) AllocError → Option SeatState
seat_in (Ok r) = Some r.1
seat_in (Err refused) = None

-- the edge with this number is at the end of its entries, if it ran
abbrev pub SeatedAs : ℕ → Result (EdgeOutcome × SeatState) AllocError → Type 0
SeatedAs number (Ok r) = (r.1.place + 1 ≡ number) × StandsAt r.1.place r.1 r.0.edge
SeatedAs number (Err refused) = Unit {0}

-- the seat of each edge is at its own place
pub record AreSeatsOf {O : Type 0} (setups : List (EdgeSetup O)) (seats : List SeatState) : Type 0 where
  pub at : (n : ℕ) (setup : EdgeSetup O) (seat : SeatState) → slice_get setups n ≡ Some setup
      → slice_get seats n ≡ Some seat → (seat.place ≡ n) × IsSeatOf setup.config seat

-- an edge that ran has its seat, at this place
abbrev pub IsSeated : ℕ → Result EdgeOutcome AllocError → Option SeatState → Type 0
IsSeated place (Ok outcome) (Some seat) = StandsAt place seat outcome.edge
IsSeated place (Ok outcome) None = ⊥
IsSeated place (Err refused) (Some seat) = ⊥
IsSeated place (Err refused) None = Unit {0}

-- the seats of these results, in their order; the first one is at this place
abbrev pub AreSeated : ℕ → List (Result EdgeOutcome AllocError) → List (Option SeatState) → Type 0
AreSeated place [] [] = Unit {0}
AreSeated place [] (seat ∷ seats) = ⊥
AreSeated place (ran ∷ rans) [] = ⊥
AreSeated place (ran ∷ rans) (seat ∷ seats) = IsSeated place ran seat × AreSeated (place + 1) rans seats

-- the log contains the entries that the first `count` seats have seen
abbrev pub AreSeen : ℕ → List LogEntry → List (Option SeatState) → Type 0
AreSeen count log seats = (n : ℕ) (seat : SeatState) → n < count → slice_get seats n ≡ Some (Some seat)
    → IsPrefix seat.log log

-- the edges of the first `count` seats have no more entries than their seats have seen
abbrev pub AreSettled : ℕ → List LogEntry → List (Option SeatState) → Type 0
AreSettled count log seats = (n : ℕ) (seat : SeatState) → n < count → slice_get seats n ≡ Some (Some seat)
    → entries_of seat.place log ≡ entries_of seat.place seat.log
