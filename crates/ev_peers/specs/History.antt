-- Running edges beside the history of all edges of the process.
use Rattle.std.specs.Prelude.{◌≡◌, ℕ, ◌+◌, Bool, List, [], ◌∷◌, map, Some, None, Result, Ok, Err, slice_get}
use Rattle.std.specs.declared.alloc.AllocError.{AllocError}
use Rattle.ev_edge.specs.declared.config.EdgeConfig.{EdgeConfig}
use Rattle.ev_edge.specs.Edge.{Edge}
use Rattle.ev_book.specs.declared.log_entry.LogEntry.{LogEntry}
use Rattle.ev_book.specs.declared.log_entry.LogEntry.TheVariants.{Begins}
use Rattle.ev_book.specs.Log.{IsHistory, world}
use Rattle.ev_book.specs.Rule.{SeatState}
use Rattle.ev_book.specs.Standing.{Stands}
use Rattle.ev_peers.specs.declared.edge_outcome.EdgeOutcome.{EdgeOutcome}
use Rattle.ev_peers.specs.EdgeThreads.{EdgeSetup}

-- ---- seats

-- the seat of an edge with this configuration, which isn't open yet
pub record IsSeatOf (config : EdgeConfig) (seat : SeatState) : Type 0 where
  pub is_there : slice_get (world seat.log).configs seat.place ≡ Some config
  pub closed : (world seat.log).edges seat.place ≡ None

-- the seat is at this place, and the edge stands at the end of its entries
pub record StandsAt (place : ℕ) (seat : SeatState) (edge : Edge) : Type 0 where
  pub legal : IsHistory seat.log
  pub place_is : seat.place ≡ place
  pub stands : Stands place seat.log edge

-- the outcome of an edge, without its seat
abbrev pub outcome_in : Result (EdgeOutcome × SeatState) AllocError → Result EdgeOutcome AllocError
outcome_in (Ok r) = Ok r.0
outcome_in (Err refused) = Err refused

-- ---- the end of a run

-- the edges that ran have gone on from their last entries by events that no other edge can see; the first edge is at
-- this place
abbrev pub RanStand : List LogEntry → ℕ → List (Result EdgeOutcome AllocError) → Type 0
RanStand log place [] = Unit {0}
RanStand log place (Ok outcome ∷ rans) = Stands place log outcome.edge × RanStand log (place + 1) rans
RanStand log place (Err refused ∷ rans) = RanStand log (place + 1) rans

-- the configurations of these edges
abbrev pub configs_of : {O : Type 0} → List (EdgeSetup O) → List EdgeConfig
configs_of setups = map (λ setup. setup.config) setups

-- There is one history of all these edges, which leads to these results. Each update that an edge took was announced
-- before; if updates of other processes come in, it may be one of these.
pub record IsHistoryOf (outside : Bool) (configs : List EdgeConfig)
    (rans : List (Result EdgeOutcome AllocError)) : Type 0
  where
    pub entries : List LogEntry
    pub legal : IsHistory (Begins outside configs ∷ entries)
    pub stand : RanStand (Begins outside configs ∷ entries) 0 rans
