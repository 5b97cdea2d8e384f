-- The edges beside their history.
use Rattle.std.specs.Prelude.{◌≡◌, ℕ, ◌+◌, Some, List, [], ◌∷◌}
use Rattle.ev_edge.specs.Edge.{Edge}
use Rattle.ev_book.specs.declared.log_entry.LogEntry.{LogEntry}
use Rattle.ev_book.specs.Log.{Reaches, world}

-- the edge at this place has gone on from its last entry by events that no other edge can see
pub record Stands (place : ℕ) (log : List LogEntry) (edge : Edge) : Type 0 where
  pub before : Edge
  pub is_open : (world log).edges place ≡ Some before
  pub reaches : Reaches before edge

-- these are the edges at this place and the ones after it
abbrev pub AllStand : List LogEntry → ℕ → List Edge → Type 0
AllStand log place [] = Unit {0}
AllStand log place (edge ∷ edges) = Stands place log edge × AllStand log (place + 1) edges
