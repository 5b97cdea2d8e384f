-- The rule of the log, and the steps of its words.
use Rattle.std.specs.Prelude.{◌≡◌, ℕ, ◌<◌, ◌==◌, true, List, length, Contains, MatchBool}
use Rattle.logbook.specs.Pages.{Cell, cell, Step, View}
use Rattle.route_wire.specs.Fields.{Fields}
use Rattle.ev_book.specs.declared.log_entry.LogEntry.{LogEntry}
use Rattle.ev_book.specs.Log.{World, IsHistory, world, count}
use Rattle.ev_book.specs.Rule.{IsAdded}

-- a world that is later, in which the edge at this place has done nothing that others can see
pub record IsLater (place : ℕ) (w z : World) : Type 0 where
  pub outside : z.outside ≡ w.outside
  pub configs : z.configs ≡ w.configs
  pub edge : z.edges place ≡ w.edges place
  pub pool : (u : Fields) → Contains w.pool u → Contains z.pool u

-- the word of each edge holds the number of its entries, and the log is a history
pub record IsKept (cells : List Cell) (log : List LogEntry) : Type 0 where
  pub words : (n : ℕ) → n < length cells → cell cells n ≡ (count n log, true)
  pub seats : length cells ≡ length (world log).configs
  pub legal : IsHistory log

-- the entry was added, or the edge has more entries than were known; the seen log is a history
abbrev pub Adds : Step LogEntry → View LogEntry ℕ → ℕ → View LogEntry ℕ → Type 0
Adds s v found w = MatchBool (found == s.old) (IsAdded s.key s.old v.0 s.ask w.0) (IsHistory w.0)

-- the edge has this number of entries in the seen log
abbrev pub Looks : Step LogEntry → View LogEntry ℕ → ℕ → View LogEntry ℕ → Type 0
Looks s v found w = (count s.key w.0 ≡ found) × IsHistory w.0
