-- The seats of edges, and the entries that they add.
use Rattle.std.specs.Prelude.{◌≡◌, ℕ, ◌<◌, true, List, [], ◌∷◌, ◌++◌, length}
use mathlib.Core.List.{IsPrefix}
use Rattle.logbook.specs.Pages.{Book, Named}
use Rattle.ev_book.specs.declared.log_entry.LogEntry.{LogEntry}
use Rattle.ev_book.specs.Log.{World, world_of, IsHistory, world, count}

-- the word of the edge at this place
abbrev pub word_of : Book → ℕ → Named
word_of b n = record { tracked = true; key = n; book = b }

-- the edges of one world, and the updates that are known in another
abbrev pub told : World → World → World
told w z = world_of z.outside w.configs w.edges z.pool

-- the place of an edge, and the beginning of the log that ends with its last entry
pub record SeatState : Type 0 where
  pub place : ℕ
  pub log : List LogEntry

-- the edge has this number of entries, and the word is its own
pub record IsSeat (book : Book) (place entries : ℕ) (word : Named) (log : List LogEntry) : Type 0 where
  pub counted : entries ≡ count place log
  pub legal : IsHistory log
  pub word_is : word ≡ word_of book place
  pub seated : place < length (world log).configs

-- the entry was added at the end of the log, in which this edge had as many entries as before
pub record IsAdded (place before : ℕ) (old : List LogEntry) (entry : LogEntry) (new : List LogEntry) : Type 0 where
  pub log : List LogEntry
  pub was : IsHistory log
  pub begins : IsPrefix old log
  pub had : count place log ≡ before
  pub new_is : new ≡ log ++ entry ∷ []
  pub legal : IsHistory new
