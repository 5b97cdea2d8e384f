-- The updates that edges of this process send on a connection: each edge's own registers, and then each update as it is
-- announced. Between these they send back the registers of each originator that the other side names.
use Rattle.std.specs.Prelude.{◌≡◌, ◌⊎◌, ℕ, ◌+◌, Bool, true, false, List, [], ◌∷◌, ◌++◌, length, Option, Some, None}
use Rattle.std.specs.Prelude.{Contains}
use Rattle.std.specs.List.{flat_map}
use Rattle.route_wire.specs.Fields.{Fields}
use Rattle.ev_exchange.specs.declared.announcing.Due.{Due}
use Rattle.ev_exchange.specs.declared.announcing.Due.TheVariants.{Update, Back}
use Rattle.ev_exchange.specs.declared.announcing.EdgeTable.{EdgeTable}
use Rattle.ev_links.specs.Coming.{behind}
use Rattle.ev_exchange.specs.Sending.{Sending, HasSaid, own_of}

-- a result of a call of the edges: the table of the edge with this number, if there is one; or the next item, if any
pub data Told : Type 0 where
  has_table : ℕ → Option EdgeTable → Told
  has_due : Option Due → Told

-- the next item, if it has come
abbrev pub IsReady : Option (List Told) → Option (List Told) → Option Due → Type 0
IsReady before after None = after ≡ before
IsReady before after (Some due) = after ≡ behind before (has_due (Some due) ∷ [])

-- ---- tables

-- the tables of edges, the first of which has this number
abbrev pub tables_from : ℕ → List EdgeTable → List Told
tables_from number [] = []
tables_from number (t ∷ ts) = has_table number (Some t) ∷ tables_from (number + 1) ts

-- the originator whose registers are sent from a table: the named one, or the table's edge
abbrev pub whose : Option ℕ → EdgeTable → ℕ
whose None t = t.address
whose (Some o) t = o

-- the updates that are sent from these tables
abbrev pub said_of : Option ℕ → List EdgeTable → List Fields
said_of named ts = flat_map (λ (t : EdgeTable). own_of (whose named t) t.updates.items) ts

-- The tables that edges returned, from the first edge on, were sent: those of all `edges` edges; or the next edge
-- returned none; or a call of the writer has failed. Of each table these were the registers of the named originator, or
-- the edge's own if none is named.
pub record SaysTables (edges : ℕ) (named : Option ℕ) (before after : Option (List Told)) (s s' : Sending)
    (is_whole : Bool) : Type 0 where
  pub tables : List EdgeTable
  pub last : List Told
  pub told : after ≡ behind before (tables_from 1 tables ++ last)
  pub said : HasSaid s s' (said_of named tables)
  pub whole : is_whole ≡ true → (last ≡ []) × (length tables ≡ edges)
  pub broken : is_whole ≡ false → (last ≡ has_table (length tables + 1) None ∷ [])
      ⊎ ((last ≡ []) × (s'.is_open ≡ false))

-- ---- the items since

-- an item that was sent: an announced update, or the registers that these tables have of a named originator
pub data Step : Type 0 where
  announces : Fields → Step
  says_back : ℕ → List EdgeTable → Step

-- the results of the calls of the edges for an item
abbrev pub told_at : Step → List Told
told_at (announces u) = has_due (Some (Update u)) ∷ []
told_at (says_back o ts) = has_due (Some (Back o)) ∷ tables_from 1 ts

-- the updates that were sent for an item
abbrev pub said_at : Step → List Fields
said_at (announces u) = u ∷ []
said_at (says_back o ts) = said_of (Some o) ts

abbrev pub told_by : List Step → List Told
told_by steps = flat_map told_at steps

abbrev pub sent_by : List Step → List Fields
sent_by steps = flat_map said_at steps

-- each originator that was named was sent back from the tables of all edges
abbrev pub AreWhole : ℕ → List Step → Type 0
AreWhole edges steps = (o : ℕ) (ts : List EdgeTable) → Contains steps (says_back o ts) → length ts ≡ edges

-- an originator was named, and its registers in the edges' tables broke off
pub record BreaksOff (edges : ℕ) (before after : Option (List Told)) (s s' : Sending) : Type 0 where
  pub originator : ℕ
  pub named : Option (List Told)
  pub told : named ≡ behind before (has_due (Some (Back originator)) ∷ [])
  pub tables : SaysTables edges (Some originator) named after s s' false

-- no more items came; or a call of the writer has failed; or the tables for a named originator broke off
abbrev pub Ends : ℕ → Option (List Told) → Option (List Told) → Sending → Sending → Type 0
Ends edges before after s s' =
    ((after ≡ behind before (has_due None ∷ [])) × (s' ≡ s))
    ⊎ (((after ≡ before) × (s' ≡ s) × (s'.is_open ≡ false)) ⊎ BreaksOff edges before after s s')

-- Items that came were sent, in their order, and then it ended.
pub record PassesOn (edges : ℕ) (before after : Option (List Told)) (s s' : Sending) : Type 0 where
  pub steps : List Step
  pub mid : Sending
  pub said : HasSaid s mid (sent_by steps)
  pub whole : AreWhole edges steps
  pub ended : Ends edges (behind before (told_by steps)) after mid s'

-- ---- all of it

-- The own registers of `edges` edges were sent, then the items since; or the tables broke off, and nothing followed.
pub record Announces (edges : ℕ) (before after : Option (List Told)) (s s' : Sending) : Type 0 where
  pub middle : Option (List Told)
  pub mid : Sending
  pub is_whole : Bool
  pub tables : SaysTables edges None before middle s mid is_whole
  pub since : is_whole ≡ true → PassesOn edges middle after mid s'
  pub broken_off : is_whole ≡ false → (after ≡ middle) × (s' ≡ mid)
