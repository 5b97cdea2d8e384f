-- The laws of processes whose streams are joined: their tables of each other's edges equal the edges' own tables.
use Rattle.std.specs.Prelude.{◌≡◌, ◌⊎◌, ℕ, Some, List, [], ◌∷◌, ◌++◌, Contains}
use Rattle.route_wire.specs.declared.update.Register.{Register}
use Rattle.route_wire.specs.declared.update.Value.{Value}
use Rattle.route_wire.specs.Fields.{Fields}
use Rattle.route_join.specs.Table.{Table, value_at, IsTableOf}
use Rattle.route_join.specs.Joins.{newer_of}
use Rattle.route_join.specs.Report.{report_of}
use Rattle.route_join.specs.Updates.{all_updates}
use Rattle.ev_exchange.specs.declared.announcing.EdgeTable.{EdgeTable}
use Rattle.ev_exchange.specs.Sending.{own_updates, AreOwn}
use Rattle.ev_exchange.specs.SendLoop.{Step, announces, says_back, sent_by}

-- the updates that an edge sends from its table are its own registers, all of them
abbrev pub OwnUpdatesAre : Type 0
OwnUpdatesAre = (t : Table) (o : ℕ) → AreOwn t o (own_updates t o)

-- ---- the updates that a stream carries

-- the updates that these edges send, each from its own table
abbrev pub said_by : List (ℕ × Table) → List Fields
said_by [] = []
said_by (e ∷ edges) = own_updates e.1 e.0 ++ said_by edges

-- `written` has exactly these updates of o: those sent from its table at the start, and those announced since.
pub record Carries (o : ℕ) (start : Table) (since written : List Fields) : Type 0 where
  pub said : (u : Fields) → Contains (own_updates start o) u → Contains written u
  pub announced : (u : Fields) → Contains since u → u.register.originator ≡ o → Contains written u
  pub none_else : (u : Fields) → Contains written u → u.register.originator ≡ o
      → Contains (own_updates start o) u ⊎ Contains since u

-- the updates that edges send from their tables, followed by those that they announce since, carry each edge's updates
abbrev pub SaidIsCarried : Type 0
SaidIsCarried =
    (edges : List (ℕ × Table)) (since : List Fields) (o : ℕ) (start : Table) → Contains edges (o, start)
    → ((t : Table) → Contains edges (o, t) → t ≡ start) → Carries o start since (said_by edges ++ since)

-- ---- the effect on the other process's table

-- The table of an edge o took `us`, and then `since`. A table that takes `written` has at each register of o the newer
-- of its own earlier value and the value in o's table.
abbrev pub NewestArrives : Type 0
NewestArrives =
    (o : ℕ) (us since written ws : List Fields) (start now before after : Table) → IsTableOf us start
    → IsTableOf (us ++ since) now → Carries o start since written → IsTableOf ws before
    → IsTableOf (ws ++ written) after → (r : Register) → r.originator ≡ o
    → value_at after r ≡ newer_of (value_at before r) (value_at now r)

-- All of `written` was taken. Each update of o that was taken is one that o's own table took: o announced it.
pub record IsDelivered (o : ℕ) (own written taken : List Fields) : Type 0 where
  pub all : (u : Fields) → Contains written u → Contains taken u
  pub announced : (u : Fields) → Contains taken u → u.register.originator ≡ o → Contains own u

-- once all is delivered, a table has the value of o's own table at each register of o
abbrev pub OwnRegistersAgree : Type 0
OwnRegistersAgree =
    (o : ℕ) (us since written taken : List Fields) (start now after : Table) → IsTableOf us start
    → IsTableOf (us ++ since) now → Carries o start since written → IsDelivered o (us ++ since) written taken
    → IsTableOf taken after → (r : Register) → r.originator ≡ o → value_at after r ≡ value_at now r

-- An edge o: the updates that its table took by the start and since, the table then and now, and the written updates.
pub record Side (o : ℕ) (us since written : List Fields) (start now : Table) : Type 0 where
  pub began : IsTableOf us start
  pub went_on : IsTableOf (us ++ since) now
  pub carried : Carries o start since written

-- each register that has a value is of one of these two edges
abbrev pub AreOf : ℕ → ℕ → Table → Type 0
AreOf o p t = (r : Register) (v : Value) → value_at t r ≡ Some v → (r.originator ≡ o) ⊎ (r.originator ≡ p)

-- Each of two edges took the updates that the other's process wrote, and their tables have only registers of these two.
-- Once all is delivered both ways, the tables have the same registers, and one report.
abbrev pub BothAgree : Type 0
BothAgree =
    (o p : ℕ) (us since written vs later back : List Fields) (a a' b b' : Table) → Side o us since written a a'
    → Side p vs later back b b' → IsDelivered o (us ++ since) written (vs ++ later)
    → IsDelivered p (vs ++ later) back (us ++ since) → AreOf o p a' → AreOf o p b'
    → (a'.registers ≡ b'.registers) × (report_of a' ≡ report_of b')

-- ---- two processes that meet again

-- o's own table took each update of o that the other table had: these were sent back to o
abbrev pub TookBack : ℕ → Table → List Fields → Type 0
TookBack o held own = (u : Fields) → Contains (own_updates held o) u → Contains own u

-- A table had taken any updates, including those of earlier lives of o. It takes the records that o's process writes,
-- and o takes the updates that the table's process sends back. Then the table has at each register of o the value of
-- o's own table, and no other advert of o.
abbrev pub MeetingAgrees : Type 0
MeetingAgrees =
    (o : ℕ) (us since written ws : List Fields) (start now before after : Table) → IsTableOf us start
    → IsTableOf (us ++ since) now → Carries o start since written → IsTableOf ws before
    → IsTableOf (ws ++ written) after → TookBack o before (us ++ since)
    → (r : Register) → r.originator ≡ o → value_at after r ≡ value_at now r

-- ---- the streams of two processes that are joined

-- the updates among these items that edges announced
abbrev pub announced_by : List Step → List Fields
announced_by [] = []
announced_by (announces u ∷ steps) = u ∷ announced_by steps
announced_by (says_back o ts ∷ steps) = announced_by steps

-- the other side named other originators only
abbrev pub IsUnnamed : ℕ → List Step → Type 0
IsUnnamed o steps = (ts : List EdgeTable) → Contains steps (says_back o ts) → ⊥

-- A process has an edge o whose table at the start is `start`, and no second edge of this address. The other side
-- never names o.
pub record HasEdge (o : ℕ) (start : Table) (edges : List (ℕ × Table)) (steps : List Step) : Type 0 where
  pub there : Contains edges (o, start)
  pub one : (t : Table) → Contains edges (o, t) → t ≡ start
  pub unnamed : IsUnnamed o steps

-- a process's stream: the own registers of its edges, followed by the items since
abbrev pub stream_of : List (ℕ × Table) → List Step → List Fields
stream_of edges steps = said_by edges ++ sent_by steps

-- the stream of a process carries the updates of each of its edges, whatever is sent back between them
abbrev pub StreamCarries : Type 0
StreamCarries =
    (edges : List (ℕ × Table)) (steps : List Step) (o : ℕ) (start : Table) → HasEdge o start edges steps
    → Carries o start (announced_by steps) (stream_of edges steps)

-- `back` are the items of the other process: o was named, and a table of that process was `held`.
pub record SaidBack (o : ℕ) (held : Table) (back : List Step) : Type 0 where
  pub tables : List EdgeTable
  pub table : EdgeTable
  pub named : Contains back (says_back o tables)
  pub one_of : Contains tables table
  pub is_held : table.updates.items ≡ all_updates held

-- `came` is what came to o's process from a process with these items, one of whose tables took `ws`: all that was sent
-- for the items, and of o's registers only updates that this table took.
pub record Came (o : ℕ) (ws : List Fields) (back : List Step) (came : List Fields) : Type 0 where
  pub all : (u : Fields) → Contains (sent_by back) u → Contains came u
  pub taken : (u : Fields) → Contains came u → u.register.originator ≡ o → Contains ws u

-- A table had taken any updates `ws`, including those of earlier lives of an edge o. Its process is joined to that of
-- o, and sends back what the table holds of o. Once each side has taken the stream of the other one, the table has at
-- each register of o the value of o's own table: it has an advert only where o's own table has it.
abbrev pub JoinedAgrees : Type 0
JoinedAgrees =
    (edges : List (ℕ × Table)) (steps back : List Step) (o : ℕ) (us came ws : List Fields)
    (start now before after : Table) → HasEdge o start edges steps → IsTableOf us start
    → IsTableOf (us ++ (announced_by steps ++ came)) now → IsTableOf ws before
    → IsTableOf (ws ++ stream_of edges steps) after → SaidBack o before back → Came o ws back came
    → (r : Register) → r.originator ≡ o → value_at after r ≡ value_at now r
