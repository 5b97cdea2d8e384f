-- The records that are sent on a connection: those of the edges' tables when it began, and that of each update since.
use Rattle.std.specs.Prelude.{◌≡◌, ℕ, ◌+◌, ◌==◌, Bool, true, false, List, ◌++◌, Contains, Some}
use Rattle.std.specs.List.{filter}
use Rattle.ether_wire.specs.Ends.{End, IsOpen, with_text}
use Rattle.route_wire.specs.declared.update.Register.{Register}
use Rattle.route_wire.specs.declared.update.Value.{Value}
use Rattle.route_wire.specs.Fields.{Fields}
use Rattle.route_wire.specs.Record.{Reads}
use Rattle.route_join.specs.Table.{Table, value_at, IsOrdered}
use Rattle.route_join.specs.Updates.{all_updates}
use Rattle.route_wire.specs.Records.{records_of, all_ok}

-- the writer's end, whether no call of it has failed, and the octets that it holds back
pub record Sending : Type 0 where
  pub end : End
  pub is_open : Bool
  pub held : List ℕ

-- ---- the updates that an edge sends
abbrev pub is_own : ℕ → Fields → Bool
is_own o u = u.register.originator == o

-- those of the updates that are of o's own registers
abbrev pub own_of : ℕ → List Fields → List Fields
own_of o us = filter (is_own o) us

-- each of o's own registers in a table, with its value, in the order of a report
abbrev pub own_updates : Table → ℕ → List Fields
own_updates t o = own_of o (all_updates t)

-- Each of the updates is the value of a register of o. Each register of o that has a value is among them. They are in
-- the order of a report, at most one per register.
pub record AreOwn (t : Table) (o : ℕ) (us : List Fields) : Type 0 where
  pub named : (u : Fields) → Contains us u → u.register.originator ≡ o
  pub own : (u : Fields) → Contains us u → value_at t u.register ≡ Some u.value
  pub all : (r : Register) (v : Value) → r.originator ≡ o → value_at t r ≡ Some v
      → Contains us (record { register = r; value = v })
  pub ordered : IsOrdered us

-- ---- the records that are written

-- The writer holds its text at the start, followed by the records of these updates, or exactly one call of it failed.
-- Whatever follows the records, they are read as the updates.
pub record HasSent (s : Sending) (start : End) (sent : List Fields) : Type 0 where
  pub written : s.is_open ≡ true → s.end ≡ with_text start (records_of sent)
  pub failed : s.is_open ≡ false → IsOpen start → s.end.failures ≡ start.failures + 1
  pub again : (rest : List ℕ) → Reads (records_of sent ++ rest) (all_ok sent) rest

-- these updates were sent after all that was sent before
abbrev pub HasSaid : Sending → Sending → List Fields → Type 0
HasSaid s s' us = (start : End) (sent : List Fields) → HasSent s start sent → HasSent s' start (sent ++ us)
