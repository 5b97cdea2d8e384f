-- Two processes that are joined, of any number of edges each: what both know of each other's edges.
use Rattle.std.specs.Prelude.{◌≡◌, ◌≢◌, ℕ, Some, List, ◌++◌, Contains}
use Rattle.route_wire.specs.declared.update.Register.{Register}
use Rattle.route_wire.specs.declared.update.Value.{Value}
use Rattle.route_wire.specs.declared.update.Content.TheVariants.{Withdrawn}
use Rattle.route_wire.specs.Fields.{Fields}
use Rattle.route_join.specs.Table.{Table, value_at, IsTableOf}
use Rattle.route_join.specs.Updates.{all_updates}
use Rattle.ev_exchange.specs.declared.announcing.EdgeTable.{EdgeTable}
use Rattle.ev_exchange.specs.SendLoop.{Step, says_back}
use Rattle.ev_exchange.specs.Laws.{announced_by, stream_of, SaidBack}

-- A process while it is joined: its edges by their addresses, each with its table when the connection began, and the
-- items since. By an edge's address: the updates that it had taken when the connection began, those that it took until
-- its registers were sent back, its table then, and its table at the end.
pub record Process : Type 0 where
  pub edges : List (ℕ × Table)
  pub steps : List Step
  pub took : ℕ → List Fields
  pub more : ℕ → List Fields
  pub held : ℕ → Table
  pub after : ℕ → Table

-- an edge of the process has this address
abbrev pub IsEdge : Process → ℕ → Type 0
IsEdge p o = (t : Table) × Contains p.edges (o, t)

-- the updates that each edge of p takes: those that p's edges announce, and the stream of q
abbrev pub news : Process → Process → List Fields
news p q = announced_by p.steps ++ stream_of q.edges q.steps

-- The tables of p's edges, while p is joined to q: each edge takes all news. No two edges have the same address.
pub record Takes (p q : Process) : Type 0 where
  pub began : (o : ℕ) (t : Table) → Contains p.edges (o, t) → IsTableOf (p.took o) t
  pub then_held : (o : ℕ) → IsEdge p o → IsTableOf (p.took o ++ p.more o) (p.held o)
  pub of_news : (o : ℕ) (u : Fields) → IsEdge p o → Contains (p.more o) u → Contains (news p q) u
  pub ended : (o : ℕ) → IsEdge p o → IsTableOf (p.took o ++ news p q) (p.after o)
  pub one : (o : ℕ) (s t : Table) → Contains p.edges (o, s) → Contains p.edges (o, t) → s ≡ t
  pub apart : (o : ℕ) → IsEdge p o → IsEdge q o → ⊥

-- The items of p: its edges announce their own registers. For each edge of q, and for no other originator, each table
-- of p's edges is sent back. These tables have the same registers of q's edges.
pub record Sends (p q : Process) : Type 0 where
  pub own : (u : Fields) → Contains (announced_by p.steps) u → IsEdge p u.register.originator
  pub back : (o m : ℕ) → IsEdge q o → IsEdge p m → SaidBack o (p.held m) p.steps
  pub named : (o : ℕ) (ts : List EdgeTable) → Contains p.steps (says_back o ts) → IsEdge q o
  pub tables : (o : ℕ) (ts : List EdgeTable) (t : EdgeTable) → Contains p.steps (says_back o ts) → Contains ts t
      → (m : ℕ) × IsEdge p m × (t.updates.items ≡ all_updates (p.held m))
  pub same : (m n : ℕ) (r : Register) → IsEdge p m → IsEdge p n → IsEdge q r.originator
      → value_at (p.held m) r ≡ value_at (p.held n) r

pub record Joins (p q : Process) : Type 0 where
  pub takes : Takes p q
  pub sends : Sends p q

-- Two processes are joined. Whatever their edges had taken before, updates of earlier lives included, at the end each
-- table of one process has, at each register of each edge of the other one, the value of that edge's own table.
abbrev pub ProcessesAgree : Type 0
ProcessesAgree =
    (p q : Process) → Joins p q → Joins q p → (o m : ℕ) → IsEdge p o → IsEdge q m → (r : Register)
    → r.originator ≡ o → value_at (q.after m) r ≡ value_at (p.after o) r

-- each own register of the edge that advertises is of this incarnation
abbrev pub IsOfLife : ℕ → ℕ → Table → Type 0
IsOfLife o life t =
    (r : Register) (v : Value) → r.originator ≡ o → value_at t r ≡ Some v → v.content ≢ Withdrawn
    → v.incarnation ≡ life

-- If an edge's own table advertises only in its present life, so does each table of the other process: no advert of an
-- earlier life of the edge is left there.
abbrev pub EarlierLivesEnd : Type 0
EarlierLivesEnd =
    (p q : Process) → Joins p q → Joins q p → (o m life : ℕ) → IsEdge p o → IsEdge q m
    → IsOfLife o life (p.after o) → IsOfLife o life (q.after m)
