-- Rounds of a station: pending updates are announced, the pool's are taken, and any other steps come in between.
use Rattle.std.specs.Prelude.{◌≡◌, ℕ, zero, suc, ◌+◌, ◌*◌, ◌≤◌, false, true, Some, Ok, List, ◌++◌, Contains, slice_get}
use Rattle.route_wire.specs.declared.update.Register.{Register}
use Rattle.route_wire.specs.declared.update.Value.{Value}
use Rattle.route_wire.specs.Fields.{Fields}
use Rattle.route_wire.specs.Order.{is_newer}
use Rattle.route_join.specs.Table.{value_at}
use Rattle.mac_arena.specs.declared.station.Station.{Station}
use Rattle.ev_edge.specs.declared.reply.Reply.{Reply}
use Rattle.ev_edge.specs.Edge.{Edge, table_of}
use Rattle.ev_fabric.specs.declared.step.Step.{Step}
use Rattle.ev_fabric.specs.declared.step.Step.TheVariants.{Deliver}
use Rattle.ev_fabric.specs.Fabric.{Fabric, IsEdge}
use Rattle.ev_fabric.specs.Steps.{FabricSteps}
use Rattle.ev_fabric.specs.Runs.{Runs}
use Rattle.ev_fabric.specs.Sound.{update_of, IsSound}
use Rattle.ev_fabric.specs.Station.{is_of, AgreesOn, to_come_on, RunsAlone, StationComes, RunsBeside}
use Rattle.ev_fabric.specs.Station.{NoneRestarts}

-- ---- a round

-- between the two an update of the register was announced
pub record WasAnnounced (old new : Fabric) (r : Register) : Type 0 where
  pub more : List Fields
  pub pool : new.pool ≡ old.pool ++ more
  pub value : Value
  pub there : Contains more (update_of r value)

-- each register of the station that was pending at an edge was announced
abbrev pub AllAnnounced : Station → Fabric → Fabric → Type 0
AllAnnounced s old new = (i : ℕ) (a : Edge) (r : Register) → IsEdge old i a → is_of s r ≡ true
    → Contains a.routes.speaker.pending r → WasAnnounced old new r

-- Each edge has each update of the station that was in the pool, or a newer one of its register: it took it, and
-- didn't restart later.
abbrev pub AllTaken : Station → Fabric → Fabric → Type 0
AllTaken s old new = (i : ℕ) (b : Edge) (u : Fields) → IsEdge new i b → is_of s u.register ≡ true
    → Contains old.pool u → (v : Value) × (value_at (table_of b) u.register ≡ Some v) × (is_newer u.value v ≡ false)

-- An edge that has taken an update, at its place i and the update's place k, has it or a newer one of its register from
-- then on, in any run in which no edge restarts.
abbrev pub TakenStays : Type 0
TakenStays = (i k : ℕ) (u : Fields) (reply : Reply) (steps : List Step) (old mid new : Fabric) → IsSound old
    → slice_get old.pool k ≡ Some u → FabricSteps old (Deliver (suc i) (suc k)) (Ok reply) mid → Runs mid steps new
    → NoneRestarts steps → (b : Edge) → IsEdge new i b
    → (v : Value) × (value_at (table_of b) u.register ≡ Some v) × (is_newer u.value v ≡ false)

-- each update that was pending at the beginning was announced, and each update of the pool at the beginning was taken
pub record IsRound (s : Station) (old new : Fabric) : Type 0 where
  pub announced : AllAnnounced s old new
  pub taken : AllTaken s old new

-- n rounds, each by a list of steps of this kind
abbrev pub Rounds : (Fabric → List Step → Fabric → Type 0) → Station → ℕ → Fabric → Fabric → Type 0
Rounds Goes s zero old new = new ≡ old
Rounds Goes s (suc n) old new = (mid : Fabric) × (steps : List Step) × Goes old steps mid × IsRound s old mid
    × Rounds Goes s n mid new

-- ---- from anywhere

-- In any traffic that doesn't disturb the station, two rounds for each update of it that may still be announced, and
-- one more, lead to agreement on it.
abbrev pub StationAgrees : Type 0
StationAgrees = (s : Station) (n : ℕ) (old new : Fabric) → IsSound old → Rounds (RunsAlone s) s n old new
    → 2 * to_come_on s old + 1 ≤ n → AgreesOn new s

-- edges that agree on it agree after each further round, even if edges restarted meanwhile that never advertised it
abbrev pub StationAgreesStill : Type 0
StationAgreesStill = (s : Station) (n : ℕ) (old new : Fabric) → IsSound old → AgreesOn old s
    → Rounds (RunsAlone s) s n old new → AgreesOn new s

-- ---- after a move

-- four rounds after a move the edges agree on the station again
abbrev pub AgreesInFour : Type 0
AgreesInFour = (i j : ℕ) (s : Station) (old mid new : Fabric) → IsSound old → StationComes old i j s mid
    → Rounds (RunsBeside i j s) s 4 mid new → AgreesOn new s

-- A round in which the announcements come first: at some moment all that was pending at the beginning was announced,
-- and all that the pool had at that moment was taken by the end.
pub record IsOrderly (i j : ℕ) (s : Station) (old new : Fabric) : Type 0 where
  pub told : Fabric
  pub before : List Step
  pub goes : RunsBeside i j s old before told
  pub announced : AllAnnounced s old told
  pub after : List Step
  pub goes_on : RunsBeside i j s told after new
  pub taken : AllTaken s told new

-- two such rounds suffice
abbrev pub AgreesInTwo : Type 0
AgreesInTwo = (i j : ℕ) (s : Station) (old mid next new : Fabric) → IsSound old → StationComes old i j s mid
    → IsOrderly i j s mid next → IsOrderly i j s next new → AgreesOn new s
