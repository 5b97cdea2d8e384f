-- Groups: the updates of one subject, with the place of the best advert among them.
use Rattle.std.specs.Prelude.{◌≡◌, ◌≢◌, ℕ, ◌+◌, ◌<◌, ◌^◌, Bool, true, false, not, Option, Some, None, is_some, List}
use Rattle.std.specs.Prelude.{nat_le, if◌then◌else◌, Result, IfOk, OnOk, OnErr}
use Rattle.std.specs.declared.alloc.AllocError.{AllocError}
use Rattle.std.specs.declared.cmp.Ordering.{Ordering}
use Rattle.std.specs.declared.cmp.Ordering.TheVariants.{Equal}
use Rattle.std.specs.List.{slice_get}
use Rattle.std.specs.Option.{option_map}
use Rattle.std.specs.FinMap.Entries.{find, put}
use Rattle.route_wire.specs.declared.update.Register.{Register}
use Rattle.route_wire.specs.declared.update.Advert.{Advert}
use Rattle.route_wire.specs.declared.update.Value.{Value}
use Rattle.route_wire.specs.Fields.{Fields}
use Rattle.route_wire.specs.Order.{register_cmp}
use Rattle.route_join.specs.declared.table.Taken.{Taken}
use Rattle.route_join.specs.declared.table.Taken.TheVariants.{Newer, Known}
use Rattle.route_join.specs.Table.{entries_of, IsOrdered, is_news}
use Rattle.route_join.specs.Owner.{advert_in, advert_of, IsBetter, is_better, is_better_by}

-- the advert of the register
abbrev pub told : List Fields → Register → Option Advert
told us q = advert_of (find register_cmp q (entries_of us))

-- the entries with the update's value, if the update is news
abbrev pub entries_with : List (Register × Value) → Fields → List (Register × Value)
entries_with es u = if is_news (find register_cmp u.register es) u.value then put register_cmp u.register u.value
    es else es

-- the number of registers that the update adds to the entries
abbrev pub added : List (Register × Value) → Fields → ℕ
added es u = if is_some (find register_cmp u.register es) then 0 else 1

-- the result if entries take an update
abbrev pub taken_in : List (Register × Value) → Fields → Taken
taken_in es u = if is_news (find register_cmp u.register es) u.value then Newer else Known

-- The entries `es` take an update and become `new`; the number of held registers becomes `more`. Memory may be refused
-- if the update's register is a new one.
pub record Takes (es : List (Register × Value)) (u : Fields) (held : ℕ) (r : Result Taken AllocError)
    (new : List (Register × Value)) (more : ℕ) : Type 0 where
  pub taken : IfOk r (λ taken. taken ≡ taken_in es u)
  pub entries : OnOk r (new ≡ entries_with es u)
  pub counted : OnOk r (more ≡ held + added es u)
  pub few : held < 2 ^ 64 → more < 2 ^ 64
  pub absent : OnErr r (find register_cmp u.register es ≡ None)
  pub uncounted : OnErr r (more ≡ held)

-- the register's update, if there is one
abbrev pub update_among : List Fields → Register → Option Fields
update_among us r = option_map (λ (v : Value). record { register = r; value = v }) (find register_cmp r (entries_of us))

-- The update at place i advertises, and its advert is better than each other advert of `says`.
pub record Leads (us : List Fields) (says : Register → Option Advert) (i : ℕ) : Type 0 where
  pub update : Fields
  pub stands : slice_get us i ≡ Some update
  pub advert : Advert
  pub advertises : advert_in update.value.content ≡ Some advert
  pub own : says update.register ≡ Some advert
  pub best : (q : Register) (b : Advert) → q ≢ update.register → says q ≡ Some b → IsBetter advert update.register b q

-- the winner's place, `None` if nothing is advertised
abbrev pub HasWinner : List Fields → (Register → Option Advert) → Option ℕ → Type 0
HasWinner us says None = (q : Register) → says q ≡ None
HasWinner us says (Some i) = Leads us says i

-- the invariant of a group: its updates are in the order of their registers, and the winner is the best of them
pub record IsGroup (us : List Fields) (place : Option ℕ) : Type 0 where
  pub ordered : IsOrdered us
  pub winner : HasWinner us (told us) place

-- o has the best advert among the updates
pub record IsLeader (us : List Fields) (o : ℕ) : Type 0 where
  pub register : Register
  pub advert : Advert
  pub named : register.originator ≡ o
  pub own : told us register ≡ Some advert
  pub best : (q : Register) (b : Advert) → q ≢ register → told us q ≡ Some b → IsBetter advert register b q

-- nothing is advertised
abbrev pub IsSilent : List Fields → Type 0
IsSilent us = (q : Register) → told us q ≡ None

-- the advert of an update, with its register
abbrev pub candidate_in : Option Fields → Option (Register × Advert)
candidate_in None = None
candidate_in (Some u) = option_map (λ (a : Advert). (u.register, a)) (advert_in u.value.content)

abbrev pub candidate_at : List Fields → ℕ → Option (Register × Advert)
candidate_at us i = candidate_in (slice_get us i)

abbrev pub leader_of : List Fields → Option ℕ → Option (Register × Advert)
leader_of us None = None
leader_of us (Some i) = candidate_at us i

-- the first one wins against the second one, if any
abbrev pub wins : Option (Register × Advert) → Option (Register × Advert) → Bool
wins None d = false
wins (Some c) None = true
wins (Some c) (Some d) = is_better c.1 c.0 d.1 d.0

-- the winner, once the update at a place may win too
abbrev pub better_place : List Fields → ℕ → Option ℕ → Option ℕ
better_place us at winner = if wins (candidate_at us at) (leader_of us winner) then Some at else winner

abbrev pub said_in : Option Fields → Option Advert
said_in None = None
said_in (Some u) = advert_in u.value.content

abbrev pub said_at : List Fields → ℕ → Option Advert
said_at us i = said_in (slice_get us i)

-- the first advert wins against the second one, if any; o is the order of their registers
abbrev pub wins_by : Option Advert → Option Advert → Ordering → Bool
wins_by None d o = false
wins_by (Some c) None o = true
wins_by (Some c) (Some d) o = is_better_by c.is_static d.is_static c.sequence d.sequence o

-- for a register with a new content: it advertises, as before, and the advert is no worse
abbrev pub stays_best : Option Advert → Option Advert → Bool
stays_best None now = false
stays_best (Some was) None = false
stays_best (Some was) (Some now) = not (is_better_by was.is_static now.is_static was.sequence now.sequence Equal)

-- the place of a winner after an insertion
abbrev pub moved : ℕ → Option ℕ → Option ℕ
moved at None = None
moved at (Some i) = Some (if nat_le at i then i + 1 else i)
