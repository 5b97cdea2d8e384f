-- A speaker: the own registers in its table, their numbers, and the pending ones.
use Rattle.std.specs.Prelude.{◌≡◌, ℕ, Some}
use Rattle.std.specs.Prelude.{List, Contains}
use Rattle.route_wire.specs.declared.update.Key.{Key}
use Rattle.route_wire.specs.declared.update.Register.{Register}
use Rattle.route_wire.specs.declared.update.Value.{Value}
use Rattle.route_join.specs.Table.{Table}
use Rattle.ev_claims.specs.Inner.Pending.{Pending}
use Rattle.ev_claims.specs.Speaker.{Speaker, own_register, own, IsPresent, KeepsNumbers}

-- each own register of this incarnation has a node of the pending list
abbrev pub HasRooms : Speaker → List Register → Type 0
HasRooms e known = (k : Key) (v : Value) → own e k ≡ Some v → IsPresent e v → Contains known (own_register e k)

abbrev pub speaker_of : ℕ → ℕ → Table → ℕ → Pending → Speaker
speaker_of address incarnation table counter p = record {
  address = address;
  incarnation = incarnation;
  table = table;
  counter = counter;
  pending = p.waiting;
}

pub record IsSpeaker (e : Speaker) (known : List Register) : Type 0 where
  pub numbers : KeepsNumbers e
  pub rooms : HasRooms e known
