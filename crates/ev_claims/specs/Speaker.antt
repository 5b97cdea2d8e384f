-- A speaker: the own registers in its table, their numbers, and the pending ones.
use Rattle.std.specs.Prelude.{◌≡◌, ℕ, ◌+◌, ◌^◌, ◌≤◌, ◌==◌, ◌&&◌, Bool, true, false, not, nat_le, nat_lt, Option, Some}
use Rattle.std.specs.Prelude.{None, IsSome, is_some, List, [], ◌∷◌, Contains, drop, if◌then◌else◌}
use Rattle.std.specs.FinMap.{empty}
use Rattle.route_wire.specs.declared.update.Key.{Key}
use Rattle.route_wire.specs.declared.update.Key.TheVariants.{Mac}
use Rattle.route_wire.specs.declared.update.Register.{Register}
use Rattle.route_wire.specs.declared.update.Advert.{Advert}
use Rattle.route_wire.specs.declared.update.Content.{Content}
use Rattle.route_wire.specs.declared.update.Content.TheVariants.{Withdrawn}
use Rattle.route_wire.specs.declared.update.Value.{Value}
use Rattle.route_wire.specs.Fields.{Fields}
use Rattle.route_join.specs.Table.{Table, value_at, update_at, register_of, is_listed, is_news, with_value, with_update}
use Rattle.route_join.specs.Owner.{advert_in, advert_at, owner}
use Rattle.ev_claims.specs.Pending.{marked}

-- The incarnation of the edge, and how many numbers it has given in it; its registers are in the table among those of
-- others. The pending registers are those that are still to be announced, the first one first.
pub record Speaker : Type 0 where
  pub address : ℕ
  pub incarnation : ℕ
  pub table : Table
  pub counter : ℕ
  pub pending : List Register

abbrev pub own_register : Speaker → Key → Register
own_register e k = register_of e.address k

abbrev pub own : Speaker → Key → Option Value
own e k = value_at e.table (own_register e k)

abbrev pub own_advert : Speaker → Key → Option Advert
own_advert e k = advert_at e.table e.address k

-- said in this incarnation
abbrev pub IsPresent : Speaker → Value → Type 0
IsPresent e v = v.incarnation ≡ e.incarnation

-- an update of the key was made in this incarnation, and its value is still its register's
abbrev pub originated_in : ℕ → Option Value → Bool
originated_in incarnation None = false
originated_in incarnation (Some v) = v.incarnation == incarnation

abbrev pub is_originated : Speaker → Key → Bool
is_originated e k = originated_in e.incarnation (own e k)

-- The own registers of this incarnation have different numbers up to the counter; none is of a later incarnation, and
-- one that advertises is of this one. The edge lists itself. Each pending register is an own register of this
-- incarnation.
pub record KeepsNumbers (e : Speaker) : Type 0 where
  pub counted : (k : Key) (v : Value) → own e k ≡ Some v → IsPresent e v → v.counter ≤ e.counter
  pub distinct : (k j : Key) (v w : Value) → own e k ≡ Some v → own e j ≡ Some w → IsPresent e v → IsPresent e w
      → v.counter ≡ w.counter → k ≡ j
  pub past : (k : Key) (v : Value) → own e k ≡ Some v → v.incarnation ≤ e.incarnation
  pub alive : (k : Key) (v : Value) → own e k ≡ Some v → IsSome (advert_in v.content) → IsPresent e v
  pub known : is_listed e.table e.address ≡ true
  pub pending : (r : Register) → Contains e.pending r → (v : Value) × (value_at e.table r ≡ Some v) × IsPresent e v
      × (r.originator ≡ e.address)

abbrev pub is_at : Option ℕ → ℕ → Bool
is_at None o = false
is_at (Some p) o = p == o

-- it advertises the address, and isn't its owner
abbrev pub is_beaten : Speaker → ℕ → ℕ → Bool
is_beaten e v m = is_some (own_advert e (Mac v m None)) && not (is_at (owner e.table v m) e.address)

-- ---- saying

-- the value of the next own update
abbrev pub next_value : Speaker → Content → Value
next_value e c = record { incarnation = e.incarnation; counter = e.counter + 1; content = c }

-- the own register of the key says this, under the next number; it is pending, and keeps its place if it was already
abbrev pub after_originating : Speaker → Key → Content → Speaker
after_originating e k c = record e {
  table = with_value e.table (own_register e k) (next_value e c);
  counter = e.counter + 1;
  pending = marked e.pending (own_register e k);
}

-- no update has been made in this incarnation
abbrev pub silent : ℕ → ℕ → List ℕ → Speaker
silent address incarnation originators = record {
  address = address;
  incarnation = incarnation;
  table = record { originators = originators; registers = empty };
  counter = 0;
  pending = [];
}

-- ---- hearing

abbrev pub after_importing : Speaker → Fields → Speaker
after_importing e u = record e { table = with_update e.table u }

-- the update would become its register's value
abbrev pub is_newest : Speaker → Fields → Bool
is_newest e u = is_news (value_at e.table u.register) u.value

-- an own update that would become its register's value, and isn't of an earlier incarnation: the edge's name was taken
-- by another
abbrev pub is_ahead : Speaker → Fields → Bool
is_ahead e u = is_newest e u && nat_le e.incarnation u.value.incarnation

-- an own advert of an earlier incarnation that would become its register's value
abbrev pub is_returning : Speaker → Fields → Bool
is_returning e u = is_newest e u && (nat_lt u.value.incarnation e.incarnation && is_some (advert_in u.value.content))

-- it needs a number for its withdrawal, and there may be none
abbrev pub is_spent : Speaker → Fields → Bool
is_spent e u = is_returning e u && nat_le (2 ^ 63) e.counter

-- An own update is heard: an advert of an earlier incarnation that becomes its register's value is withdrawn in the
-- same step, by its key.
abbrev pub after_importing_own : Speaker → Fields → Speaker
after_importing_own e u = if is_returning e u then after_originating (after_importing e u) u.register.key
    Withdrawn else after_importing e u

-- ---- announcing

-- the present value of the register that waits longest
abbrev pub announced_of : Speaker → List Register → Option Fields
announced_of e [] = None
announced_of e (r ∷ rs) = update_at e.table r

abbrev pub announced : Speaker → Option Fields
announced e = announced_of e e.pending

abbrev pub after_announcing : Speaker → Speaker
after_announcing e = record e { pending = drop 1 e.pending }

-- ---- looking for a number

-- an own update of this incarnation with this number
pub record IsOwnAt (e : Speaker) (n : ℕ) (u : Fields) : Type 0 where
  pub own : u.register.originator ≡ e.address
  pub there : value_at e.table u.register ≡ Some u.value
  pub present : IsPresent e u.value
  pub numbered : u.value.counter ≡ n

-- no own register of this incarnation has this number
abbrev pub IsNoOwnAt : Speaker → ℕ → Type 0
IsNoOwnAt e n = (k : Key) (v : Value) → own e k ≡ Some v → IsPresent e v → v.counter ≡ n → ⊥
