-- Which of its own registers an edge changes at an event, and under which numbers.
use Rattle.std.specs.Prelude.{◌≡◌, ◌≢◌, ℕ, ◌+◌, Some, List, [], ◌∷◌, Contains, length, map, slice_get}
use Rattle.route_wire.specs.declared.update.Key.{Key}
use Rattle.route_wire.specs.declared.update.Register.{Register}
use Rattle.route_wire.specs.declared.update.Content.{Content}
use Rattle.route_wire.specs.declared.update.Value.{Value}
use Rattle.route_wire.specs.Fields.{Fields}
use Rattle.route_join.specs.Table.{value_at, with_updates}
use Rattle.mac_arena.specs.declared.station.Station.{Station}
use Rattle.ev_claims.specs.Pending.{marked}
use Rattle.ev_claims.specs.Speaker.{Speaker, IsOwnAt, own_register, next_value, after_originating}
use Rattle.ev_claims.specs.LocalRoutes.{key_of}

-- the registers are marked one after the other
abbrev pub all_marked : List Register → List Register → List Register
all_marked rs [] = rs
all_marked rs (x ∷ xs) = all_marked (marked rs x) xs

-- the register has a value of this incarnation with this number
pub record IsNumbered (e : Speaker) (r : Register) (n : ℕ) : Type 0 where
  pub value : Value
  pub there : value_at e.table r ≡ Some value
  pub present : value.incarnation ≡ e.incarnation
  pub number : value.counter ≡ n

-- The edge changes these own registers, in the order of their numbers, and no other one. They take the numbers after
-- the counter without a gap, and the last is the new counter. Pending afterwards are the registers that were pending,
-- then those of these that were not.
pub record OwnChanges (old new : Speaker) (changed : List Register) : Type 0 where
  pub address : new.address ≡ old.address
  pub incarnation : new.incarnation ≡ old.incarnation
  pub own : (i : ℕ) (r : Register) → slice_get changed i ≡ Some r → r.originator ≡ old.address
  pub numbers : (i : ℕ) (r : Register) → slice_get changed i ≡ Some r → IsNumbered new r (old.counter + (i + 1))
  pub others : (r : Register) → r.originator ≡ old.address → (Contains changed r → ⊥)
      → value_at new.table r ≡ value_at old.table r
  pub counter : new.counter ≡ old.counter + length changed
  pub pending : new.pending ≡ all_marked old.pending changed

-- the registers under which an edge advertises these stations
abbrev pub registers_of : Speaker → List Station → List Register
registers_of e ss = map (λ s. own_register e (key_of s)) ss

-- ---- own updates, one after the other

-- the registers of updates
abbrev pub registers_in : List Fields → List Register
registers_in us = map (λ (u : Fields). u.register) us

-- these keys get these contents, one after the other
abbrev pub after_originations : Speaker → List (Key × Content) → Speaker
after_originations e [] = e
after_originations e (s ∷ ss) = after_originations (after_originating e s.0 s.1) ss

-- these as updates with the numbers after the counter
abbrev pub said_updates : Speaker → List (Key × Content) → List Fields
said_updates e [] = []
said_updates e (s ∷ ss) = record { register = own_register e s.0; value = next_value e s.1 }
    ∷ said_updates (after_originating e s.0 s.1) ss

-- The edge says these things and no other, no key twice: so exactly their registers change, each is then its register's
-- value and is found by its number, and the table has taken them.
pub record Says (old new : Speaker) (said : List (Key × Content)) : Type 0 where
  pub after : new ≡ after_originations old said
  pub changes : OwnChanges old new (registers_in (said_updates old said))
  pub count : length (said_updates old said) ≡ length said
  pub numbered : (i : ℕ) (u : Fields) → slice_get (said_updates old said) i ≡ Some u
      → IsOwnAt new (old.counter + (i + 1)) u
  pub table : new.table ≡ with_updates old.table (said_updates old said)
  pub foreign : (r : Register) → r.originator ≢ old.address → value_at new.table r ≡ value_at old.table r
