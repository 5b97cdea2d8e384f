-- The flood list of a network: the originators that advertise it (RFC 7432, sections 7.3 and 11.1).
use Rattle.std.specs.Prelude.{ℕ, Bool, false, List, [], ◌∷◌, ◌==◌, Contains, IsSome, is_some, ◌&&◌, ◌↔◌, if◌then◌else◌}
use Rattle.std.specs.List.Sorted.{IsStrictlyIncreasing}
use Rattle.std.specs.FinMap.{entries}
use Rattle.route_wire.specs.declared.update.Key.{Key}
use Rattle.route_wire.specs.declared.update.Key.TheVariants.{Flood, Mac}
use Rattle.route_wire.specs.declared.update.Register.{Register}
use Rattle.route_wire.specs.declared.update.Value.{Value}
use Rattle.route_join.specs.Table.{Table}
use Rattle.route_join.specs.Owner.{advert_in, advert_at}

-- the list has each originator that advertises the network's flood list, ascending, and no other
pub record IsFloodList (t : Table) (vni : ℕ) (originators : List ℕ) : Type 0 where
  pub ascending : IsStrictlyIncreasing originators
  pub exact : (o : ℕ) → Contains originators o ↔ IsSome (advert_at t o (Flood vni))

-- ---- the flood list by a walk over the registers
abbrev pub is_flood : ℕ → Key → Bool
is_flood vni (Flood v) = v == vni
is_flood vni (Mac v m ip) = false

-- the register advertises the network's flood list
abbrev pub floods : ℕ → Register → Value → Bool
floods vni r v = is_flood vni r.key && is_some (advert_in v.content)

abbrev pub flooding : ℕ → List (Register × Value) → List ℕ
flooding vni [] = []
flooding vni (e ∷ es) = if floods vni e.0 e.1 then e.0.originator ∷ flooding vni es else flooding vni es

-- the network's flood list, ascending
abbrev pub flood_of : Table → ℕ → List ℕ
flood_of t vni = flooding vni (entries t.registers)
