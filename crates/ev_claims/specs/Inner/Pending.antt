-- The registers that an edge says something of, and those of them that are still to be announced.
use Rattle.std.specs.Prelude.{◌≡◌, ◌^◌, ℕ, ◌<◌, ◌≤◌, true, Option, Some, List, [], ◌∷◌, length, map, slice_get}
use Rattle.std.specs.Prelude.{slice_index_or}
use Rattle.std.specs.Map.{lookup}
use Rattle.idx_links.specs.Links.{has, list_at}
use Rattle.idx_links.specs.Families.{Families, lists_of}
use Rattle.route_wire.specs.declared.update.Key.TheVariants.{Flood}
use Rattle.route_wire.specs.declared.update.Register.{Register}
use Rattle.route_wire.specs.contracts.update.RegisterPartialEq.TheImpl as register

-- the registers that have a node, and of these the ones that wait, the first one first
pub record Pending : Type 0 where
  pub known : List Register
  pub waiting : List Register

abbrev pub no_register : Register
no_register = record { originator = 0; key = Flood 0 }

abbrev pub register_at : List Register → ℕ → Register
register_at rs n = slice_index_or rs n no_register

abbrev pub queue : Families → List ℕ
queue f = list_at (lists_of f 0) 0

abbrev pub pending_of : Families → List Register → Pending
pending_of f rs = record { known = rs; waiting = map (register_at rs) (queue f) }

abbrev pub node_of : List (Register × ℕ) → Register → Option ℕ
node_of nodes r = lookup (register.eq-value.it r) nodes

-- one list; at least one node for each register, the first ones theirs; the map gives each register's node
pub record IsPending (f : Families) (rs : List Register) (nodes : List (Register × ℕ)) (room : ℕ) : Type 0 where
  pub one : f.families ≡ (queue f ∷ []) ∷ []
  pub counted : f.nodes ≡ room
  pub fits : length rs ≤ room
  pub small : room < 2 ^ 32
  pub within : (n : ℕ) → has (queue f) n ≡ true → n < length rs
  pub there : (n : ℕ) (r : Register) → slice_get rs n ≡ Some r → node_of nodes r ≡ Some n
  pub back : (r : Register) (n : ℕ) → node_of nodes r ≡ Some n → slice_get rs n ≡ Some r
