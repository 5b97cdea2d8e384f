-- The statements of the laws on decisions.
use Rattle.std.specs.Prelude.{◌≡◌, ◌≢◌, ℕ, ◌≤◌, true, List, [], length, Contains, IsSome, ◌↔◌}
use Rattle.std.specs.List.Sorted.{IsStrictlyIncreasing}
use Rattle.route_wire.specs.declared.update.Key.TheVariants.{Flood}
use Rattle.route_join.specs.Table.{Table}
use Rattle.route_join.specs.Owner.{advert_at}
use Rattle.ether_wire.specs.Ports.{IsPort, has_port}

-- the access ports and the edges that get a frame are one at most
pub record IsOneCopy (local : ℕ) (remote : List ℕ) : Type 0 where
  pub one_port : (p q : ℕ) → IsPort p → IsPort q → has_port local p ≡ true → has_port local q ≡ true → p ≡ q
  pub one_edge : length remote ≤ 1
  pub not_both : (p : ℕ) → IsPort p → has_port local p ≡ true → remote ≡ []

-- each port of the set is a member that passes
abbrev pub ArePassing : ℕ → ℕ → ℕ → Type 0
ArePassing members passing local = (p : ℕ) → IsPort p → has_port local p ≡ true
    → (has_port members p ≡ true) × (has_port passing p ≡ true)

-- the other edges that advertise the network's flood list, ascending, and no more
pub record AreOthers (t : Table) (vni own : ℕ) (remote : List ℕ) : Type 0 where
  pub ascending : IsStrictlyIncreasing remote
  pub exact : (o : ℕ) → Contains remote o ↔ ((o ≢ own) × IsSome (advert_at t o (Flood vni)))
