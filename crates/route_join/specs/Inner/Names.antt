-- The texts of addresses that a report keeps.
use Rattle.std.specs.Prelude.{◌≡◌, ◌≤◌, take}
use Rattle.ether_wire.specs.Addr.{addr_text}
use Rattle.route_join.specs.declared.names.Name.{Name}

-- the octets begin with the address's text
pub record IsName (n : Name) : Type 0 where
  pub text : take n.len n.octets ≡ addr_text n.address
  pub fits : n.len ≤ 20
