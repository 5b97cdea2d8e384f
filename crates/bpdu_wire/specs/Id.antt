-- The parts of bridge and port identifiers.
use Rattle.std.specs.Prelude.{ℕ, ◌*◌, ◌/◌, ◌%◌, ◌^◌}

-- the first two of eight octets (IEEE 802.1D-2004, 9.2.5)
abbrev pub bridge_priority : ℕ → ℕ
bridge_priority id = id / 2 ^ 48

-- the last six of eight octets
abbrev pub bridge_address : ℕ → ℕ
bridge_address id = id % 2 ^ 48

-- the top four of sixteen bits, counted in steps of 16 (IEEE 802.1D-2004, 9.2.7)
abbrev pub port_priority : ℕ → ℕ
port_priority id = id / 2 ^ 12 * 16

-- the low twelve of sixteen bits
abbrev pub port_number : ℕ → ℕ
port_number id = id % 2 ^ 12
