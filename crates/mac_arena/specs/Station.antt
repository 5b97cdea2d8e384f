-- The order of stations, and what tells two apart.
use Rattle.std.specs.Prelude.{ℕ, ◌+◌, ◌*◌, ◌/◌, ◌%◌, ◌^◌, Bool}
use Rattle.std.specs.Int.Bits.{bit_xor}
use Rattle.std.specs.Ordering.{nat_cmp, ordering_then, eq_by_cmp}
use Rattle.std.specs.declared.cmp.Ordering.{Ordering}
use Rattle.mac_arena.specs.declared.station.Station.{Station}

-- by network, then by address
abbrev pub station_cmp : Station → Station → Ordering
station_cmp a b = ordering_then (nat_cmp a.vni b.vni) (nat_cmp a.mac b.mac)

abbrev pub is_same : Station → Station → Bool
is_same a b = eq_by_cmp station_cmp a b

-- network and address in 64 bits, mixed with a salt by one multiplication; the upper half of the product
abbrev pub hash_of : ℕ → Station → ℕ
hash_of salt s = bit_xor ((s.vni * 2 ^ 48 + s.mac) % 2 ^ 64) salt * 11400714819323198485 % 2 ^ 64 / 2 ^ 32

-- the bucket of a station, given the number of buckets
abbrev pub bucket_of : ℕ → ℕ → Station → ℕ
bucket_of buckets salt s = hash_of salt s % buckets
