-- The sixteen octets of an IPv6 address, and that they represent its number exactly.
use Rattle.std.proofs.Common.{ℕ, ◌/◌, ◌^◌, List, ◌∷◌}
use Rattle.byteorder.specs.Endian.{big_bytes}

-- the octets of a number, the first one highest
abbrev pub octets_of : ℕ → List ℕ
octets_of n = n / 256 ^ 15 ∷ big_bytes 15 n
