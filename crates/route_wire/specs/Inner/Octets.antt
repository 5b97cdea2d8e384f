-- The sixteen octets of an IPv6 address, and that they represent its number exactly.
use Rattle.std.proofs.Common.{◌≡◌, ℕ, ◌+◌, ◌*◌, ◌/◌, ◌^◌, [], ap, ◌∙◌}
use Rattle.std.proofs.lemmas.Nat.{div-add-mod'}
use Rattle.byteorder.specs.Endian.{big_number, big_bytes}
use Rattle.byteorder.specs.Numbers.{big_from-cons, big_from-bytes}
use Rattle.route_wire.specs.Octets.{octets_of}

-- the number is computed from the octets
pub number_of_octets : (n : ℕ) → big_number 16 (octets_of n) ≡ n
number_of_octets n =
    let low = big_from-cons 0 15 (n / 256 ^ 15) (big_bytes 15 n) ∙ big_from-bytes 15 n [] in
    ap (λ r. n / 256 ^ 15 * 256 ^ 15 + r) low ∙ div-add-mod' n (256 ^ 15)
