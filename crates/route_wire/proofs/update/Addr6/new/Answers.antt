use Rattle.std.proofs.Common.{◌≡◌, [], ◌∷◌, ◌/◌, ◌%◌, ◌^◌, sym, ap, ◌∙◌, arith}
use Rattle.byteorder.specs.Endian.{big_number, big_bytes}
use Rattle.byteorder.specs.Numbers.{big_number-reads_back}
use Rattle.route_wire.specs.Octets.{octets_of}
use Rattle.route_wire.proofs.update.Addr6.new.Goals as goal

pub returns : goal.returns
returns c = ap (big_number 16) c.to_be_bytes.ensures ∙ big_number-reads_back 16 c.args.number [] c.ranges.number.fits

-- the octets of a number of 128 bits are those that a machine writes
pub invariant_of-result : goal.invariant_of-result
invariant_of-result c =
    let top : c.args.number / 256 ^ 15 ≡ c.args.number / 256 ^ 15 % 256 = omega (arith, c.ranges.number.fits) in
    ap octets_of (returns c) ∙ (λ i. top i ∷ big_bytes 15 c.args.number) ∙ sym c.to_be_bytes.ensures
