-- A header that was written is read again.
use Rattle.std.proofs.Common.{◌≡◌, ℕ, ◌^◌, ◌<◌, false, List, ◌++◌, length, nat_lt, Ok, ap, arith}
use Rattle.std.proofs.lemmas.Bool.Decides.{nat_tests}
use Rattle.byteorder.specs.Endian.{big_number, big_bytes}
use Rattle.vxlan_wire.specs.Vxlan.{header_of, instance_of}

number_back : (vni : ℕ) → vni < 2 ^ 24 → big_number 3 (big_bytes 3 vni) ≡ vni
number_back vni h = omega arith

pub instance_of-header_of : (vni : ℕ) (frame : List ℕ) → vni < 2 ^ 24
    → instance_of (header_of vni ++ frame) ≡ Ok (vni, frame)
unfolding instance_of
instance_of-header_of vni frame h =
    let long : nat_lt (length (header_of vni ++ frame)) 8 ≡ false = grind (arith, nat_tests) in
    let same = number_back vni h in
    rw long (ap (λ n. Ok (n, frame)) same)
