-- Subjects by their numbers: places in a network, and the order of numbers.
use Rattle.std.proofs.Common.{◌≡◌, ◌≢◌, ℕ, zero, suc, ◌+◌, ◌-◌, ◌<◌, ◌==◌, true, false, Some, None, ap, arith, add-one}
use Rattle.std.specs.declared.cmp.Ordering.{Ordering}
use Rattle.std.specs.declared.cmp.Ordering.TheVariants.{Greater}
use Rattle.std.specs.Ordering.{nat_cmp}
use Rattle.std.proofs.lemmas.Bool.Decides.{nat_tests}
use Rattle.std.proofs.lemmas.Map.Views.{exact_unsigned_eq}
use Rattle.route_join.specs.Subject.{Subject, subject_cmp}
use Rattle.route_join.specs.Inner.Subject.{mac_place, mac_at}

-- ---- places in a network
pub at_next : (m : ℕ) → mac_at (m + 1) ≡ Some m
at_next m = ap mac_at (add-one m)

pub none_at : (p : ℕ) → (p == 0) ≡ true → mac_at p ≡ None
none_at p e = ap mac_at (exact_unsigned_eq p 0 e)

pub some_at : (p : ℕ) → (p == 0) ≡ false → mac_at p ≡ Some (p - 1)
some_at zero e = cc
some_at (suc m) e = let back : m ≡ suc m - 1 = omega arith in ap Some back

-- ---- by numbers
pub by_one : (n m : ℕ) (o : Ordering) → nat_cmp n m ≡ o → nat_cmp (n + 1) (m + 1) ≡ o
by_one n m o h = grind (arith, nat_tests)

-- ---- the order by parts
pub same_network : (x y : Subject) → x.vni ≡ y.vni → nat_cmp (mac_place x.mac) (mac_place y.mac) ≡ subject_cmp x y
same_network x y h = grind (arith, nat_tests)

pub other_network : (x y : Subject) → x.vni ≢ y.vni → nat_cmp x.vni y.vni ≡ subject_cmp x y
other_network x y h = grind (arith, nat_tests)

pub behind_lower : (x y : Subject) → x.vni ≡ y.vni → mac_place y.mac < mac_place x.mac → Greater ≡ subject_cmp x y
behind_lower x y h k = grind (arith, nat_tests)
