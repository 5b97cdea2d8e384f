-- The order of registers is that of their subjects first.
use Rattle.std.proofs.Common.{◌≡◌, ℕ, ◌+◌, ◌⊎◌, inl, inr, true, Option, Some, None, refl, sym, arith}
use Rattle.std.proofs.lemmas.Bool.Decides.{nat_tests}
use Rattle.std.specs.declared.cmp.Ordering.{Ordering}
use Rattle.std.specs.declared.cmp.Ordering.TheVariants.{Less, Equal, Greater}
use Rattle.std.specs.Cmp.{nat_cmp_is}
use Rattle.std.specs.Option.{option_cmp}
use Rattle.std.specs.Ordering.{nat_cmp, ordering_then}
use Rattle.route_wire.specs.declared.update.Ip.{Ip}
use Rattle.route_wire.specs.declared.update.Key.{Key}
use Rattle.route_wire.specs.declared.update.Key.TheVariants.{Flood, Mac}
use Rattle.route_wire.specs.declared.update.Register.{Register}
use Rattle.route_wire.specs.Order.{place_of, ip_of, ip_cmp, register_cmp}
use Rattle.route_join.specs.Subject.{Subject, subject_cmp, subject_of}
use Rattle.route_join.proofs.Numbers.{by_one}
use Rattle.route_join.specs.Owner.{is_about}

pub cases_Ordering : (o : Ordering) → (o ≡ Less) ⊎ ((o ≡ Equal) ⊎ (o ≡ Greater))
cases_Ordering Less = inl refl
cases_Ordering Equal = inr (inl refl)
cases_Ordering Greater = inr (inr refl)

same_places : (a b : Key) → nat_cmp (place_of a) (place_of b) ≡ option_cmp nat_cmp (subject_of a).mac (subject_of b).mac
same_places (Flood v) (Flood w) = refl
same_places (Flood v) (Mac w n j) = sym (nat_cmp_is 0 (n + 1) Less (omega arith))
same_places (Mac v m i) (Flood w) = sym (nat_cmp_is (m + 1) 0 Greater (omega arith))
same_places (Mac v m i) (Mac w n j) = by_one m n (nat_cmp m n) refl

-- registers of different subjects are in the order of these
pub by_subject : (r q : Register) → register_cmp r q ≡ ordering_then (subject_cmp (subject_of r.key) (subject_of q.key))
    (ordering_then (nat_cmp r.originator q.originator) (ip_cmp (ip_of r.key) (ip_of q.key)))
by_subject r q = grind (arith, same_places r.key q.key)

pub less_by_subject : (r q : Register) → subject_cmp (subject_of r.key) (subject_of q.key) ≡ Less
    → register_cmp r q ≡ Less
less_by_subject r q h = rw (by_subject r q, h)

pub greater_by_subject : (r q : Register) → subject_cmp (subject_of r.key) (subject_of q.key) ≡ Greater
    → register_cmp r q ≡ Greater
greater_by_subject r q h = rw (by_subject r q, h)

-- ---- keys of a subject
abbrev pub address : ℕ → ℕ → Subject
address v m = record { vni = v; mac = Some m }

-- a key that is about an address
pub address_key : (v m : ℕ) (k : Key) → subject_of k ≡ address v m → (ip : Option Ip) × (k ≡ Mac v m ip)
address_key v m (Flood w) h = absurd (grind arith)
address_key v m (Mac w n ip) h = (ip, grind arith)

pub about_address : (v m : ℕ) (k : Key) → is_about v m k ≡ true → subject_of k ≡ address v m
about_address v m (Flood w) h = cc
about_address v m (Mac w n ip) h = grind (arith, nat_tests)

pub about_itself : (v m : ℕ) (k : Key) → subject_of k ≡ address v m → is_about v m k ≡ true
about_itself v m k h = let key = address_key v m k h in rw key.1 (grind (arith, nat_tests))

-- a key that is about a flood list
pub flood_only : (v : ℕ) (k : Key) → subject_of k ≡ record { vni = v; mac = None } → k ≡ Flood v
flood_only v k h = grind arith
