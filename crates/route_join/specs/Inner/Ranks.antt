-- The order of subjects is total, two subjects are equal in it only if they are the same, and it is the order of their
-- numbers.
use Rattle.std.proofs.Common.{◌≡◌, ℕ, zero, suc, ◌==◌, true, Option}
use Rattle.std.proofs.Common.{Some, None, refl, sym, ap, ◌∙◌, add-one, eq-eqb}
use Rattle.std.specs.Cmp.{IsTotalOrder, nat_cmp_total, both_ways, tied_itself, tied_then}
use Rattle.std.specs.Cmp.Derive.{both_true}
use Rattle.std.specs.Cmp.Lexicographic.{options_total}
use Rattle.std.specs.declared.cmp.Ordering.TheVariants.{Equal}
use Rattle.std.specs.FinMap.{IsAntisymmetric}
use Rattle.std.specs.Option.{option_cmp}
use Rattle.std.specs.Ordering.{is_eq, nat_cmp, eq_by_cmp}
use Rattle.std.proofs.lemmas.Cmp.{on_total, then_total}
use Rattle.std.proofs.lemmas.Map.Lookups.{exact_unsigned}
use Rattle.std.proofs.lemmas.Map.Views.{exact_unsigned_eq}
use Rattle.route_wire.specs.Inner.Ties.{equal_from}
use Rattle.route_join.specs.Subject.{Subject, subject_cmp}
use Rattle.route_join.specs.Inner.Subject.{subject_eq, mac_place, mac_at}
use Rattle.std.proofs.lemmas.Bool.{and_parts as each}

pub place_back : (p : ℕ) → mac_place (mac_at p) ≡ p
place_back zero = refl
place_back (suc m) = add-one m

pub subject_total : IsTotalOrder subject_cmp
subject_total = then_total (on_total (λ (s : Subject). s.vni) nat_cmp_total)
    (on_total (λ (s : Subject). s.mac) (options_total nat_cmp_total))

same_mac : (a b : Option ℕ) → option_cmp nat_cmp a b ≡ Equal → a ≡ b
same_mac None None h = refl
same_mac None (Some y) h = cc
same_mac (Some x) None h = cc
same_mac (Some x) (Some y) h = ap Some (exact_unsigned x y h)

pub subject_exact : IsAntisymmetric subject_cmp
subject_exact a b h =
    let o = nat_cmp a.vni b.vni in let p = option_cmp nat_cmp a.mac b.mac in
    let parts = each (is_eq o) (is_eq p) (tied_then o p ∙ ap is_eq h) in
    let vnis = exact_unsigned a.vni b.vni (equal_from o parts.0) in
    let macs = same_mac a.mac b.mac (equal_from p parts.1) in
    λ i. record { vni = vnis i; mac = macs i }

mac_back : (a : Option ℕ) → mac_at (mac_place a) ≡ a
mac_back None = refl
mac_back (Some m) = ap mac_at (add-one m)

pub same_subject : (x y : Subject) → subject_eq x y ≡ true → x ≡ y
same_subject x y e =
    let parts = each (x.vni == y.vni) (mac_place x.mac == mac_place y.mac) e in
    let vnis = exact_unsigned_eq x.vni y.vni parts.0 in
    let macs = sym (mac_back x.mac) ∙ ap mac_at (exact_unsigned_eq (mac_place x.mac) (mac_place y.mac) parts.1)
    ∙ mac_back y.mac in
    λ i. record { vni = vnis i; mac = macs i }

itself : (x : Subject) → subject_eq x x ≡ true
itself x = both_true (eq-eqb x.vni x.vni refl) (eq-eqb (mac_place x.mac) (mac_place x.mac) refl)

pub tied_subjects : (x y : Subject) → subject_eq x y ≡ eq_by_cmp subject_cmp x y
tied_subjects x y =
    both_ways (subject_eq x y) (eq_by_cmp subject_cmp x y)
    (λ e. ap (λ z. eq_by_cmp subject_cmp x z) (sym (same_subject x y e)) ∙ ap is_eq (tied_itself subject_total x))
    (λ e. ap (λ z. subject_eq x z) (sym (subject_exact x y (equal_from (subject_cmp x y) e))) ∙ itself x)
