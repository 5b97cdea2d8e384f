-- The order of vectors is total: two vectors are equal if neither of them is less.
use Rattle.std.proofs.Common.{◌≡◌, false, refl, sym, ap, ◌∙◌}
use Rattle.std.specs.Cmp.{IsTotalOrder}
use Rattle.std.specs.FinMap.{nat_cmp-IsAntisymmetric}
use Rattle.std.specs.Ordering.{nat_cmp, ordering_then, ordering_reverse, is_lt}
use Rattle.std.specs.declared.cmp.Ordering.{Ordering}
use Rattle.std.specs.declared.cmp.Ordering.TheVariants.{Less, Equal, Greater}
use Rattle.std.proofs.lemmas.Cmp.{nat_cmp_total, on_total, then_total}
use Rattle.rstp_state.specs.declared.vector.Vector.{Vector}
use Rattle.rstp_state.specs.Vector.{is_less, vector_cmp}
use Rattle.rstp_state.proofs.Basics.{no}

pub vector_total : IsTotalOrder vector_cmp
vector_total =
    then_total (on_total (λ v. v.root) nat_cmp_total) (then_total (on_total (λ v. v.cost) nat_cmp_total)
    (then_total (on_total (λ v. v.bridge) nat_cmp_total) (on_total (λ v. v.port) nat_cmp_total)))

pub both_equal : (o p : Ordering) → ordering_then o p ≡ Equal → (o ≡ Equal) × (p ≡ Equal)
both_equal Less p h = cc
both_equal Equal p h = (refl, h)
both_equal Greater p h = cc

pub same_vector : (a b : Vector) → vector_cmp a b ≡ Equal → a ≡ b
same_vector a b h =
    let h1 = both_equal (nat_cmp a.root b.root) _ h in
    let h2 = both_equal (nat_cmp a.cost b.cost) _ h1.1 in
    let h3 = both_equal (nat_cmp a.bridge b.bridge) (nat_cmp a.port b.port) h2.1 in
    let root = nat_cmp-IsAntisymmetric a.root b.root h1.0 in
    let cost = nat_cmp-IsAntisymmetric a.cost b.cost h2.0 in
    let bridge = nat_cmp-IsAntisymmetric a.bridge b.bridge h3.0 in
    let port = nat_cmp-IsAntisymmetric a.port b.port h3.1 in
    λ i. record { root = root i; cost = cost i; bridge = bridge i; port = port i }

neither_at : (a b : Vector) (o : Ordering) → o ≡ vector_cmp a b → is_lt o ≡ false → is_less b a ≡ false → o ≡ Equal
neither_at a b Less e h k = no (sym h)
neither_at a b Equal e h k = refl
neither_at a b Greater e h k =
    let o = vector_total in
    no (sym (sym (ap is_lt (o.antisymm b a ∙ ap ordering_reverse (sym e))) ∙ k))

pub neither_less : (a b : Vector) → is_less a b ≡ false → is_less b a ≡ false → a ≡ b
neither_less a b h k = same_vector a b (neither_at a b (vector_cmp a b) refl h k)
