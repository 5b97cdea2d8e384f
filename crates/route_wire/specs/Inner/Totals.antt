-- The orders are total, and two values are equal in them only if they are the same.
use Rattle.std.proofs.Common.{◌≡◌, ℕ, Bool, true, false, cond, Option, Some, None, nat_cmp, refl, sym, ap, ◌∙◌, arith}
use Rattle.std.specs.declared.cmp.Ordering.{Ordering}
use Rattle.std.specs.declared.cmp.Ordering.TheVariants.{Less, Equal, Greater}
use Rattle.std.specs.Cmp.{IsTotalOrder, nat_cmp_total}
use Rattle.std.specs.Cmp.Lexicographic.{options_total}
use Rattle.std.specs.FinMap.{IsAntisymmetric}
use Rattle.std.specs.Option.{option_cmp}
use Rattle.std.specs.Ordering.{ordering_then, ordering_reverse, is_lt}
use Rattle.std.proofs.lemmas.Cmp.{on_total, then_total}
use Rattle.std.proofs.lemmas.Map.Lookups.{exact_unsigned}
use Rattle.route_wire.specs.declared.update.Ip.{Ip}
use Rattle.route_wire.specs.declared.update.Ip.TheVariants.{V4, V6}
use Rattle.route_wire.specs.declared.update.Key.{Key}
use Rattle.route_wire.specs.declared.update.Key.TheVariants.{Flood, Mac}
use Rattle.route_wire.specs.declared.update.Content.{Content}
use Rattle.route_wire.specs.declared.update.Content.TheVariants.{Withdrawn, Advert as Advertised}
use Rattle.route_wire.specs.declared.update.Value.{Value}
use Rattle.route_wire.specs.Order.{ip_version, ip_number, ip_cmp, ip_order, addr6_cmp, vni_of, place_of, ip_of, key_cmp}
use Rattle.route_wire.specs.Order.{register_cmp, rank_of, sequence_of, label2_of, content_cmp, value_cmp, is_newer}

-- a lexicographic order yields `Equal` only if both of its parts do
both : (o p : Ordering) → ordering_then o p ≡ Equal → (o ≡ Equal) × (p ≡ Equal)
both Less p h = cc
both Equal p h = (refl, h)
both Greater p h = cc

-- ---- IP addresses
pub ip_total : IsTotalOrder ip_cmp
ip_total = then_total (on_total ip_version nat_cmp_total) (on_total ip_number nat_cmp_total)

same_ip : (a b : Option Ip) → ip_version a ≡ ip_version b → ip_number a ≡ ip_number b → a ≡ b
same_ip None None v n = refl
same_ip None (Some (V4 y)) v n = absurd (omega arith)
same_ip None (Some (V6 y)) v n = absurd (omega arith)
same_ip (Some (V4 x)) None v n = absurd (omega arith)
same_ip (Some (V6 x)) None v n = absurd (omega arith)
same_ip (Some (V4 x)) (Some (V4 y)) v n = ap (λ k. Some (V4 k)) n
same_ip (Some (V4 x)) (Some (V6 y)) v n = absurd (omega arith)
same_ip (Some (V6 x)) (Some (V4 y)) v n = absurd (omega arith)
same_ip (Some (V6 x)) (Some (V6 y)) v n = ap (λ k. Some (V6 k)) n

pub ip_exact : IsAntisymmetric ip_cmp
ip_exact a b h = let e = both (nat_cmp (ip_version a) (ip_version b)) (nat_cmp (ip_number a) (ip_number b)) h in
    same_ip a b (exact_unsigned _ _ e.0) (exact_unsigned _ _ e.1)

pub addr6_total : IsTotalOrder addr6_cmp
addr6_total = nat_cmp_total

pub ip_order_total : IsTotalOrder ip_order
ip_order_total = on_total Some ip_total

pub ip_order_exact : IsAntisymmetric ip_order
ip_order_exact a b h = let e = ip_exact (Some a) (Some b) h in cc

-- ---- keys and registers
pub key_total : IsTotalOrder key_cmp
key_total = then_total (on_total vni_of nat_cmp_total) (then_total (on_total place_of nat_cmp_total)
    (on_total ip_of ip_total))

pub register_total : IsTotalOrder register_cmp
register_total =
    then_total (on_total (λ r. vni_of r.key) nat_cmp_total) (then_total (on_total (λ r. place_of r.key) nat_cmp_total)
    (then_total (on_total (λ r. r.originator) nat_cmp_total) (on_total (λ r. ip_of r.key) ip_total)))

pub same_key : (a b : Key) → vni_of a ≡ vni_of b → place_of a ≡ place_of b → ip_of a ≡ ip_of b → a ≡ b
same_key (Flood v) (Flood w) p q r = ap Flood p
same_key (Flood v) (Mac w n j) p q r = absurd (omega arith)
same_key (Mac v m i) (Flood w) p q r = absurd (omega arith)
same_key (Mac v m i) (Mac w n j) p q r = let macs : m ≡ n = omega (arith, q) in λ k. Mac (p k) (macs k) (r k)

pub key_exact : IsAntisymmetric key_cmp
key_exact a b h =
    let vnis = both (nat_cmp (vni_of a) (vni_of b)) _ h in
    let places = both (nat_cmp (place_of a) (place_of b)) (ip_cmp (ip_of a) (ip_of b)) vnis.1 in
    same_key a b (exact_unsigned _ _ vnis.0) (exact_unsigned _ _ places.0) (ip_exact (ip_of a) (ip_of b) places.1)

pub register_exact : IsAntisymmetric register_cmp
register_exact a b h =
    let vnis = both (nat_cmp (vni_of a.key) (vni_of b.key)) _ h in
    let places = both (nat_cmp (place_of a.key) (place_of b.key)) _ vnis.1 in
    let originators = both (nat_cmp a.originator b.originator) (ip_cmp (ip_of a.key) (ip_of b.key)) places.1 in
    let keys = same_key a.key b.key (exact_unsigned _ _ vnis.0) (exact_unsigned _ _ places.0)
    (ip_exact (ip_of a.key) (ip_of b.key) originators.1) in
    let names = exact_unsigned _ _ originators.0 in
    λ i. record { originator = names i; key = keys i }

-- ---- values
pub content_total : IsTotalOrder content_cmp
content_total = then_total (on_total rank_of nat_cmp_total)
    (then_total (on_total sequence_of nat_cmp_total) (on_total label2_of (options_total nat_cmp_total)))

same_label : (a b : Option ℕ) → option_cmp nat_cmp a b ≡ Equal → a ≡ b
same_label None None h = refl
same_label None (Some y) h = cc
same_label (Some x) None h = cc
same_label (Some x) (Some y) h = ap Some (exact_unsigned x y h)

same_flag : (f g : Bool) → ◌≡◌ {A = ℕ} (cond f 2 1) (cond g 2 1) → f ≡ g
same_flag true true e = refl
same_flag true false e = absurd (omega arith)
same_flag false true e = absurd (omega arith)
same_flag false false e = refl

some_rank : (f : Bool) → ◌≡◌ {A = ℕ} 0 (cond f 2 1) → ⊥
some_rank true e = omega arith
some_rank false e = omega arith

same_content : (a b : Content) → rank_of a ≡ rank_of b → sequence_of a ≡ sequence_of b → label2_of a ≡ label2_of b
    → a ≡ b
same_content Withdrawn Withdrawn p q r = refl
same_content Withdrawn (Advertised b) p q r = absurd (some_rank b.is_static p)
same_content (Advertised a) Withdrawn p q r = absurd (some_rank a.is_static (sym p))
same_content (Advertised a) (Advertised b) p q r = let flags = same_flag a.is_static b.is_static p in
    λ i. Advertised (record { is_static = flags i; sequence = q i; label2 = r i })

pub content_exact : IsAntisymmetric content_cmp
content_exact a b h =
    let ranks = both (nat_cmp (rank_of a) (rank_of b)) _ h in
    let sequences = both (nat_cmp (sequence_of a) (sequence_of b)) (option_cmp nat_cmp (label2_of a) (label2_of b))
    ranks.1 in
    same_content a b (exact_unsigned _ _ ranks.0) (exact_unsigned _ _ sequences.0)
    (same_label (label2_of a) (label2_of b) sequences.1)

pub value_total : IsTotalOrder value_cmp
value_total = then_total (on_total (λ v. v.incarnation) nat_cmp_total)
    (then_total (on_total (λ v. v.counter) nat_cmp_total) (on_total (λ v. v.content) content_total))

pub value_exact : IsAntisymmetric value_cmp
value_exact a b h =
    let lives = both (nat_cmp a.incarnation b.incarnation) _ h in
    let counters = both (nat_cmp a.counter b.counter) (content_cmp a.content b.content) lives.1 in
    let l = exact_unsigned _ _ lives.0 in
    let n = exact_unsigned _ _ counters.0 in
    let c = content_exact a.content b.content counters.1 in
    λ i. record { incarnation = l i; counter = n i; content = c i }

-- two values of which neither is newer are the same
pub neither_newer : (v w : Value) → is_newer v w ≡ false → is_newer w v ≡ false → v ≡ w
neither_newer v w a b = go (value_cmp v w) refl
  where
    go : (o : Ordering) → value_cmp v w ≡ o → v ≡ w
    go Less p = let q = ap is_lt p in cc
    go Equal p = value_exact v w p
    go Greater p = let q = ap is_lt (value_total.antisymm w v ∙ ap ordering_reverse p) in cc
