-- Addresses, keys and registers that differ by `==` are those that differ in report order.
use Rattle.std.proofs.Common.{◌≡◌, ℕ, ◌==◌, ◌&&◌, true, false, Some, None, refl, sym, ap, ◌∙◌, eq-eqb}
use Rattle.std.specs.Cmp.{both_ways, tied_itself}
use Rattle.std.specs.Cmp.Lexicographic.{pointwise, bytes_decides}
use Rattle.std.proofs.lemmas.Map.Lookups.{exact_unsigned}
use Rattle.std.proofs.lemmas.Map.Views.{exact_unsigned_eq}
use Rattle.std.specs.declared.cmp.Ordering.{Ordering}
use Rattle.std.specs.declared.cmp.Ordering.TheVariants.{Less, Equal, Greater}
use Rattle.std.specs.Ordering.{is_eq, eq_by_cmp}
use Rattle.byteorder.specs.Endian.{big_number}
use Rattle.route_wire.specs.declared.update.Ip.{Ip}
use Rattle.route_wire.specs.declared.update.Ip.TheVariants.{V4, V6}
use Rattle.route_wire.specs.declared.update.Key.{Key}
use Rattle.route_wire.specs.declared.update.Key.TheVariants.{Flood, Mac}
use Rattle.route_wire.specs.declared.update.Register.{Register}
use Rattle.route_wire.specs.contracts.update.Addr6PartialEq.TheImpl as addr6
use Rattle.route_wire.specs.contracts.update.IpPartialEq.TheImpl as ip
use Rattle.route_wire.specs.contracts.update.KeyPartialEq.TheImpl as key
use Rattle.route_wire.specs.contracts.update.RegisterPartialEq.TheImpl as register
use Rattle.route_wire.specs.Octets.{octets_of}
use Rattle.route_wire.specs.Inner.Octets.{number_of_octets}
use Rattle.route_wire.specs.Order.{addr6_cmp, ip_order, key_cmp, register_cmp}
use Rattle.route_wire.specs.Inner.Totals.{addr6_total, ip_order_total, ip_order_exact, key_total, key_exact}
use Rattle.route_wire.specs.Inner.Totals.{register_total}
use Rattle.route_wire.specs.Inner.Totals.{register_exact}
use Rattle.std.proofs.lemmas.Bool.{and_parts as each, and_from as all}

pub equal_from : (o : Ordering) → is_eq o ≡ true → o ≡ Equal
equal_from Less e = cc
equal_from Equal e = refl
equal_from Greater e = cc

-- an address of version 6 is kept in its octets
same_octets : (m n : ℕ) → pointwise ◌==◌ (octets_of m) (octets_of n) ≡ true → m ≡ n
same_octets m n e =
    sym (number_of_octets m) ∙ ap (big_number 16) ((bytes_decides (octets_of m) (octets_of n)).0 e) ∙ number_of_octets n

ip_itself : (i : Ip) → ip.eq-value.it i i ≡ true
ip_itself (V4 n) = eq-eqb n n refl
ip_itself (V6 n) = (bytes_decides (octets_of n) (octets_of n)).1 refl

ip_same : (i j : Ip) → ip.eq-value.it i j ≡ true → i ≡ j
ip_same (V4 m) (V4 n) e = ap V4 (exact_unsigned_eq m n e)
ip_same (V4 m) (V6 n) e = cc
ip_same (V6 m) (V4 n) e = cc
ip_same (V6 m) (V6 n) e = ap V6 (same_octets m n e)

pub tied_addresses : (m n : ℕ) → addr6.eq-value.it m n ≡ eq_by_cmp addr6_cmp m n
tied_addresses m n =
    both_ways (addr6.eq-value.it m n) (eq_by_cmp addr6_cmp m n)
    (λ e. ap (λ x. eq_by_cmp addr6_cmp m x) (sym (same_octets m n e)) ∙ ap is_eq (tied_itself addr6_total m))
    (λ e. ap (λ x. addr6.eq-value.it m x) (sym (exact_unsigned m n (equal_from (addr6_cmp m n) e)))
    ∙ (bytes_decides (octets_of m) (octets_of m)).1 refl)

pub tied_ips : (i j : Ip) → ip.eq-value.it i j ≡ eq_by_cmp ip_order i j
tied_ips i j =
    both_ways (ip.eq-value.it i j) (eq_by_cmp ip_order i j)
    (λ e. ap (λ x. eq_by_cmp ip_order i x) (sym (ip_same i j e)) ∙ ap is_eq (tied_itself ip_order_total i))
    (λ e. ap (λ x. ip.eq-value.it i x) (sym (ip_order_exact i j (equal_from (ip_order i j) e))) ∙ ip_itself i)

key_itself : (k : Key) → key.eq-value.it k k ≡ true
key_itself (Flood v) = eq-eqb v v refl
key_itself (Mac v m None) = all (v == v) (m == m && true) (eq-eqb v v refl) (all (m == m) true (eq-eqb m m refl) refl)
key_itself (Mac v m (Some i)) = all (v == v) (m == m && ip.eq-value.it i i) (eq-eqb v v refl)
    (all (m == m) (ip.eq-value.it i i) (eq-eqb m m refl) (ip_itself i))

key_same : (k l : Key) → key.eq-value.it k l ≡ true → k ≡ l
key_same (Flood v) (Flood w) e = ap Flood (exact_unsigned_eq v w e)
key_same (Flood v) (Mac w n j) e = cc
key_same (Mac v m i) (Flood w) e = cc
key_same (Mac v m None) (Mac w n None) e =
    let h = each (v == w) (m == n && true) e in
    let vnis = exact_unsigned_eq v w h.0 in
    let macs = exact_unsigned_eq m n (each (m == n) true h.1).0 in
    λ k. Mac (vnis k) (macs k) None
key_same (Mac v m (Some i)) (Mac w n None) e = let h = each (m == n) false (each (v == w) (m == n && false) e).1 in cc
key_same (Mac v m None) (Mac w n (Some j)) e = let h = each (m == n) false (each (v == w) (m == n && false) e).1 in cc
key_same (Mac v m (Some i)) (Mac w n (Some j)) e =
    let h = each (v == w) (m == n && ip.eq-value.it i j) e in
    let g = each (m == n) (ip.eq-value.it i j) h.1 in
    let vnis = exact_unsigned_eq v w h.0 in
    let macs = exact_unsigned_eq m n g.0 in
    let ips = ip_same i j g.1 in
    λ k. Mac (vnis k) (macs k) (Some (ips k))

itself : (r : Register) → register.eq-value.it r r ≡ true
itself r = all (r.originator == r.originator) (key.eq-value.it r.key r.key) (eq-eqb r.originator r.originator refl)
    (key_itself r.key)

same : (q r : Register) → register.eq-value.it q r ≡ true → q ≡ r
same q r e =
    let h = each (q.originator == r.originator) (key.eq-value.it q.key r.key) e in
    let names = exact_unsigned_eq q.originator r.originator h.0 in
    let keys = key_same q.key r.key h.1 in
    λ k. record { originator = names k; key = keys k }

pub tied_keys : (j k : Key) → key.eq-value.it j k ≡ eq_by_cmp key_cmp j k
tied_keys j k =
    both_ways (key.eq-value.it j k) (eq_by_cmp key_cmp j k)
    (λ e. ap (λ x. eq_by_cmp key_cmp j x) (sym (key_same j k e)) ∙ ap is_eq (tied_itself key_total j))
    (λ e. ap (λ x. key.eq-value.it j x) (sym (key_exact j k (equal_from (key_cmp j k) e))) ∙ key_itself j)

pub tied_registers : (q r : Register) → register.eq-value.it q r ≡ eq_by_cmp register_cmp q r
tied_registers q r =
    both_ways (register.eq-value.it q r) (eq_by_cmp register_cmp q r)
    (λ e. ap (λ x. eq_by_cmp register_cmp q x) (sym (same q r e)) ∙ ap is_eq (tied_itself register_total q))
    (λ e. ap (λ x. register.eq-value.it q x) (sym (register_exact q r (equal_from (register_cmp q r) e))) ∙ itself q)
