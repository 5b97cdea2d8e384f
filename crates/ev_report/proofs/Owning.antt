-- After a migration each address has the owner that it had, and replaced registers stay withdrawn.
use Rattle.std.proofs.Common.{◌≡◌, ◌≢◌, ◌⊎◌, inl, inr, ℕ, ◌+◌, ◌≤◌, Bool, true, false, cond, List, Contains, Option}
use Rattle.std.proofs.Common.{Some, None, MatchOption, nat_cmp, refl, sym, ap, subst, ◌∙◌, arith}
use Rattle.std.proofs.lemmas.Bool.Decides.{nat_tests}
use Rattle.std.proofs.lemmas.Cmp.{ranked}
use Rattle.std.proofs.lemmas.List.Elements.{Contains-append_left, Contains-append_cases}
use Rattle.std.proofs.lemmas.Map.Lookups.{exact_unsigned}
use Rattle.std.specs.declared.cmp.Ordering.{Ordering}
use Rattle.std.specs.declared.cmp.Ordering.TheVariants.{Less, Equal, Greater}
use Rattle.std.specs.Cmp.{nat_cmp_total, tied_itself}
use Rattle.std.specs.Option.{option_cmp}
use Rattle.std.specs.Ordering.{ordering_then, ordering_reverse, is_lt, is_eq}
use Rattle.route_wire.specs.declared.update.Ip.{Ip}
use Rattle.route_wire.specs.declared.update.Key.{Key}
use Rattle.route_wire.specs.declared.update.Key.TheVariants.{Flood, Mac}
use Rattle.route_wire.specs.declared.update.Register.{Register}
use Rattle.route_wire.specs.declared.update.Advert.{Advert}
use Rattle.route_wire.specs.declared.update.Content.{Content}
use Rattle.route_wire.specs.declared.update.Content.TheVariants.{Withdrawn, Advert as Advertised}
use Rattle.route_wire.specs.declared.update.Value.{Value}
use Rattle.route_wire.specs.Fields.{Fields}
use Rattle.route_wire.specs.Order.{ip_cmp, ip_of, vni_of, place_of, rank_of, sequence_of, label2_of, register_cmp}
use Rattle.route_wire.specs.Order.{is_newer}
use Rattle.route_wire.specs.Inner.Totals.{ip_exact, same_key, content_exact}
use Rattle.route_wire.proofs.Newer.{next_newer}
use Rattle.route_join.specs.Table.{Table, register_of, value_at, IsTableOf}
use Rattle.route_join.specs.Owner.{advert_in, advert_of, advert_at, IsBetterBy, IsOwner, IsUnowned, owner}
use Rattle.route_join.proofs.Tables.{itself_register, other_register}
use Rattle.route_join.proofs.Owners.{owner_is}
use Rattle.route_join.proofs.Abouts.{contains_found}
use Rattle.ev_report.specs.Migrated.{is_same_old, old_cmp, is_newer_old, IsNewest, withdrawn_for, migrated_at}
use Rattle.ev_report.specs.Migrated.{AreMigrated}
use Rattle.ev_report.specs.MigrationLaws.{IsOldOwner, IsOldUnowned, SameOwners, StaysAway}
use Rattle.ev_report.proofs.Migrating.{shares, shared, same_itself, same_back, same_on, old_total}

-- ---- an old register has one newest update

then_equal : (o p : Ordering) → ordering_then o p ≡ Equal → (o ≡ Equal) × (p ≡ Equal)
then_equal Less p h = cc
then_equal Equal p h = (refl, h)
then_equal Greater p h = cc

old_exact : (u w : Fields) → is_same_old u.register w.register ≡ true → old_cmp u w ≡ Equal → u ≡ w
old_exact u w s h =
    let i = then_equal (nat_cmp u.value.incarnation w.value.incarnation) _ h in
    let c = then_equal (nat_cmp u.value.counter w.value.counter) _ i.1 in
    let r = then_equal (nat_cmp (rank_of u.value.content) (rank_of w.value.content)) _ c.1 in
    let q = then_equal (nat_cmp (sequence_of u.value.content) (sequence_of w.value.content)) _ r.1 in
    let p = then_equal (ip_cmp (ip_of u.register.key) (ip_of w.register.key))
    (option_cmp nat_cmp (label2_of u.value.content) (label2_of w.value.content)) q.1 in
    let old = shares u.register w.register s in
    let lives = exact_unsigned _ _ i.0 in
    let counters = exact_unsigned _ _ c.0 in
    let labels = option_cmp nat_cmp (label2_of u.value.content) (label2_of w.value.content) in
    let contents = content_exact u.value.content w.value.content
    (ap (λ o. ordering_then o (ordering_then (nat_cmp (sequence_of u.value.content) (sequence_of w.value.content))
    labels)) r.0 ∙ ap (λ o. ordering_then o labels) q.0 ∙ p.1) in
    let keys = same_key u.register.key w.register.key old.vni old.place
    (ip_exact (ip_of u.register.key) (ip_of w.register.key) p.0) in
    λ k. record {
      register = record { originator = old.originator k; key = keys k };
      value = record { counter = counters k; incarnation = lives k; content = contents k };
    }

one_newest : (us : List Fields) (r : Register) (u v : Fields) → IsNewest us r u → IsNewest us r v → u ≡ v
one_newest us r u v i j = go (old_cmp u v) refl
  where
    go : (o : Ordering) → old_cmp u v ≡ o → u ≡ v
    go Less p = let a = i.newest v j.own j.same in let b = ap is_lt p in cc
    go Equal p = old_exact u v (same_on u.register r v.register i.same (same_back v.register r j.same)) p
    go Greater p =
        let a = j.newest u i.own i.same in
        let b = ap is_lt (old_total.antisymm v u ∙ ap ordering_reverse p) in
        cc

newest_at : (us : List Fields) (r q : Register) (u : Fields) → is_same_old r q ≡ true → IsNewest us r u
    → IsNewest us q u
newest_at us r q u s i = record {
  own = i.own;
  same = same_on u.register r q i.same s;
  newest = λ w c t. i.newest w c (same_on w.register q r t (same_back r q s));
}

-- ---- the output

kept_at : (u : Fields) → migrated_at u u.register ≡ u
kept_at u = ap (λ b. cond b u (withdrawn_for u u.register)) (itself_register u.register)

replaced_at : (u : Fields) (r : Register) → r ≢ u.register → migrated_at u r ≡ withdrawn_for u r
replaced_at u r ne = ap (λ b. cond b u (withdrawn_for u r)) (other_register u.register r (λ e. ne (sym e)))

module _ (us ws : List Fields) (m : AreMigrated us ws) where
  newest_written : (r : Register) (u : Fields) → IsNewest us r u → Contains ws u
  newest_written r u i =
      let a = m.all u i.own in
      let same = one_newest us r a.0 u (newest_at us u.register r a.0 i.same a.1) i in
      subst (Contains ws) (ap (λ (x : Fields). migrated_at x u.register) same ∙ kept_at u) a.2

  replaced_written : (w u : Fields) → IsNewest us w.register u → Contains us w → w.register ≢ u.register
      → Contains ws (withdrawn_for u w.register)
  replaced_written w u i c ne =
      let a = m.all w c in
      let same = one_newest us w.register a.0 u a.1 i in
      subst (Contains ws) (ap (λ (x : Fields). migrated_at x w.register) same ∙ replaced_at u w.register ne) a.2

  -- the output has one update of a register
  one_written : (r : Register) (v w : Value) → Contains ws (record { register = r; value = v })
      → Contains ws (record { register = r; value = w }) → v ≡ w
  one_written r v w c d =
      let a = contains_found ws (record { register = r; value = v }) m.ordered c in
      let b = contains_found ws (record { register = r; value = w }) m.ordered d in
      let e : Some v ≡ Some w = sym a ∙ b in
      cc

  value_of : (t : Table) → IsTableOf ws t → (w : Fields) → Contains ws w → value_at t w.register ≡ Some w.value
  value_of t h w c = let n = h.newest w c in n.1 ∙ ap Some
      (one_written w.register n.0 w.value (h.from w.register n.0 n.1) c)

-- ---- owners

-- a register of the address
address_key : (vni mac : ℕ) (k : Key) → vni_of k ≡ vni → place_of k ≡ mac + 1 → (ip : Option Ip) × (k ≡ Mac vni mac ip)
address_key vni mac (Flood v) a b = absurd (omega arith)
address_key vni mac (Mac v m ip) a b = let e : m ≡ mac = omega arith in (ip, λ i. Mac (a i) (e i) ip)

address_register : (vni mac o : ℕ) (r : Register) → is_same_old r (register_of o (Mac vni mac None)) ≡ true
    → (ip : Option Ip) × (r ≡ register_of o (Mac vni mac ip))
address_register vni mac o r s =
    let h = shares r (register_of o (Mac vni mac None)) s in
    let k = address_key vni mac r.key h.vni h.place in
    (k.0, λ i. record { originator = h.originator i; key = k.1 i })

any_ip : (vni mac o : ℕ) (ip : Option Ip) → is_same_old (register_of o (Mac vni mac ip))
    (register_of o (Mac vni mac None)) ≡ true
any_ip vni mac o ip = shared (register_of o (Mac vni mac ip)) (register_of o (Mac vni mac None))
    (record { originator = refl; vni = refl; place = refl })

silent : (content : Content) → advert_in content ≡ None → content ≡ Withdrawn
silent Withdrawn e = refl
silent (Advertised a) e = cc

spoken : (content : Content) (a : Advert) → advert_in content ≡ Some a → content ≡ Advertised a
spoken Withdrawn a e = cc
spoken (Advertised b) a e = let same : b ≡ a = cc in ap Advertised same

better_by : (f g : Bool) (m n : ℕ) (o p : Ordering) → (o ≡ Less → p ≡ Less) → IsBetterBy f g m n o
    → IsBetterBy f g m n p
better_by true true m n o p t h = (h.0, λ e. t (h.1 e))
better_by true false m n o p t h = tt
better_by false true m n o p t h = absurd h
better_by false false m n o p t h = (h.0, λ e. t (h.1 e))

-- of registers of one address of different originators the one of the lower originator comes first
lower_first : (vni mac o p : ℕ) (i j : Option Ip) → p ≢ o
    → register_cmp (register_of o (Mac vni mac i)) (register_of p (Mac vni mac j)) ≡ Less → nat_cmp o p ≡ Less
lower_first vni mac o p i j ne e = go (nat_cmp o p) refl
    (sym (ap (λ x. ordering_then x (ordering_then (nat_cmp (mac + 1) (mac + 1))
    (ordering_then (nat_cmp o p) (ip_cmp i j)))) (tied_itself nat_cmp_total vni)
    ∙ ap (λ x. ordering_then x (ordering_then (nat_cmp o p) (ip_cmp i j))) (tied_itself nat_cmp_total (mac + 1))) ∙ e)
  where
    go : (x : Ordering) → nat_cmp o p ≡ x → ordering_then (nat_cmp o p) (ip_cmp i j) ≡ Less → nat_cmp o p ≡ Less
    go Less q h = q
    go Equal q h = absurd (ne (sym (exact_unsigned o p q)))
    go Greater q h = let no : ordering_then Greater (ip_cmp i j) ≡ Less = ap (λ x. ordering_then x (ip_cmp i j)) (sym q)
        ∙ h in cc

module _ (us ws : List Fields) (t : Table) (vni mac : ℕ) (m : AreMigrated us ws) (h : IsTableOf ws t) where
  -- a newest update's advert of the address is in the table
  says : (p : ℕ) (w : Fields) (i : IsNewest us (register_of p (Mac vni mac None)) w)
      → advert_at t p (Mac vni mac (address_register vni mac p w.register i.same).0) ≡ advert_in w.value.content
  says p w i =
      let r = address_register vni mac p w.register i.same in
      ap (λ (q : Register). advert_of (value_at t q)) (sym r.1)
      ∙ ap advert_of (value_of us ws m t h w (newest_written us ws m (register_of p (Mac vni mac None)) w i))

  unowned : IsUnowned t vni mac → IsOldUnowned us vni mac
  unowned n p w i = silent w.value.content (sym (says p w i) ∙ n p (address_register vni mac p w.register i.same).0)

  -- an advert that was written is its old register's newest update
  advertises : (r : Register) (u w : Fields) (a : Advert) → w ≡ migrated_at u r → w.value.content ≡ Advertised a → w ≡ u
  advertises r u w a e c = go (is_eq (register_cmp u.register r)) refl
    where
      go : (b : Bool) → is_eq (register_cmp u.register r) ≡ b → w ≡ u
      go true q = e ∙ ap (λ b. cond b u (withdrawn_for u r)) q
      go false q = let x : w ≡ withdrawn_for u r = e ∙ ap (λ b. cond b u (withdrawn_for u r)) q in
          let y : Withdrawn ≡ Advertised a = ap (λ (z : Fields). z.value.content) (sym x) ∙ c in cc

  value_told : (o : Option Value) (a : Advert) → advert_of o ≡ Some a
      → (v : Value) × (o ≡ Some v) × (v.content ≡ Advertised a)
  value_told None a e = cc
  value_told (Some v) a e = (v, refl, spoken v.content a e)

  owned : (o : ℕ) → IsOwner t vni mac o → IsOldOwner us vni mac o
  owned o k =
      let r = register_of o (Mac vni mac k.ip) in
      let v = value_told (value_at t r) k.advert k.own in
      let w : Fields = record { register = r; value = v.0 } in
      let made = m.made w (h.from r v.0 v.1) in
      let same : w ≡ made.0 = advertises r made.0 w k.advert made.2 v.2 in
      record {
        update = w;
        advert = k.advert;
        newest = subst (IsNewest us (register_of o (Mac vni mac None))) (sym same)
            (newest_at us r (register_of o (Mac vni mac None)) made.0 (any_ip vni mac o k.ip) made.1);
        own = v.2;
        best = λ p x b ne i c.
            let q = address_register vni mac p x.register i.same in
            better_by k.advert.is_static b.is_static k.advert.sequence b.sequence
            (register_cmp r (register_of p (Mac vni mac q.0))) (nat_cmp o p) (lower_first vni mac o p k.ip q.0 ne)
            (k.best p q.0 b (λ e. ne (ap (λ (y : Register). y.originator) e)) (says p x i ∙ ap advert_in c));
      }

pub same_owners : SameOwners
same_owners us ws t vni mac m h = go (owner t vni mac) (owner_is t vni mac)
  where
    go : (o : Option ℕ) → MatchOption o (IsUnowned t vni mac) (IsOwner t vni mac)
        → MatchOption o (IsOldUnowned us vni mac) (IsOldOwner us vni mac)
    go None k = unowned us ws t vni mac m h k
    go (Some o) k = owned us ws t vni mac m h o k

-- ---- replaced registers

-- of an update that isn't newer, incarnation and counter aren't higher
lex_not_less : (m n : ℕ) (o : Ordering) → is_lt (ordering_then (nat_cmp m n) o) ≡ false
    → (n ≤ m) × (m ≡ n → is_lt o ≡ false)
lex_not_less m n o e = go (nat_cmp m n) refl e
  where
    go : (x : Ordering) → nat_cmp m n ≡ x → is_lt (ordering_then x o) ≡ false → (n ≤ m) × (m ≡ n → is_lt o ≡ false)
    go Less p h = cc
    go Equal p h = let l = ranked m n Equal (sym p) in (omega arith, λ s. h)
    go Greater p h = let l = ranked m n Greater (sym p) in (omega arith, λ s. absurd (omega arith))

older : (u x : Fields) (r : Register) → is_newer_old x u ≡ false
    → (x.value.incarnation ≡ u.value.incarnation → x.value.counter ≢ u.value.counter)
    → is_newer (withdrawn_for u r).value x.value ≡ true
older u x r e ne =
    let i = lex_not_less u.value.incarnation x.value.incarnation _ e in
    next_newer x.value (withdrawn_for u r).value i.0 (λ s.
    let c = lex_not_less u.value.counter x.value.counter _ (i.1 (sym s)) in
    let d = ne s in
    let c0 = c.0 in
    grind (arith, nat_tests))

pub stays_away : StaysAway
stays_away us ws olds t u w m old h i c ne later = n.1 ∙ ap Some
    (go (Contains-append_cases ws olds (record { register = w.register; value = n.0 }) (h.from w.register n.0 n.1)))
  where
    x : Fields
    x = withdrawn_for u w.register

    written : Contains ws x
    written = replaced_written us ws m w u i c ne

    n : (v : Value) × (value_at t w.register ≡ Some v) × (is_newer x.value v ≡ false)
    n = h.newest x (Contains-append_left ws olds x written)

    go : Contains ws (record { register = w.register; value = n.0 })
        ⊎ Contains olds (record { register = w.register; value = n.0 }) → n.0 ≡ x.value
    go (inl d) = one_written us ws m w.register n.0 x.value d written
    go (inr d) =
        let y : Fields = record { register = w.register; value = n.0 } in
        let no : is_newer x.value n.0 ≡ true = older u y w.register (i.newest y (old y d) (same_itself w.register))
        (later y d refl) in
        absurd (let a : true ≡ false = sym no ∙ n.2 in cc)
