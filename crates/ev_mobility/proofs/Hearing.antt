-- The fold over all updates of an address gives the adverts of the other edges.
use Rattle.std.proofs.Common.{◌≡◌, ◌≢◌, ◌⊎◌, inl, inr, ℕ, zero, suc, ◌+◌, ◌<◌, ◌≤◌, ◌^◌, Bool, true, false, cond, eqb}
use Rattle.std.proofs.Common.{Option, Some, None, List, [], ◌∷◌, length, Contains, refl, sym, ap, subst, ◌∙◌, arith}
use Rattle.std.specs.Prelude.{◌||◌, nat_lt, slice_index_or}
use Rattle.std.proofs.lemmas.Bool.{eq-eqb, ne_eqb}
use Rattle.std.proofs.lemmas.Bool.Decides.{nat_tests}
use Rattle.ev_mobility.specs.declared.seq.Heard.{Heard}
use Rattle.ev_mobility.specs.declared.seq.Seq.TheVariants.{Next, Static, Spent}
use Rattle.route_wire.specs.declared.update.Key.TheVariants.{Mac}
use Rattle.route_wire.specs.declared.update.Advert.{Advert}
use Rattle.route_wire.specs.declared.update.Value.{Value}
use Rattle.route_wire.specs.Fields.{Fields}
use Rattle.route_join.specs.Table.{Table, value_at, register_of}
use Rattle.route_join.specs.Owner.{advert_in, advert_of}
use Rattle.route_join.specs.Updates.{AreUpdatesOf}
use Rattle.route_join.proofs.Subjects.{address_key, about_address, about_itself}
use Rattle.ev_mobility.specs.Seq.{Elsewhere, EveryElsewhere, IsSeqFor, foreign_in, greater_of, heard, heard_all}
use Rattle.ev_mobility.specs.Seq.{nothing_heard, seq_above, seq_of}
use Rattle.route_join.proofs.Basics.{first_there as first}

-- one of the updates is another edge's advert
pub record Among (own : ℕ) (us : List Fields) (P : Advert → Type 0) : Type 0 where
  pub update : Fields
  pub there : Contains us update
  pub advert : Advert
  pub is : foreign_in own update ≡ Some advert
  pub so : P advert

abbrev Each : ℕ → List Fields → (Advert → Type 0) → Type 0
Each own us P = (u : Fields) (a : Advert) → Contains us u → foreign_in own u ≡ Some a → P a

pub record Says (own : ℕ) (us : List Fields) (h k : Heard) : Type 0 where
  pub fixed : k.is_static ≡ true → (h.is_static ≡ true) ⊎ Among own us (λ a. a.is_static ≡ true)
  pub loose : k.is_static ≡ false → (h.is_static ≡ false) × Each own us (λ a. a.is_static ≡ false)
  pub from : (g : ℕ) → k.greatest ≡ Some g → (h.greatest ≡ Some g) ⊎ Among own us (λ a. a.sequence ≡ g)
  pub most : (g : ℕ) → k.greatest ≡ Some g → ((m : ℕ) → h.greatest ≡ Some m → m ≤ g) × Each own us (λ a. a.sequence ≤ g)
  pub silent : k.greatest ≡ None → (h.greatest ≡ None) × Each own us (λ a. ⊥)

later : (u w : Fields) (us : List Fields) → Contains us w → Contains (u ∷ us) w
later u w us c = (suc c.0, (let less = c.1 in omega (arith, less)), c.2)

parts : (u w : Fields) (us : List Fields) → Contains (u ∷ us) w → (u ≡ w) ⊎ Contains us w
parts u w us c = go c.0 c.1 c.2
  where
    go : (k : ℕ) → k < length (u ∷ us) → slice_index_or (u ∷ us) k w ≡ w → (u ≡ w) ⊎ Contains us w
    go zero less is = inl is
    go (suc k) less is = inr (k, omega (arith, less), is)

more : (own : ℕ) (u : Fields) (us : List Fields) (P : Advert → Type 0) → Among own us P → Among own (u ∷ us) P
more own u us P m = record {
  update = m.update;
  there = later u m.update us m.there;
  advert = m.advert;
  is = m.is;
  so = m.so;
}

-- one more update, a withdrawal or an advert
pub says_more : (own : ℕ) (u : Fields) (us : List Fields) (h k : Heard) (o : Option Advert) → foreign_in own u ≡ o
    → Says own us (heard h o) k → Says own (u ∷ us) h k
says_more own u us h k None is s = record {
  fixed = λ e. elim (s.fixed e) as (λ _. (h.is_static ≡ true)
      ⊎ Among own (u ∷ us) (λ a. a.is_static ≡ true)) [ inl x ↦ inl x | inr m ↦ inr (more own u us _ m) ];
  loose = λ e. ((s.loose e).0, each (λ a. a.is_static ≡ false) (s.loose e).1);
  from = λ g e. elim (s.from g e) as (λ _. (h.greatest ≡ Some g)
      ⊎ Among own (u ∷ us) (λ a. a.sequence ≡ g)) [ inl x ↦ inl x | inr m ↦ inr (more own u us _ m) ];
  most = λ g e. ((s.most g e).0, each (λ a. a.sequence ≤ g) (s.most g e).1);
  silent = λ e. ((s.silent e).0, each (λ a. ⊥) (s.silent e).1);
}
  where
    each : (P : Advert → Type 0) → Each own us P → Each own (u ∷ us) P
    each P rest w a c at = elim (parts u w us c) as (λ _. P a) [
      | inl same ↦ absurd (let no : None ≡ Some a = sym is ∙ ap (foreign_in own) same ∙ at in cc)
      | inr there ↦ rest w a there at
    ]
says_more own u us h k (Some b) is s = record {
  fixed = λ e. elim (s.fixed e) as (λ _. (h.is_static ≡ true) ⊎ Among own (u ∷ us) (λ a. a.is_static ≡ true)) [
    | inl x ↦ either h.is_static refl x
    | inr m ↦ inr (more own u us _ m)
  ];
  loose = λ e. let n = neither h.is_static b.is_static (s.loose e).0 in
      (n.0, each (λ a. a.is_static ≡ false) n.1 (s.loose e).1);
  from = λ g e. elim (s.from g e) as (λ _. (h.greatest ≡ Some g) ⊎ Among own (u ∷ us) (λ a. a.sequence ≡ g)) [
    | inl x ↦ pick h.greatest g x
    | inr m ↦ inr (more own u us _ m)
  ];
  most = λ g e.
      let low : greater_of h.greatest b.sequence ≤ g = (s.most g e).0 (greater_of h.greatest b.sequence) refl in
      (λ m at. above h.greatest m g at low, each (λ a. a.sequence ≤ g) (below h.greatest g low) (s.most g e).1);
  silent = λ e. absurd (let no : Some (greater_of h.greatest b.sequence) ≡ None = (s.silent e).0 in cc);
}
  where
    this : (P : Advert → Type 0) → P b → Among own (u ∷ us) P
    this P p = record { update = u; there = first u us; advert = b; is = is; so = p }

    each : (P : Advert → Type 0) → P b → Each own us P → Each own (u ∷ us) P
    each P here rest w a c at = elim (parts u w us c) as (λ _. P a) [
      | inl same ↦ (let equal : b ≡ a = (let h : Some b ≡ Some a = sym is ∙ ap (foreign_in own) same ∙ at in cc) in
          subst P equal here)
      | inr there ↦ rest w a there at
    ]

    either : (x : Bool) → h.is_static ≡ x → x || b.is_static ≡ true
        → (h.is_static ≡ true) ⊎ Among own (u ∷ us) (λ a. a.is_static ≡ true)
    either true p e = inl p
    either false p e = inr (this (λ a. a.is_static ≡ true) e)

    neither : (x y : Bool) → x || y ≡ false → (x ≡ false) × (y ≡ false)
    neither false false e = (refl, refl)
    neither true y e = cc
    neither false true e = cc

    pick : (o : Option ℕ) (g : ℕ) → Some (greater_of o b.sequence) ≡ Some g
        → (o ≡ Some g) ⊎ Among own (u ∷ us) (λ a. a.sequence ≡ g)
    pick None g e = inr (this (λ a. a.sequence ≡ g) cc)
    pick (Some m) g e = go (nat_lt m b.sequence) e
      where
        go : (t : Bool) → Some (cond t b.sequence m) ≡ Some g
            → (Some m ≡ Some g) ⊎ Among own (u ∷ us) (λ a. a.sequence ≡ g)
        go true e = inr (this (λ a. a.sequence ≡ g) cc)
        go false e = inl e

    above : (o : Option ℕ) (m g : ℕ) → o ≡ Some m → greater_of o b.sequence ≤ g → m ≤ g
    above None m g at low = cc
    above (Some n) m g at low = let same : n ≡ m = cc in go (nat_lt n b.sequence) refl same low
      where
        go : (t : Bool) → nat_lt n b.sequence ≡ t → n ≡ m → cond t b.sequence n ≤ g → m ≤ g
        go true e same low = (let less : n < b.sequence = grind (arith, nat_tests) in omega (arith, less, same, low))
        go false e same low = omega (arith, same, low)

    below : (o : Option ℕ) (g : ℕ) → greater_of o b.sequence ≤ g → b.sequence ≤ g
    below None g low = low
    below (Some n) g low = go (nat_lt n b.sequence) refl low
      where
        go : (t : Bool) → nat_lt n b.sequence ≡ t → cond t b.sequence n ≤ g → b.sequence ≤ g
        go true e low = low
        go false e low = (let less : b.sequence ≤ n = grind (arith, nat_tests) in omega (arith, less, low))

pub says : (own : ℕ) (us : List Fields) (h : Heard) → Says own us h (heard_all own us h)
says own [] h = record {
  fixed = λ e. inl e;
  loose = λ e. (e, λ u a c. let less = c.1 in absurd (omega (arith, less)));
  from = λ g e. inl e;
  most = λ g e. (
    λ m at. (let same : m ≡ g = cc in omega (arith, same)),
    λ u a c. let less = c.1 in
        absurd (omega (arith, less)),
  );
  silent = λ e. (e, λ u a c. let less = c.1 in absurd (omega (arith, less)));
}
says own (u ∷ us) h = says_more own u us h (heard_all own (u ∷ us) h) (foreign_in own u) refl
    (says own us (heard h (foreign_in own u)))

-- ---- so it is the adverts of others
foreign_is : (own : ℕ) (u : Fields) (a : Advert) → foreign_in own u ≡ Some a
    → (u.register.originator ≢ own) × (advert_in u.value.content ≡ Some a)
foreign_is own u a e = go (eqb u.register.originator own) refl e
  where
    go : (b : Bool) → eqb u.register.originator own ≡ b → cond b None (advert_in u.value.content) ≡ Some a
        → (u.register.originator ≢ own) × (advert_in u.value.content ≡ Some a)
    go true t e = cc
    go false t e = (λ same. let yes = eq-eqb u.register.originator own same in cc, e)

module _ (t : Table) (own vni mac : ℕ) (us : List Fields) (are : AreUpdatesOf t vni mac us) where
  elsewhere : (P : Advert → Type 0) → Among own us P → Elsewhere t own vni mac P
  elsewhere P m =
      let u = m.update in
      let key = address_key vni mac u.register.key (about_address vni mac u.register.key (are.about u m.there)) in
      let foreign = foreign_is own u m.advert m.is in
      let named : u.register ≡ register_of u.register.originator (Mac vni mac key.0) =
      (λ i. register_of u.register.originator (key.1 i)) in
      record {
        originator = u.register.originator;
        ip = key.0;
        advert = m.advert;
        other = foreign.0;
        is = ap (λ r. advert_of (value_at t r)) (sym named) ∙ ap advert_of (are.own u m.there) ∙ foreign.1;
        so = m.so;
      }

  every : (P : Advert → Type 0) → Each own us P → EveryElsewhere t own vni mac P
  every P each o ip a other is = go (value_at t (register_of o (Mac vni mac ip))) refl is
    where
      go : (v : Option Value) → value_at t (register_of o (Mac vni mac ip)) ≡ v → advert_of v ≡ Some a → P a
      go None at is = cc
      go (Some v) at is =
          let u : Fields = record { register = register_of o (Mac vni mac ip); value = v } in
          let said : foreign_in own u ≡ Some a = ap (λ b. cond b None (advert_in v.content)) (ne_eqb o own other)
          ∙ is in
          each u a (are.all (register_of o (Mac vni mac ip)) v (about_itself vni mac (Mac vni mac ip) refl) at) said

  abbrev all : Heard
  all = heard_all own us nothing_heard

  loose : all.is_static ≡ false → EveryElsewhere t own vni mac (λ a. a.is_static ≡ false)
  loose e = every (λ a. a.is_static ≡ false) ((says own us nothing_heard).loose e).1

  fixed : all.is_static ≡ true → Elsewhere t own vni mac (λ a. a.is_static ≡ true)
  fixed e = elim ((says own us nothing_heard).fixed e) as (λ _. Elsewhere t own vni mac (λ a. a.is_static ≡ true)) [
    | inl
        x ↦ absurd (let no : false ≡ true = x in cc)
    | inr m ↦ elsewhere (λ a. a.is_static ≡ true) m
  ]

  greatest : (g : ℕ) → all.greatest ≡ Some g → Elsewhere t own vni mac (λ a. a.sequence ≡ g)
  greatest g e = elim ((says own us nothing_heard).from g e) as (λ _. Elsewhere t own vni mac
      (λ a. a.sequence ≡ g)) [
        | inl x ↦ absurd (let no : None ≡ Some g = x in cc)
        | inr m ↦ elsewhere (λ a. a.sequence ≡ g) m
      ]

  one_more : (g n : ℕ) → g + 1 ≡ n → Elsewhere t own vni mac (λ a. a.sequence ≡ g)
      → Elsewhere t own vni mac (λ a. a.sequence + 1 ≡ n)
  one_more g n up w = record {
    originator = w.originator;
    ip = w.ip;
    advert = w.advert;
    other = w.other;
    is = w.is;
    so = (let same = w.so in omega (arith, same, up));
  }

  by_greatest : all.is_static ≡ false → (o : Option ℕ) → all.greatest ≡ o → IsSeqFor t own vni mac (seq_above o)
  by_greatest e None p = (
    loose e,
    every (λ a. a.sequence < 0)
        (λ u a c is. absurd (((says own us nothing_heard).silent p).1 u a c is)),
    inl refl,
  )
  by_greatest e (Some g) p = go (eqb g 4294967295) refl
    where
      below : (a : Advert) → a.sequence ≤ g → a.sequence < g + 1
      below a h = omega (arith, h)

      go : (b : Bool) → eqb g 4294967295 ≡ b → IsSeqFor t own vni mac (cond b Spent (Next (g + 1)))
      go true q = (
        loose e,
        one_more g (2 ^ 32) (let top : g ≡ 4294967295 = grind (arith, nat_tests) in
            omega (arith, top)) (greatest g p),
      )
      go false q = (
        loose e,
        every (λ a. a.sequence < g + 1)
            (λ u a c is. below a (((says own us nothing_heard).most g p).1 u a c is)),
        inr (one_more g (g + 1) refl (greatest g p)),
      )

  pub seq_is : IsSeqFor t own vni mac (seq_of all)
  seq_is = go all.is_static refl
    where
      go : (b : Bool) → all.is_static ≡ b → IsSeqFor t own vni mac (cond b Static (seq_above all.greatest))
      go true e = fixed e
      go false e = by_greatest e all.greatest refl
