-- the invariant after the flood lists are advertised
use Rattle.std.proofs.Common.{◌≡◌, ◌≢◌, ◌⊎◌, inl, inr, ℕ, zero, suc, ◌+◌, ◌≤◌, ◌<◌, Some, None, List, [], ◌∷◌, length}
use Rattle.std.proofs.Common.{get_or, refl, sym, ap, subst, ◌∙◌, arith}
use Rattle.std.specs.Prelude.{IsSome, Contains, ◌↔◌}
use Rattle.std.specs.List.{refill}
use Rattle.std.specs.FinMap.{get-empty, len, len-empty}
use Rattle.std.proofs.lemmas.List.{length-replicate}
use Rattle.route_wire.specs.declared.update.Key.{Key}
use Rattle.route_wire.specs.declared.update.Key.TheVariants.{Flood, Mac}
use Rattle.route_wire.specs.declared.update.Content.TheVariants.{Advert as Advertised}
use Rattle.route_wire.specs.declared.update.Value.{Value}
use Rattle.route_wire.specs.Fields.{flood_advert}
use Rattle.route_wire.specs.Order.{register_cmp}
use Rattle.route_join.specs.Owner.{advert_of}
use Rattle.mac_arena.specs.declared.station.Station.{Station}
use Rattle.mac_arena.specs.declared.station.Entry.{Entry}
use Rattle.mac_arena.specs.Station.{station_cmp}
use Rattle.mac_arena.specs.Learning.{entry_at, nothing_learnt}
use Rattle.ev_claims.specs.Speaker.{Speaker, own_register, own_advert, after_originating, silent}
use Rattle.ev_claims.specs.Opening.{after_floods}
use Rattle.ev_claims.specs.LocalRoutes.{KeepsRoutes, routes_of}
use Rattle.ev_claims.proofs.Numbers.{key_or_other, own_same, key_stays}

-- other keys are as they were
pub floods_other : (e : Speaker) (vs : List ℕ) (k : Key) → ((v : ℕ) → k ≢ Flood v)
    → own_advert (after_floods e vs) k ≡ own_advert e k
floods_other e [] k ne = refl
floods_other e (v ∷ vs) k ne = floods_other (after_originating e (Flood v) (Advertised flood_advert)) vs k ne
    ∙ key_stays e (Flood v) (Advertised flood_advert) k e.address (ne v)

said_there : (e : Speaker) (v : ℕ) → IsSome (own_advert (after_originating e (Flood v) (Advertised flood_advert))
    (Flood v))
said_there e v = rw (ap advert_of (own_same e (Flood v) (Advertised flood_advert)))

-- one list more
floods_more : (e : Speaker) {w : ℕ} (ws : List ℕ) {v : ℕ}
    → IsSome (own_advert (after_floods (after_originating e (Flood w) (Advertised flood_advert)) ws) (Flood v))
    ↔ (IsSome (own_advert (after_originating e (Flood w) (Advertised flood_advert)) (Flood v)) ⊎ Contains ws v)
    → IsSome (own_advert (after_floods e (w ∷ ws)) (Flood v)) ↔ (IsSome (own_advert e (Flood v)) ⊎ Contains (w ∷ ws) v)
floods_more e {w} ws {v} rest = (
  λ p. elim (rest.0 p) [
    | inl there ↦ elim (key_or_other (Flood v) (Flood w)) [
      | inl same ↦ inr (0, omega arith, let is : v ≡ w = cc in sym is)
      | inr ne ↦ inl (subst IsSome (key_stays e (Flood w) (Advertised flood_advert) (Flood v) e.address ne) there)
    ]
    | inr later ↦ inr (suc later.0, (omega (arith, later.1)), later.2)
  ],
  λ q. elim q [
    | inl there ↦ elim (key_or_other (Flood v) (Flood w)) [
      | inl same ↦ rest.1 (inl (subst (λ k. IsSome (own_advert
          (after_originating e (Flood w) (Advertised flood_advert)) k))
          (sym same) (said_there e w)))
      | inr ne ↦ rest.1 (inl (subst IsSome (sym (key_stays e (Flood w) (Advertised flood_advert) (Flood v) e.address
          ne)) there))
    ]
    | inr c ↦ among c.0 c.1 c.2
  ],
)
  where
    among : (k : ℕ) → k < length (w ∷ ws) → get_or (w ∷ ws) k v ≡ v
        → IsSome (own_advert (after_floods (after_originating e (Flood w) (Advertised flood_advert)) ws) (Flood v))
    among zero less is = rest.1 (inl (subst (λ x. IsSome
        (own_advert (after_originating e (Flood w) (Advertised flood_advert)) (Flood x))) is (said_there e w)))
    among (suc k) less is = rest.1 (inr (k, omega (arith, less), is))

-- a flood list was advertised before, or is advertised now
pub floods_are : (e : Speaker) (vs : List ℕ) (v : ℕ) → IsSome (own_advert (after_floods e vs) (Flood v))
    ↔ (IsSome (own_advert e (Flood v)) ⊎ Contains vs v)
floods_are e [] v = (
  λ p. inl p,
  λ q. elim q [
    | inl p ↦ p
    | inr c ↦ absurd (omega (arith, c.1))
  ],
)
floods_are e (w ∷ ws) v = floods_more e ws (floods_are (after_originating e (Flood w) (Advertised flood_advert)) ws
    v)

pub floods_counter : (e : Speaker) (vs : List ℕ) → (after_floods e vs).counter ≡ e.counter + length vs
floods_counter e [] = omega arith
floods_counter e (v ∷ vs) = omega (arith, floods_counter (after_originating e (Flood v) (Advertised flood_advert)) vs)

nothing_said : (address incarnation : ℕ) (originators : List ℕ) (k : Key)
    → own_advert (silent address incarnation originators) k ≡ None
nothing_said address incarnation originators k = rw (get-empty {X = Value} register_cmp (own_register
    (silent address incarnation originators) k))

nobody : (capacity ports buckets salt : ℕ) (s : Station)
    → entry_at (nothing_learnt capacity ports buckets salt) s ≡ None
nobody capacity ports buckets salt s = get-empty {X = Entry} station_cmp s

pub opened_routes : (address incarnation : ℕ) (originators vs ports : List ℕ) (capacity buckets salt : ℕ)
    → capacity ≤ 65536 → length ports ≤ 64 → length vs ≤ 64
    → KeepsRoutes (routes_of (after_floods (silent address incarnation originators) vs)
    (nothing_learnt capacity (length ports) buckets salt) ports vs)
opened_routes address incarnation originators vs ports capacity buckets salt small few listed = record {
  kinds = λ s. rw (nobody capacity (length ports) buckets salt s, none (Mac s.vni s.mac None) (λ v q. cc));
  bare = λ s ip. none (Mac s.vni s.mac (Some ip)) (λ v q. cc);
  ports = λ s x at. absurd (cc (sym (nobody capacity (length ports) buckets salt s) ∙ at));
  floods = λ v. (
    λ p. elim ((floods_are start vs v).0 p) [
      | inl there ↦ absurd (let bad = rw (nothing_said address incarnation originators (Flood v)) at there in cc)
      | inr c ↦ c
    ],
    λ c. (floods_are start vs v).1 (inr c),
  );
  fits = omega (arith, empty, places);
  small = omega (arith, places, small);
  left = omega (arith, empty, places, floods_counter start vs, listed);
  lists = length-replicate (length ports) [];
  few = few;
}
  where
    start : Speaker
    start = silent address incarnation originators

    none : (k : Key) → ((v : ℕ) → k ≢ Flood v) → own_advert (after_floods (silent address incarnation originators) vs) k
        ≡ None
    none k ne = floods_other start vs k ne ∙ nothing_said address incarnation originators k

    empty : len (nothing_learnt capacity (length ports) buckets salt).entries ≡ 0
    empty = len-empty station_cmp Entry

    places : length (nothing_learnt capacity (length ports) buckets salt).places ≡ capacity
    places = length-replicate capacity None

-- a list that is written over another of its length
pub refilled : (xs ws : List ℕ) → length ws ≡ length xs → refill (length xs) xs ws ≡ ws
refilled [] [] same = refl
refilled [] (w ∷ ws) same = absurd (omega (arith, same))
refilled (x ∷ xs) [] same = absurd (omega (arith, same))
refilled (x ∷ xs) (w ∷ ws) same = rw (refilled xs ws (omega (arith, same)))
