-- A frame that left a bridge never comes in at it again: otherwise it would run in a circle, forwards or backwards.
use Rattle.std.proofs.Common.{◌≡◌, ◌≢◌, ℕ, zero, suc, ◌<◌, ◌≤◌, ◌⊎◌, inl, inr, Bool, true, false, eqb, List, [], ◌∷◌}
use Rattle.std.proofs.Common.{length, refl, sym, ap, ◌∙◌, arith}
use Rattle.std.proofs.lemmas.Bool.{eq-eqb, eqb-true}
use Rattle.ev_sites.specs.Network.{Spot, Network, IsNetwork, IsAtRest, PassesAt, Crosses, Travels, NoCircle}
use Rattle.ev_sites.proofs.Ways.{spot_same}

-- two ports are equal, or not
same_spot : (x y : Spot) → (x ≡ y) ⊎ (x ≢ y)
same_spot x y = bridges (eqb x.bridge y.bridge) refl
  where
    places : (b : Bool) → x.bridge ≡ y.bridge → eqb x.place y.place ≡ b → (x ≡ y) ⊎ (x ≢ y)
    places true bridge e = inl (spot_same bridge (eqb-true x.place y.place e))
    places false bridge e =
        inr (λ same. (cc (eq-eqb x.place y.place (ap (λ (z : Spot). z.place) same))))

    bridges : (b : Bool) → eqb x.bridge y.bridge ≡ b → (x ≡ y) ⊎ (x ≢ y)
    bridges true e = places (eqb x.place y.place) (eqb-true x.bridge y.bridge e) refl
    bridges false e =
        inr (λ same. (cc (eq-eqb x.bridge y.bridge (ap (λ (z : Spot). z.bridge) same))))

-- a way of one crossing or more
pub record IsWay (net : Network) (x y : Spot) : Type 0 where
  pub first : Spot
  pub later : List Spot
  pub way : Travels net (first ∷ later) x y

-- a way and one more crossing
pub longer : (net : Network) (ports : List Spot) (x u w : Spot) → Travels net ports x u → Crosses net u w
    → IsWay net x w
longer net [] x u w way hop = record { first = w; later = []; way = (rw way hop, refl) }
longer net (z ∷ later) x u w way hop =
    let rest = longer net later z u w way.1 hop in
    record { first = z; later = rest.first ∷ rest.later; way = (way.0, rest.way) }

-- a way and its last crossing
record EndsBy (net : Network) (ports : List Spot) (x w : Spot) : Type 0 where
  pub before : Spot
  pub first : List Spot
  pub way : Travels net first x before
  pub hop : Crosses net before w
  pub long : length ports ≡ suc (length first)

ends_by : (net : Network) (z : Spot) (later : List Spot) (x w : Spot) → Travels net (z ∷ later) x w
    → EndsBy net (z ∷ later) x w
ends_by net z [] x w way =
    record { before = x; first = []; way = refl; hop = rw way.1 at way.0; long = refl }
ends_by net z (v ∷ later) x w way =
    let rest = ends_by net v later z w way.1 in
    record {
      before = rest.before;
      first = z
          ∷ rest.first;
      way = (way.0, rest.way);
      hop = rest.hop;
      long = rw rest.long;
    }

-- frames pass at the end of a way
pub passes_at_end : (net : Network) (ports : List Spot) (x w : Spot) → PassesAt net x → Travels net ports x w
    → PassesAt net w
passes_at_end net [] x w passes way = (rw way at passes)
passes_at_end net (z ∷ later) x w passes way = passes_at_end net later z w way.0.arrives way.1

-- a frame left its bridge by o, crossed the segment, and came in at y
record Left (net : Network) (o y : Spot) : Type 0 where
  pub leaves : PassesAt net o
  pub arrives : PassesAt net y
  pub segment : net.segment o ≡ net.segment y
  pub apart : o ≢ y

module _ (law : NoCircle) (net : Network) (is : IsNetwork net) (rest : IsAtRest net) where
  no_way : (x : Spot) → IsWay net x x → ⊥
  no_way x way = (cc (law net is rest x (way.first ∷ way.later) way.way))

  -- no way of less than n crossings leads back
  abbrev NoneBelow : ℕ → Type 0
  NoneBelow n =
      (ports : List Spot) (o y w : Spot) → length ports < n → Left net o y → Travels net ports y w → w.bridge ≡ o.bridge
      → ⊥

  -- over the segment of y from its port to o: the way from there on, without its ends, would lead back too
  inner : (n : ℕ) → NoneBelow n → (first : List Spot) (y u w : Spot) → length first < n → Travels net first y u
      → (hop : Crosses net u w) → hop.out ≡ y → ⊥
  inner n none [] y u w few way hop was = hop.other (was ∙ way)
  inner n none (v ∷ between) y u w few way hop was =
      none between way.0.out v u (omega (arith, few)) (record {
        leaves = way.0.leaves;
        arrives = way.0.arrives;
        segment = way.0.segment;
        apart = way.0.apart;
      }) way.1
      (sym hop.bridge ∙ ap (λ (x : Spot). x.bridge) was ∙ sym way.0.bridge)

  -- back by o itself: the last crossing was over the same segment
  by_its_port : (n : ℕ) → NoneBelow n → (ports : List Spot) (o y w : Spot) → length ports ≤ n → Left net o y → o ≡ w
      → EndsBy net ports y w → ⊥
  by_its_port n none ports o y w few left one ends = go (same_spot ends.hop.out y)
    where
      joined : net.segment ends.hop.out ≡ net.segment y
      joined = ends.hop.segment ∙ ap net.segment (sym one) ∙ left.segment

      go : (ends.hop.out ≡ y) ⊎ (ends.hop.out ≢ y) → ⊥
      go (inl was) = inner n none ends.first y ends.before w (omega (arith, few, ends.long)) ends.way ends.hop was
      -- from a third port of the segment: it would have come to y, too
      go (inr third) =
          let hop : Crosses net ends.before y =
          record {
            out = ends.hop.out;
            bridge = ends.hop.bridge;
            other = ends.hop.other;
            segment = joined;
            apart = third;
            enters = ends.hop.enters;
            leaves = ends.hop.leaves;
            arrives = left.arrives;
          } in
          no_way y (longer net ends.first y ends.before y ends.way hop)

  back : (n : ℕ) → NoneBelow n
  back zero ports o y w few left way same = absurd (omega arith)
  -- the bridge that is entered at y is that of o: then out by o again
  back (suc n) [] o y w few left way same =
      let at_y : o.bridge ≡ y.bridge = sym same ∙ ap (λ (z : Spot). z.bridge) (sym way) in
      let hop : Crosses net y y =
      record {
        out = o;
        bridge = at_y;
        other = left.apart;
        segment = left.segment;
        apart = left.apart;
        enters = left.arrives;
        leaves = left.leaves;
        arrives = left.arrives;
      } in
      no_way y (longer net [] y y y refl hop)
  back (suc n) (z ∷ later) o y w few left way same =
      elim (same_spot o w) [
        -- back by another port: out by o again
        | inr other ↦ (
            let hop : Crosses net w y =
            record {
              out = o;
              bridge = sym same;
              other = other;
              segment = left.segment;
              apart = left.apart;
              enters =
                  passes_at_end net (z ∷ later) y w left.arrives way;
              leaves = left.leaves;
              arrives = left.arrives;
            } in
            no_way y (longer net (z ∷ later) y w y way hop))
        | inl one ↦ by_its_port n (back n) (z ∷ later) o y w (omega (arith, few)) left one (ends_by net z later y w way)
      ]

  pub never_back : (o y w : Spot) (ports : List Spot) → PassesAt net o → PassesAt net y → net.segment o ≡ net.segment y
      → o ≢ y → Travels net ports y w → w.bridge ≢ o.bridge
  never_back o y w ports leaves arrives segment apart way same =
      back (suc (length ports)) ports o y w (omega arith)
      (record { leaves = leaves; arrives = arrives; segment = segment; apart = apart }) way same
