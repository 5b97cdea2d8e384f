-- An edge as it is opened, and a fabric of edges as they are opened.
use Rattle.std.proofs.Common.{◌≡◌, inl, inr, ℕ, zero, suc, ◌+◌, ◌<◌, ◌++◌, take, true, false, Some, List, [], ◌∷◌}
use Rattle.std.proofs.Common.{length, refl, sym, ap, ◌∙◌, arith, length-take-le, option_map}
use Rattle.std.proofs.lemmas.Bool.{eq-eqb}
use Rattle.std.proofs.lemmas.Option.{slice_get_within, slice_get-map}
use Rattle.std.specs.Prelude.{Contains, slice_get, eqb}
use Rattle.std.specs.List.{IsDistinct, AllByRecursion}
use Rattle.route_wire.specs.declared.update.Key.TheVariants.{Flood}
use Rattle.route_wire.specs.declared.update.Content.TheVariants.{Advert as Advertised}
use Rattle.route_wire.specs.Fields.{Fields, flood_advert}
use Rattle.std.specs.FinMap.{get, empty, get-empty}
use Rattle.route_wire.specs.declared.update.Register.{Register}
use Rattle.route_wire.specs.declared.update.Value.{Value}
use Rattle.route_wire.specs.Order.{register_cmp}
use Rattle.route_join.specs.Table.{value_at}
use Rattle.ev_claims.specs.Speaker.{Speaker, after_originating, silent}
use Rattle.ev_claims.proofs.Hearing.{silent_speaker}
use Rattle.ev_claims.specs.Opening.{after_floods}
use Rattle.ev_edge.specs.declared.config.EdgeConfig.{EdgeConfig}
use Rattle.ev_edge.specs.Config.{IsConfig}
use Rattle.ev_edge.specs.Edge.{Edge, IsGoodEdge, address_of}
use Rattle.ev_edge.specs.Opening.{IsOpening}
use Rattle.ev_edge.proofs.Places.{any_is}
use Rattle.ev_fabric.specs.Fabric.{Fabric, IsEdge, addresses_of}
use Rattle.ev_fabric.specs.Opening.{AreConfigs, AreOpened, IsStart}
use Rattle.ev_fabric.specs.Steps.{in_incarnation}
use Rattle.ev_fabric.specs.Sound.{IsTold, IsOf, IsSound}
use Rattle.ev_fabric.proofs.Voices.{Talks, Quiet, Says, talks_one, talks_told, talks_further}
use Rattle.ev_fabric.proofs.Places.{contains_at, there_at, take_get, get_take, push_get, push_length}

-- an opening is a list of own updates
floods_talk : (e : Speaker) (vs : List ℕ) → Talks e (after_floods e vs)
floods_talk e [] = Quiet
floods_talk e (v ∷ vs) = talks_further
    (Says e (Flood v) (Advertised flood_advert) refl Quiet) (floods_talk
    (after_originating e (Flood v) (Advertised flood_advert))
    vs)

abbrev start_speaker : EdgeConfig → Speaker
start_speaker c = silent c.address c.incarnation c.originators.items

opened_talks : {c : EdgeConfig} {a : Edge} → IsOpening c a → Talks (start_speaker c) a.routes.speaker
opened_talks {c} {a} h = rw h.routes.speaker (floods_talk (start_speaker c) a.routes.vnis)

pub opened_of : {c : EdgeConfig} {a : Edge} → IsConfig c → IsOpening c a → IsOf c a
opened_of fit h = let one = talks_one (opened_talks h) in
    assumption

nothing_there : (e : Speaker) (r : Register) {v : Value} → e.table.registers ≡ empty → value_at e.table r ≡ Some v → ⊥
nothing_there e r is at = let none = ap (λ m. get m r) is ∙ get-empty {X = Value} register_cmp r in
    cc (sym none ∙ at)

-- there are no own values yet, and each update announced under this address is of an earlier incarnation
silent_told : (pool : List Fields) (address incarnation : ℕ) (originators : List ℕ)
    → ((u : Fields) → Contains pool u → u.register.originator ≡ address → u.value.incarnation < incarnation)
    → IsTold pool (silent address incarnation originators)
silent_told pool address incarnation originators earlier = record {
  foreign = λ r v other is. absurd (nothing_there (silent address incarnation originators) r refl is);
  own = λ r v mine is quiet. absurd (nothing_there (silent address incarnation originators) r refl is);
  behind = λ u in' mine. inl (earlier u in' mine);
}

pub opened_told : (pool : List Fields) {c : EdgeConfig} {a : Edge} → IsConfig c → IsOpening c a
    → ((u : Fields) → Contains pool u → u.register.originator ≡ c.address → u.value.incarnation < c.incarnation)
    → IsTold pool a.routes.speaker
opened_told pool {c} fit h earlier =
    talks_told (opened_talks h)
    (silent_speaker c.address c.incarnation c.originators.items fit.listed).numbers
    (silent_told pool c.address c.incarnation c.originators.items earlier)

-- ---- lists whose elements differ
all_at : {A : Type 0} (P : A → Type 0) (xs : List A) (j : ℕ) {y : A} → AllByRecursion P xs → slice_get xs j ≡ Some y
    → P y
all_at P [] j h is = cc
all_at P (x ∷ xs) zero {y} h is = let same : x ≡ y = cc in rw same at h.0
all_at P (x ∷ xs) (suc j) h is = all_at P xs j h.1 is

one_place : (xs : List ℕ) (i j : ℕ) {a : ℕ} → IsDistinct eqb xs → slice_get xs i ≡ Some a → slice_get xs j ≡ Some a → i
    ≡ j
unfolding IsDistinct
one_place [] i j h at_i at_j = cc
one_place (x ∷ xs) zero zero h at_i at_j = refl
one_place (x ∷ xs) zero (suc j) {a} h at_i at_j = let same : x ≡ a = cc in
    cc (all_at (λ y. eqb x y ≡ false) xs j h.0 at_j, eq-eqb x a same)
one_place (x ∷ xs) (suc i) zero {a} h at_i at_j = let same : x ≡ a = cc in
    cc (all_at (λ y. eqb x y ≡ false) xs i h.0 at_i, eq-eqb x a same)
one_place (x ∷ xs) (suc i) (suc j) h at_i at_j = ap suc (one_place xs i j h.1 at_i at_j)

address_at : (cs : List EdgeConfig) (i : ℕ) {c : EdgeConfig} → slice_get cs i ≡ Some c
    → slice_get (addresses_of cs) i ≡ Some c.address
address_at cs i is = slice_get-map (λ (d : EdgeConfig). d.address) cs i
    ∙ ap (option_map (λ (d : EdgeConfig). d.address)) is

-- ---- a fabric as it is opened

-- the configuration with which the edge at a place was opened
record HasConfig (cs : List EdgeConfig) (i : ℕ) (a : Edge) : Type 0 where
  config : EdgeConfig
  there : slice_get cs i ≡ Some config
  opened : IsOpening config a
  is_of : IsOf config a

has_config : {cs : List EdgeConfig} {f : Fabric} → AreConfigs cs → IsStart cs f → (i : ℕ) {a : Edge} → IsEdge f i a
    → HasConfig cs i a
has_config {cs} {f} fit h i {a} at =
    let c = there_at cs i (omega (arith, slice_get_within f.edges i a at, h.opened.count)) in
    let opened = h.opened.opened i c.0 a c.1 at in
    record {
      config = c.0;
      there = c.1;
      opened = opened;
      is_of = opened_of (fit.configs c.0 (contains_at cs i c.1)) opened;
    }

pub start_sound : (cs : List EdgeConfig) (f : Fabric) → AreConfigs cs → IsStart cs f → IsSound f
start_sound cs f fit h = record {
  apart = λ i j a b at_a at_b same.
      let x = has_config fit h i at_a in
      let y = has_config fit h j at_b in
      one_place (addresses_of cs) i j fit.apart
      (address_at cs i x.there ∙ ap Some (sym x.is_of.address))
      (address_at cs j y.there ∙ ap Some (sym y.is_of.address ∙ sym same));
  good = λ i a at. h.opened.good i a at;
  told = λ i a at.
      let x = has_config fit h i at in
      opened_told f.pool x.is_of.config x.opened (λ u in' mine. absurd (none in'));
  once = λ u w in' other same life number. absurd (none in');
  sources = λ u in'. absurd (none in');
  listed = λ i j a b at_a at_b.
      let x = has_config fit h i at_a in
      let y = has_config fit h j at_b in
      rw x.is_of.originators (sym (any_is true x.config.originators.items (address_of b) (
        (λ t. fit.listed x.config (contains_at cs i x.there) (address_of b)
            (rw y.is_of.address (contains_at (addresses_of cs) j (address_at cs j y.there)))),
        (λ in'. refl),
      )));
  count = rw h.configs (sym h.opened.count);
  configs = λ i c a at_c at_a.
      let x = has_config fit h i at_a in
      let same : x.config ≡ c = (let q : slice_get cs i ≡ Some c = rw h.configs at at_c in cc (x.there)) in
      rw same at x.is_of;
}
  where
    none : {u : Fields} → Contains f.pool u → ⊥
    none {u} in' = let in'' : Contains [] u = rw h.quiet at in' in omega (arith, in''.1)

-- one edge more is opened
pub opened_more : (cs : List EdgeConfig) {edges : List Edge} (i : ℕ) {c : EdgeConfig} {b : Edge} → i < length cs
    → slice_get cs i ≡ Some c → AreOpened (take i cs) edges → IsOpening c b → IsGoodEdge b
    → AreOpened (take (i + 1) cs) (edges ++ b ∷ [])
opened_more cs {edges} i {c} {b} less at h opened good = record {
  count = push_length edges b ∙ ap suc size ∙ sym (length-take-le (i + 1) cs (omega arith) ∙ (omega arith));
  opened = λ j d a at_d at_a. elim (push_get edges b j at_a) [
    | inl before ↦ h.opened j d a (get_take cs i j (omega (arith, slice_get_within edges j a before, size))
        (take_get cs (i + 1) j at_d).1) before
    | inr new ↦
        let place : j ≡ i = new.0 ∙ size in
        let same : d ≡ c = (let p : slice_get cs i ≡ Some d =
        rw place at (take_get cs (i + 1) j at_d).1 in cc) in
        rw new.1 (rw same opened)
  ];
  good = λ j a at_a. elim (push_get edges b j at_a) [
    | inl before ↦ h.good j a before
    | inr new ↦ rw new.1 good
  ];
}
  where
    size : length edges ≡ i
    size = h.count ∙ length-take-le i cs (omega arith)

pub fit_in_life : {c : EdgeConfig} (n : ℕ) → IsConfig c → IsConfig (in_incarnation c n)
fit_in_life n h = assumption
