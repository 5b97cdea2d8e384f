-- The storm limits of ports: they spare all other frames, no event changes them, and the edge takes on no more group
-- and unknown frames than they allow.
use Rattle.std.proofs.Common.{◌≡◌, ◌≢◌, ◌⊎◌, inl, inr, ℕ, zero, suc, ◌+◌, ◌-◌, ◌*◌, ◌<◌, ◌≤◌, Bool, true, false, cond}
use Rattle.std.proofs.Common.{◌&&◌, not, eqb, Option, Some, None, Result, Ok, Err, List, [], ◌∷◌, refl, ap}
use Rattle.std.proofs.Common.{◌∙◌, arith}
use Rattle.std.specs.Prelude.{is_some, slice_set}
use Rattle.std.proofs.Math.Bool.{and-false}
use Rattle.std.proofs.lemmas.Bool.{cases_Bool, cases_eq, eq-eqb, ne_eqb}
use Rattle.ether_wire.specs.Addr.{is_group}
use Rattle.ether_wire.specs.Ports.{place_of_port}
use Rattle.ev_edge.specs.declared.arrival.Arrival.{Arrival}
use Rattle.ev_edge.specs.declared.arrival.Arrival.TheVariants.{Dropped, Message, Data}
use Rattle.ev_edge.specs.declared.event.Event.{Event}
use Rattle.ev_edge.specs.declared.refusal.EdgeRefusal.TheVariants.{PortStorm}
use Rattle.ev_edge.specs.declared.refusal.Refusal.{Refusal}
use Rattle.ev_edge.specs.declared.refusal.Refusal.TheVariants.{Edge as OfEdge}
use Rattle.ev_edge.specs.declared.reply.Reply.{Reply}
use Rattle.ev_edge.specs.declared.storms.Storm.{Storm}
use Rattle.ev_edge.specs.Edge.{Edge}
use Rattle.ev_edge.specs.Limits.{is_met}
use Rattle.ev_edge.specs.Arrival.{port_arrival, frame_arrival, admitted}
use Rattle.ev_edge.specs.Storms.{storm_in, storm_at, taken_in, taking, with_taken, is_flooded, is_taken, is_stormy}
use Rattle.ev_edge.specs.Storms.{storms_with, taking_on}
use Rattle.ev_edge.specs.Steps.{Steps, FrameSteps, DataSteps}
use Rattle.ev_edge.specs.AwayLaws.{Entered}
use Rattle.ev_edge.specs.StormLaws.{floods, taken_at, TakesOnAll, StormsSpare, StormsCountNone, KeepsStormLimits}
use Rattle.ev_edge.specs.StormLaws.{StormsAreFew}
use Rattle.ev_edge.proofs.Admitting.{admits}
use Rattle.ev_edge.proofs.Cases.{learnt_by}
use Rattle.ev_edge.proofs.Limiting.{kind_of, bridge_rests, steps_limits}
use Rattle.ev_edge.proofs.Places.{there_port}
use Rattle.ev_edge.proofs.Quotas.{met_above}
use Rattle.ev_edge.proofs.Remaining.{data_port_of}
use Rattle.ev_edge.proofs.Spending.{times_more}

-- ---- one storm of a list is replaced

-- what counting doesn't change in one of them stays in all
same_in : {A : Type 0} (f : Storm → A) (storms : List Storm) (l : ℕ) (s : Storm) (n : ℕ)
    → f s ≡ f (storm_in storms l) → f (storm_in (slice_set storms l s) n) ≡ f (storm_in storms n)
same_in f [] l s n h = refl
same_in f (x ∷ xs) zero s zero h = h
same_in f (x ∷ xs) zero s (suc n) h = refl
same_in f (x ∷ xs) (suc l) s zero h = refl
same_in f (x ∷ xs) (suc l) s (suc n) h = same_in f xs l s n h

set_apart : (storms : List Storm) (l : ℕ) (s : Storm) (n : ℕ) → l ≢ n
    → storm_in (slice_set storms l s) n ≡ storm_in storms n
set_apart [] l s n ne = refl
set_apart (x ∷ xs) zero s zero ne = absurd (ne refl)
set_apart (x ∷ xs) zero s (suc n) ne = refl
set_apart (x ∷ xs) (suc l) s zero ne = refl
set_apart (x ∷ xs) (suc l) s (suc n) ne = set_apart xs l s n (λ same. ne (ap suc same))

-- one that has a limit is in the list
set_here : (storms : List Storm) (l : ℕ) (s : Storm) (limit : ℕ) → (storm_in storms l).limit ≡ Some limit
    → storm_in (slice_set storms l s) l ≡ s
set_here [] l s limit is = cc
set_here (x ∷ xs) zero s limit is = refl
set_here (x ∷ xs) (suc l) s limit is = set_here xs l s limit is

-- ---- frames that a limit doesn't concern

-- without a limit none is met
unmet : (limit : Option ℕ) (n : ℕ) (b : Bool) → (limit ≡ None) ⊎ (b ≡ false) → (is_met limit n && b) ≡ false
unmet limit n b (inl none) = rw none
unmet limit n b (inr out) = rw out (and-false (is_met limit n))

uncounted : (limit : Option ℕ) (b : Bool) → (limit ≡ None) ⊎ (b ≡ false) → (is_some limit && b) ≡ false
uncounted limit b (inl none) = rw none
uncounted limit b (inr out) = rw out (and-false (is_some limit))

pub storms_spare : StormsSpare
storms_spare e port octets h = go (port_arrival e port octets) h
  where
    go : (a : Result Arrival Refusal) → ((storm_at e.storms port).limit ≡ None) ⊎ (floods e a ≡ false)
        → admitted e port a ≡ a
    go (Err r) h = refl
    go (Ok Dropped) h = refl
    go (Ok (Message b)) h = refl
    go (Ok (Data vni destination source)) h = admits e port vni destination source
        (unmet (storm_at e.storms port).limit (taken_in (storm_at e.storms port) e.clock) (is_flooded e vni destination)
        h)

pub storms_count_none : StormsCountNone
storms_count_none e port vni destination h =
    rw (uncounted (storm_at e.storms port).limit (is_flooded e vni destination) h)

-- ---- each step

-- it takes on no such frame at the port, and the count of the port stays
record Quiet (p : ℕ) (event : Event) (e x : Edge) : Type 0 where
  none : taken_at p e event ≡ 0
  storm : storm_at x.storms p ≡ storm_at e.storms p
  later : e.clock ≤ x.clock

-- it takes on one at the port, and counts it
record TakesOne (p : ℕ) (event : Event) (e x : Edge) : Type 0 where
  one : taken_at p e event ≡ 1
  storm : storm_at x.storms p ≡ taking (storm_at e.storms p) e.clock
  clock : x.clock ≡ e.clock
  free : is_met (storm_at e.storms p).limit (taken_in (storm_at e.storms p) e.clock) ≡ false

abbrev Takes : ℕ → Event → Edge → Edge → Type 0
Takes p event e x = Quiet p event e x ⊎ TakesOne p event e x

-- the edge has learnt the source of a frame that it took on
after_data : (e : Edge) (port vni destination source : ℕ) (reply : Reply) (e' : Edge)
    → DataSteps (taking_on e port vni destination) port vni destination source reply e'
    → (e'.storms ≡ storms_with e port vni destination) × (e'.clock ≡ e.clock)
after_data e port vni destination source reply e' h =
    learnt_by (λ x. (x.storms ≡ storms_with e port vni destination) × (x.clock ≡ e.clock))
    (taking_on e port vni destination) (record { vni = vni; mac = source }) port reply.alert e' (refl, refl)
    (λ heard. (refl, refl)) (refl, refl) (λ new. (refl, refl)) (λ n new. (refl, refl))
    (h.learning.learns && not (is_group source)) h.learning.learning

-- a frame of a network came at a port
data_there : (e : Edge) (port : ℕ) (octets : List ℕ) (vni destination source : ℕ)
    → port_arrival e port octets ≡ Ok (Data vni destination source) → 0 < port
data_there e port octets vni destination source is =
    (there_port e.routes.ports port (rw (data_port_of e port octets vni destination source is))).0

-- nothing is taken on, by whatever of these tests
not_here : (b : Bool) → ◌≡◌ {A = ℕ} (cond b (cond false 1 0) 0) 0
not_here b = grind arith

same_port : (port p : ℕ) → 0 < port → 0 < p → place_of_port port ≡ place_of_port p → port ≡ p
same_port port p some some' same = omega (arith, some, some', same)

module _ (e : Edge) (event : Event) (p limit : ℕ) (some : 0 < p) (is : (storm_at e.storms p).limit ≡ Some limit)
    (port : ℕ) where
  abbrev counts : Bool → ℕ
  counts f = cond (eqb port p) (cond f 1 0) 0

  -- a frame of a network at the port itself, which the limit allows
  here : (vni destination : ℕ) (x : Edge) → port ≡ p → x.storms ≡ storms_with e port vni destination
      → x.clock ≡ e.clock → is_stormy e port vni destination ≡ false → (f : Bool)
      → is_flooded e vni destination ≡ f → taken_at p e event ≡ cond f 1 0 → Takes p event e x
  here vni destination x same storms clock calm true f taken = inr (record {
    one = taken;
    storm = let counted : storms_with e p vni destination ≡ with_taken e.storms p e.clock = rw (is, f) in
        rw (storms, same, counted)
        (set_here e.storms (place_of_port p) (taking (storm_at e.storms p) e.clock) limit is);
    clock = clock;
    free = (let free = rw (same, f) at calm in grind (arith, free));
  })
  here vni destination x same storms clock calm false f taken = inl (record {
    none = taken;
    storm = rw storms (ap (λ (y : Edge). storm_at y.storms p) (storms_count_none e port vni destination (inr f)));
    later = omega (arith, clock);
  })

  -- at another port
  elsewhere : (vni destination : ℕ) (x : Edge) → 0 < port → port ≢ p → x.storms ≡ storms_with e port vni destination
      → x.clock ≡ e.clock → taken_at p e event ≡ 0 → Takes p event e x
  elsewhere vni destination x there ne storms clock none = inl (record {
    none = none;
    storm = rw storms (elim (cases_Bool (is_taken e port vni destination)) [
      | inl t ↦ rw t (set_apart e.storms (place_of_port port) (taking (storm_at e.storms port) e.clock) (place_of_port
          p)
          (λ same. ne (same_port port p there some same)))
      | inr t ↦ rw t
    ]);
    later = omega (arith, clock);
  })

  -- nothing changed
  stays : (x : Edge) → x ≡ e → taken_at p e event ≡ 0 → Takes p event e x
  stays x same none = rw same (inl (record { none = none; storm = refl; later = omega arith }))

  of_data : (vni destination source : ℕ) (result : Result Reply Refusal) (x : Edge) → 0 < port → (b : Bool)
      → is_stormy e port vni destination ≡ b
      → taken_at p e event ≡ cond (eqb port p) (cond (floods e (cond b (Err (OfEdge (PortStorm port)))
      (Ok (Data vni destination source)))) 1 0) 0
      → FrameSteps (cond b (Err (OfEdge (PortStorm port))) (Ok (Data vni destination source))) e port result x
      → Takes p event e x
  of_data vni destination source result x there true stormy taken h = stays x h.1 (taken ∙ not_here (eqb port p))
  of_data vni destination source (Err r) x there false calm taken h = absurd h
  of_data vni destination source (Ok reply) x there false calm taken h =
      let after = after_data e port vni destination source reply x h in
      elim (cases_eq port p) [
        | inl same ↦ here vni destination x same after.0 after.1 calm (is_flooded e vni destination) refl
            (rw (eq-eqb port p same) at taken)
        | inr ne ↦ elsewhere vni destination x there ne after.0 after.1 (rw (ne_eqb port p ne) at taken)
      ]

  of_frame : (a : Result Arrival Refusal) (result : Result Reply Refusal) (x : Edge)
      → ((vni destination source : ℕ) → a ≡ Ok (Data vni destination source) → 0 < port)
      → taken_at p e event ≡ counts (floods e (admitted e port a))
      → FrameSteps (admitted e port a) e port result x → Takes p event e x
  of_frame (Err r) result x there taken h = stays x h.1 (taken ∙ not_here (eqb port p))
  of_frame (Ok Dropped) result x there taken h = stays x h.1 (taken ∙ not_here (eqb port p))
  of_frame (Ok (Message b)) result x there taken h = let r = bridge_rests _ e result x h in inl (record {
    none = taken ∙ not_here (eqb port p);
    storm = rw r.storms;
    later = r.later;
  })
  of_frame (Ok (Data vni destination source)) result x there taken h =
      of_data vni destination source result x (there vni destination source refl) (is_stormy e port vni destination)
      refl taken h

step_takes : (e : Edge) (event : Event) (result : Result Reply Refusal) (x : Edge) (p limit : ℕ) → 0 < p
    → (storm_at e.storms p).limit ≡ Some limit → Steps e event result x → Takes p event e x
step_takes e event result x p limit some is h = elim (kind_of e event result x h) [
  | inl k ↦ inl (record { none = k.calm p; storm = rw k.rests.storms; later = k.rests.later })
  | inr (inl k) ↦ of_frame e event p limit some is k.port (port_arrival e k.port k.octets) result x
      (data_there e k.port k.octets) (k.taken p) k.steps
  | inr (inr k) ↦ inl (record { none = k.calm p; storm = rw k.storms; later = k.later })
]

-- ---- no event changes a limit

data_limit : (e : Edge) (port vni destination p : ℕ)
    → (storm_at (storms_with e port vni destination) p).limit ≡ (storm_at e.storms p).limit
data_limit e port vni destination p = elim (is_taken e port vni destination) as
    (λ b. (storm_at (cond b (with_taken e.storms port e.clock) e.storms) p).limit ≡ (storm_at e.storms p).limit) [
      | true ↦ same_in (λ (s : Storm). s.limit) e.storms (place_of_port port) (taking (storm_at e.storms port) e.clock)
          (place_of_port p) refl
      | false ↦ refl
    ]

frame_limit : (a : Result Arrival Refusal) (e : Edge) (port : ℕ) (result : Result Reply Refusal) (x : Edge) (p : ℕ)
    → FrameSteps a e port result x → (storm_at x.storms p).limit ≡ (storm_at e.storms p).limit
frame_limit (Err r) e port result x p h = rw h.1
frame_limit (Ok Dropped) e port result x p h = rw h.1
frame_limit (Ok (Message b)) e port result x p h = rw (bridge_rests _ e result x h).storms
frame_limit (Ok (Data vni destination source)) e port (Ok reply) x p h =
    rw (after_data e port vni destination source reply x h).0 (data_limit e port vni destination p)
frame_limit (Ok (Data vni destination source)) e port (Err r) x p h = absurd h

pub keeps_storm_limits : KeepsStormLimits
keeps_storm_limits e x event result p h = elim (kind_of e event result x h) [
  | inl k ↦ rw k.rests.storms
  | inr (inl k) ↦ frame_limit (frame_arrival e k.port k.octets) e k.port result x p k.steps
  | inr (inr k) ↦ rw k.storms
]

-- ---- a run

-- no time goes back
runs_later : (run : List Entered) (e e' : Edge) (p n : ℕ) → TakesOnAll p e run e' n → e.clock ≤ e'.clock
runs_later [] e e' p n h = let same = ap (λ (x : Edge). x.clock) h.0 in omega (arith, same)
runs_later (x ∷ run) e e' p n h = let first = (steps_limits e h.0 x.0 x.1 p h.1).1 in
    let rest = runs_later run h.0 e' p h.2 h.3 in omega (arith, first, rest)

-- how many frames the limit still allows in this second
abbrev left : Storm → ℕ → ℕ → ℕ
left s second limit = limit - taken_in s second

-- one that is taken on counts in its second
counted_in : (s : Storm) (second : ℕ) → taken_in (taking s second) second ≡ taken_in s second + 1
counted_in s second = rw (eq-eqb second second refl)

bounded : (run : List Entered) (e e' : Edge) (p limit n seconds : ℕ) → 0 < p
    → (storm_at e.storms p).limit ≡ Some limit → TakesOnAll p e run e' n → e'.clock ≤ e.clock + seconds
    → n ≤ left (storm_at e.storms p) e.clock limit + seconds * limit
bounded [] e e' p limit n seconds some is h below = let none = h.1 in omega (arith, none)
bounded (x ∷ run) e e' p limit n seconds some is h below =
    go (λ k less. bounded run h.0 e' p limit h.2 k some (keeps_storm_limits e h.0 x.0 x.1 p h.1 ∙ is) h.3 less)
    (step_takes e x.0 x.1 h.0 p limit some is h.1)
  where
    Later : Type 0
    Later = (k : ℕ) → e'.clock ≤ h.0.clock + k → h.2 ≤ left (storm_at h.0.storms p) h.0.clock limit + k * limit

    waits : Later → (k : ℕ) → e'.clock ≤ e.clock + k → e.clock < h.0.clock
        → h.2 ≤ left (storm_at e.storms p) e.clock limit + k * limit
    waits now zero less past =
        let end = runs_later run h.0 e' p h.2 h.3 in absurd (omega (arith, less, past, end))
    waits now (suc k) less past = let rest = now k (omega (arith, less, past)) in let more = times_more k limit in
        omega (arith, rest, more)

    go : Later → Takes p x.0 e h.0 → n ≤ left (storm_at e.storms p) e.clock limit + seconds * limit
    go now (inl quiet) =
        let later = quiet.later in
        let all : h.2 ≤ left (storm_at e.storms p) e.clock limit + seconds * limit =
        elim (cases_eq h.0.clock e.clock) [
          | inl same ↦ rw (same, quiet.storm) at (now seconds (omega (arith, below, same)))
          | inr ne ↦ waits now seconds below (omega (arith, ne, later))
        ] in
        let none = quiet.none in let sum = h.4 in omega (arith, none, sum, all)
    go now (inr one) =
        let c = one.clock in let sum = h.4 in let taken = one.one in
        let free = met_above (storm_at e.storms p).limit (taken_in (storm_at e.storms p) e.clock) limit one.free is in
        let rest = rw (c, one.storm, counted_in) at (now seconds (omega (arith, below, c))) in
        omega (arith, rest, free, sum, taken)

pub storms_are_few : StormsAreFew
storms_are_few run e e' port limit zero n some is h below =
    let end = runs_later run e e' port n h in absurd (omega (arith, below, end))
storms_are_few run e e' port limit (suc k) n some is h below =
    let all = bounded run e e' port limit n k some is h (omega (arith, below)) in
    let more = times_more k limit in omega (arith, all, more)
