-- The cases of a step: it names no edge or no update, or it is a step of the edge at a place.
use Rattle.std.proofs.Common.{◌≡◌, ◌⊎◌, inl, inr, ℕ, zero, suc, Option, Some, None, Result, Ok, List, refl}
use Rattle.std.specs.Prelude.{slice_get}
use Rattle.std.specs.Option.{MatchOption}
use Rattle.route_wire.specs.Fields.{Fields}
use Rattle.ev_edge.specs.declared.event.Event.TheVariants as events
use Rattle.ev_edge.specs.declared.reply.Reply.{Reply}
use Rattle.ev_edge.specs.declared.refusal.Refusal as edge
use Rattle.ev_edge.specs.Edge.{Edge}
use Rattle.ev_edge.specs.Steps.{nothing}
use Rattle.ev_fabric.specs.declared.refusal.FabricRefusal.{FabricRefusal}
use Rattle.ev_fabric.specs.declared.refusal.FabricRefusal.TheVariants.{NoSuchEdge, NoSuchUpdate}
use Rattle.ev_fabric.specs.declared.step.Step.TheVariants.{Deliver}
use Rattle.ev_fabric.specs.Fabric.{Fabric, IsEdge, nth}
use Rattle.ev_fabric.specs.Steps.{IsRefused, StepsAt, FabricSteps}

-- an announcing edge's reply
pub announces_it : {o : Option Fields} (reply : Reply)
    → ◌≡◌ {A = Result Reply edge.Refusal} (Ok reply) (Ok (record nothing { announced = o })) → reply.announced ≡ o
announces_it {o} reply e = let says : reply ≡ record nothing { announced = o } = cc in rw says

-- a place counted from 1
pub nth_cases : {X : Type 0} (xs : List X) (e : ℕ) → (nth xs e ≡ None)
    ⊎ ((i : ℕ) × (a : X) × (e ≡ suc i) × (slice_get xs i ≡ Some a))
nth_cases xs zero = inl refl
nth_cases {X} xs (suc i) = go (slice_get xs i) refl
  where
    go : (o : Option X) → slice_get xs i ≡ o → (slice_get xs i ≡ None)
        ⊎ ((j : ℕ) × (a : X) × (suc i ≡ suc j) × (slice_get xs j ≡ Some a))
    go None is = inl is
    go (Some a) is = inr (i, a, refl, is)

module _ (P : Type 0) (old new : Fabric) (result : Result Reply FabricRefusal) where
  pub at_edge : (Q : ℕ → Edge → Type 0) (e : ℕ)
      → MatchOption (nth old.edges e) (IsRefused NoSuchEdge old result new) (Q e)
      → (IsRefused NoSuchEdge old result new → P)
      → ((x : ℕ) (a : Edge) → e ≡ suc x → IsEdge old x a → Q (suc x) a → P) → P
  at_edge Q e h none some = elim (nth_cases old.edges e) [
    | inl is ↦ none (rw is at h)
    | inr x ↦ some x.0 x.1 x.2 x.3 (rw (x.2, x.3) at h)
  ]

  -- a delivery
  pub at_delivery : (e k : ℕ) → FabricSteps old (Deliver e k) result new
      → ((why : FabricRefusal) → IsRefused why old result new → P)
      → ((x : ℕ) (a : Edge) (n : ℕ) (u : Fields) → e ≡ suc x → k ≡ suc n → IsEdge old x a
      → slice_get old.pool n ≡ Some u → StepsAt old (suc x) a (events.Take u) result new → P) → P
  at_delivery e k h none some = at_edge (λ e a. MatchOption (nth old.pool k) (IsRefused NoSuchUpdate old result new)
      (λ u. StepsAt old e a (events.Take u) result new)) e h (none NoSuchEdge)
      (λ x a edge at s. elim (nth_cases old.pool k) [
        | inl is ↦ none NoSuchUpdate (rw is at s)
        | inr y ↦ some x a y.0 y.1 edge y.2 at y.3 (rw (y.2, y.3) at s)
      ])

  -- a delivery of an update that is there
  pub at_given : (x n : ℕ) {u : Fields} → FabricSteps old (Deliver (suc x) (suc n)) result new
      → slice_get old.pool n ≡ Some u → (slice_get old.edges x ≡ None → IsRefused NoSuchEdge old result new → P)
      → ((a : Edge) → IsEdge old x a → StepsAt old (suc x) a (events.Take u) result new → P) → P
  at_given x n {u} h there none some = go (slice_get old.edges x) refl
    where
      go : (o : Option Edge) → slice_get old.edges x ≡ o → P
      go None is = none is (rw is at h)
      go (Some a) is = some a is (rw (is, there) at h)
