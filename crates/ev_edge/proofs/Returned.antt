-- The effect of an update under the edge's own name.
use Rattle.std.proofs.Common.{◌≡◌, ◌⊎◌, inl, inr, ℕ, Bool, true, false, Some, None, Result, Ok, Err, refl}
use Rattle.std.specs.Prelude.{◌↔◌, IfOk, OnOk, OnErr}
use Rattle.route_wire.specs.Fields.{Fields}
use Rattle.route_join.specs.declared.table.Taken.{Taken}
use Rattle.route_join.specs.Table.{value_at}
use Rattle.route_join.specs.Taken.{taken_of}
use Rattle.ev_claims.specs.declared.speaker.OwnError.{OwnError}
use Rattle.ev_claims.specs.declared.speaker.OwnError.TheVariants.{Ahead, Spent, NoMemory}
use Rattle.ev_claims.specs.Speaker.{KeepsNumbers, is_ahead, is_spent, is_returning}
use Rattle.ev_claims.specs.LocalRoutes.{LocalRoutes, after_own}
use Rattle.ev_edge.specs.Edge.{Edge, IsEdge, table_of}
use Rattle.ev_edge.specs.Steps.{TakesOwn, nothing}
use Rattle.ev_edge.specs.Inner.Steps.{own_result}
use Rattle.ev_edge.proofs.Keeping.{kept, holds_of, own_list}
use Rattle.ev_edge.proofs.Returning.{own_holds}

never : (b : Bool) (P : Type 0) → P ↔ (b ≡ true) → (P → ⊥) → b ≡ false
never true P h free = absurd (free (h.1 refl))
never false P h free = refl

pub own_steps : (e : Edge) (u : Fields) (d : LocalRoutes) (r : Result Taken OwnError)
    → IfOk r (λ t. t ≡ taken_of (table_of e) u) → OnOk r (d ≡ after_own e.routes u)
    → (r ≡ Err Ahead) ↔ (is_ahead e.routes.speaker u ≡ true) → (r ≡ Err Spent) ↔ (is_spent e.routes.speaker u ≡ true)
    → (r ≡ Err NoMemory → (value_at (table_of e) u.register ≡ None) ⊎ (is_returning e.routes.speaker u ≡ true))
    → OnErr r (d ≡ e.routes)
    → TakesOwn e u (own_result r) (record e { routes = d })
own_steps e u d (Ok t) taken ok ahead spent memory err = (
  never _ _ ahead (λ p. cc),
  never _ _ spent (λ p. cc),
  (λ i. record nothing { taken = Some (taken i) }),
  λ i. record e { routes = ok i },
)
own_steps e u d (Err Ahead) taken ok ahead spent memory err =
    (inl (refl, ahead.0 refl), λ i. record e { routes = err i })
own_steps e u d (Err Spent) taken ok ahead spent memory err =
    (inr (inl (refl, spent.0 refl)), λ i. record e { routes = err i })
own_steps e u d (Err NoMemory) taken ok ahead spent memory err = (
  inr (inr (refl, never _ _ ahead (λ p. cc), never _ _ spent (λ p. cc), memory refl)),
  λ i. record e { routes = err i },
)

pub own_kept : {e : Edge} {passing : ℕ} (u : Fields) (d : LocalRoutes) (r : Result Taken OwnError) → IsEdge e passing
    → KeepsNumbers e.routes.speaker → u.register.originator ≡ e.routes.speaker.address
    → OnOk r (d ≡ after_own e.routes u)
    → (r ≡ Err Ahead) ↔ (is_ahead e.routes.speaker u ≡ true) → OnErr r (d ≡ e.routes)
    → IsEdge (record e { routes = d }) passing
own_kept {e} u d (Ok t) h numbers own ok ahead err = kept h ok
    (own_holds e.routes u e.clock numbers own (never _ _ ahead (λ p. cc)) (holds_of h)) refl (own_list e.routes u)
own_kept u d (Err x) h numbers own ok ahead err = kept h err (holds_of h) refl refl
