-- The calls of a fabric: each of their parts is a step of the fabric, and keeps it sound.
use Rattle.std.proofs.Common.{◌≡◌, inl, inr, ℕ, zero, suc, ◌<◌, ◌≤◌, true, Some, is_some, Result, Ok, Err}
use Rattle.std.proofs.Common.{List, [], ◌∷◌, refl, subst}
use Rattle.std.specs.Prelude.{IsSome, slice_get}
use Rattle.route_wire.specs.Fields.{Fields}
use Rattle.ev_edge.specs.declared.config.EdgeConfig.{EdgeConfig}
use Rattle.ev_edge.specs.declared.reply.Reply.{Reply}
use Rattle.ev_edge.specs.declared.refusal.Refusal as edge
use Rattle.ev_edge.specs.declared.event.Event.TheVariants as events
use Rattle.route_wire.specs.declared.update.Register.{Register}
use Rattle.ev_claims.specs.Speaker.{Speaker, announced_of}
use Rattle.ev_edge.specs.Edge.{Edge, IsGoodEdge}
use Rattle.ev_edge.specs.Opening.{IsOpening}
use Rattle.ev_edge.specs.Steps.{Steps, nothing}
use Rattle.ev_fabric.specs.declared.refusal.FabricRefusal.{FabricRefusal}
use Rattle.ev_fabric.specs.declared.refusal.FabricRefusal.TheVariants.{NoHigher, NoMemory}
use Rattle.ev_fabric.specs.declared.step.LocalEvent.{LocalEvent}
use Rattle.ev_fabric.specs.declared.step.Step.{Step}
use Rattle.ev_fabric.specs.declared.step.Step.TheVariants.{Local, Announce, Deliver, Restart}
use Rattle.ev_fabric.specs.Fabric.{Fabric, fabric_of, nth, incarnation_of}
use Rattle.ev_fabric.specs.Local.{event_of}
use Rattle.ev_fabric.specs.Sound.{IsSound}
use Rattle.ev_fabric.specs.Steps.{of_edge, with_announced, in_incarnation, with_opened}
use Rattle.ev_fabric.specs.Steps.{FabricSteps}
use Rattle.ev_fabric.specs.Inner.Steps.{OneSteps}
use Rattle.ev_fabric.proofs.Cases.{announces_it}
use Rattle.ev_edge.specs.Config.{IsConfig}
use Rattle.ev_fabric.proofs.Opened.{fit_in_life}
use Rattle.ev_fabric.proofs.Fabrics.{step_sound}

-- ---- steps

-- a step of the fabric and the soundness after it
pub record Does (old new : Fabric) (step : Step) (result : Result Reply FabricRefusal) : Type 0 where
  pub steps : FabricSteps old step result new
  pub sound : IsSound new

does : {old : Fabric} (new : Fabric) (step : Step) (result : Result Reply FabricRefusal) → IsSound old
    → FabricSteps old step result new → Does old new step result
does {old} new step result h s = record { steps = s; sound = step_sound old new step result s h }

pub local_does : {f : Fabric} {ys : List Edge} {e : ℕ} (event : LocalEvent) {result : Result Reply FabricRefusal}
    → IsSound f → OneSteps f.edges e (event_of event) result ys
    → Does f (fabric_of ys f.configs f.pool) (Local e event) result
local_does {f} {ys} {e} event {result} h s = does (fabric_of ys f.configs f.pool) (Local e event) result h
    (rw s.there (record {
      after = s.after;
      answer = s.answer;
      steps = s.steps;
      result_is = s.result_is;
      new_is = rw s.new_is;
    }))

pub deliver_does : {f : Fabric} {ys : List Edge} {e : ℕ} (k : ℕ) {u : Fields} {result : Result Reply FabricRefusal}
    → IsSound f → nth f.pool k ≡ Some u → OneSteps f.edges e (events.Take u) result ys
    → Does f (fabric_of ys f.configs f.pool) (Deliver e k) result
deliver_does {f} {ys} {e} k {result = result} h at s = does (fabric_of ys f.configs f.pool) (Deliver e k) result h
    (rw (s.there, at) (record {
      after = s.after;
      answer = s.answer;
      steps = s.steps;
      result_is = s.result_is;
      new_is = rw s.new_is;
    }))

-- ---- an announcement
pub answered : (reply : Reply) (answer : Result Reply edge.Refusal) → Ok reply ≡ of_edge answer → answer ≡ Ok reply
answered reply (Ok r) is = let same : reply ≡ r = cc in rw (← same)
answered reply (Err r) is = cc

pub announce_does : {f : Fabric} {ys : List Edge} (grown : List Fields) {e : ℕ} (reply : Reply) → IsSound f
    → OneSteps f.edges e events.Announce (Ok reply) ys → grown ≡ with_announced f.pool reply.announced
    → Does f (fabric_of ys f.configs grown) (Announce e) (Ok reply)
announce_does {f} {ys} grown {e} reply h s pool = does (fabric_of ys f.configs grown) (Announce e) (Ok reply) h
    (rw s.there (
      s.after,
      rw (answered reply s.answer s.result_is) at s.steps,
      (λ i. fabric_of (s.new_is i) f.configs (pool i)),
    ))

first_announced : (v : Speaker) (rs : List Register) → IsSome (announced_of v rs) → is_some (slice_get rs 0) ≡ true
first_announced v [] some = some
first_announced v (r ∷ rs) some = refl

-- the announced register was pending
pub announced_waits : {ys zs : List Edge} {e : ℕ} {a : Edge} (reply : Reply) → nth ys e ≡ Some a
    → OneSteps ys e events.Announce (Ok reply) zs → IsSome reply.announced
    → is_some (slice_get a.routes.speaker.pending 0) ≡ true
announced_waits {e} {a} reply there s some =
    let steps = subst (λ r. Steps s.before events.Announce r s.after) (answered reply s.answer s.result_is) s.steps in
    let same : s.before ≡ a = cc (s.there) in
    first_announced a.routes.speaker a.routes.speaker.pending (rw (announces_it reply steps.0, same) at some)

-- ---- a restart
pub not_higher : {f : Fabric} (e n : ℕ) {a : Edge} → IsSound f → nth f.edges e ≡ Some a → n ≤ incarnation_of a
    → Does f f (Restart e n) (Err NoHigher)
not_higher e n h there low = record { steps = rw there (inl (refl, low), refl); sound = h }

pub not_opened : {f : Fabric} (e n : ℕ) {a : Edge} → IsSound f → nth f.edges e ≡ Some a → incarnation_of a < n
    → Does f f (Restart e n) (Err NoMemory)
not_opened e n h there high = record { steps = rw there (inr (refl, high), refl); sound = h }

pub restart_does : {f : Fabric} (e n : ℕ) {a b : Edge} {c : EdgeConfig} → IsSound f → nth f.edges e ≡ Some a
    → nth f.configs e ≡ Some c → incarnation_of a < n → IsOpening (in_incarnation c n) b → IsGoodEdge b
    → Does f (with_opened f e b (in_incarnation c n)) (Restart e n) (Ok nothing)
restart_does {f} e n {b = b} {c = c} h there config high opened good =
    does (with_opened f e b (in_incarnation c n)) (Restart e n) (Ok nothing) h (rw there (record {
      higher = high;
      config = c;
      config_is = config;
      after = b;
      opened = opened;
      good = good;
      reply_is = refl;
      new_is = refl;
    }))

-- the incarnation that a restart has to be above
pub incarnation_is : {f : Fabric} (e : ℕ) {a : Edge} {c : EdgeConfig} → IsSound f → nth f.edges e ≡ Some a
    → nth f.configs e ≡ Some c → incarnation_of a ≡ c.incarnation
incarnation_is zero h there config = cc
incarnation_is (suc i) {a} {c} h there config = (h.configs i c a config there).life

-- the configuration with which an edge was opened
pub config_fits : {f : Fabric} (e n : ℕ) {a : Edge} {c : EdgeConfig} → IsSound f → nth f.edges e ≡ Some a
    → nth f.configs e ≡ Some c → IsConfig (in_incarnation c n)
config_fits zero n h there config = cc
config_fits (suc i) n {a} {c} h there config = fit_in_life n (h.configs i c a config there).config
