-- Lists of steps.
use Rattle.std.specs.Prelude.{◌≡◌, ℕ, suc, Result, List, [], ◌∷◌, Contains}
use Rattle.ev_edge.specs.declared.reply.Reply.{Reply}
use Rattle.ev_fabric.specs.declared.refusal.FabricRefusal.{FabricRefusal}
use Rattle.ev_fabric.specs.declared.step.Step.{Step}
use Rattle.ev_fabric.specs.declared.step.Step.TheVariants.{Restart}
use Rattle.ev_fabric.specs.Fabric.{Fabric}
use Rattle.ev_fabric.specs.Steps.{FabricSteps}

-- a list of steps, each from the state to which the one before has led, with any results
abbrev pub Runs : Fabric → List Step → Fabric → Type 0
Runs old [] new = new ≡ old
Runs old (step ∷ steps) new = (mid : Fabric) × (result : Result Reply FabricRefusal) × FabricSteps old step result mid
    × Runs mid steps new

-- the edge at place i isn't opened again in these steps
abbrev pub StaysOpen : ℕ → List Step → Type 0
StaysOpen i steps = (n : ℕ) → Contains steps (Restart (suc i) n) → ⊥
