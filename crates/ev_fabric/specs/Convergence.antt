-- An undisturbed fabric: announcements and deliveries, and nothing else.
use Rattle.std.specs.Prelude.{◌≡◌, ◌≢◌, ℕ, zero, suc, ◌+◌, ◌<◌, ◌≤◌, ◌^◌, Some, Result, Ok, Err, List, [], ◌∷◌, ◌++◌}
use Rattle.std.specs.Prelude.{length, Contains, slice_get}
use Rattle.std.specs.List.{sum_by}
use Rattle.route_wire.specs.Fields.{Fields}
use Rattle.ev_edge.specs.declared.refusal.Refusal.TheVariants.{Edge as OfEdge}
use Rattle.ev_edge.specs.declared.refusal.EdgeRefusal.TheVariants.{NoMemory as EdgeNoMemory}
use Rattle.ev_edge.specs.declared.reply.Reply.{Reply}
use Rattle.ev_edge.specs.Edge.{Edge}
use Rattle.ev_fabric.specs.declared.refusal.FabricRefusal.{FabricRefusal}
use Rattle.ev_fabric.specs.declared.refusal.FabricRefusal.TheVariants.{NoMemory, Edge as OfAnEdge}
use Rattle.ev_fabric.specs.declared.step.Step.{Step}
use Rattle.ev_fabric.specs.declared.step.Step.TheVariants.{Local, Announce, Deliver, Restart}
use Rattle.ev_fabric.specs.Fabric.{Fabric, IsEdge}
use Rattle.ev_fabric.specs.Steps.{FabricSteps}
use Rattle.ev_fabric.specs.ConvergenceEdge.{returning, unsaid, unannounced, missing}

-- ---- runs

abbrev pub IsQuiet : Step → Type 0
IsQuiet (Local e event) = ⊥
IsQuiet (Announce e) = Unit {0}
IsQuiet (Deliver e k) = Unit {0}
IsQuiet (Restart e n) = ⊥

-- no growth was refused, of the pool or of an edge
abbrev pub IsGranted : Result Reply FabricRefusal → Type 0
IsGranted (Ok reply) = Unit {0}
IsGranted (Err why) = (why ≢ NoMemory) × (why ≢ OfAnEdge (OfEdge EdgeNoMemory))

-- a list of announcements and deliveries, with no growth refused
abbrev pub Rests : Fabric → List Step → Fabric → Type 0
Rests old [] new = new ≡ old
Rests old (step ∷ steps) new = (mid : Fabric) × (result : Result Reply FabricRefusal) × IsQuiet step × IsGranted result
    × FabricSteps old step result mid × Rests mid steps new

-- a list of announcements and deliveries, with no growth refused, of which each step changes the fabric
abbrev pub Works : Fabric → List Step → Fabric → Type 0
Works old [] new = new ≡ old
Works old (step ∷ steps) new = (mid : Fabric) × (result : Result Reply FabricRefusal) × IsQuiet step × IsGranted result
    × FabricSteps old step result mid × (mid ≢ old) × Works mid steps new

abbrev pub AllQuiet : List Step → Type 0
AllQuiet steps = (step : Step) → Contains steps step → IsQuiet step

-- ---- updates to come

-- the number of announcements that may come
abbrev pub to_come : Fabric → ℕ
to_come f = sum_by (λ (a : Edge). unannounced f.pool a.routes) f.edges

-- the number of updates that the pool has and may still get
abbrev pub full_pool : Fabric → ℕ
full_pool f = length f.pool + to_come f

-- the number of announcements that may come, and of deliveries that change an edge: of updates that it misses now, and
-- of each announcement to come
abbrev pub work : Fabric → ℕ
work f = to_come f + sum_by (λ (a : Edge). missing f.pool a.routes.speaker + to_come f) f.edges

-- an edge to which an own advert of an earlier incarnation may come back has a number left for each of its withdrawals
abbrev pub HasNumbers : Fabric → Type 0
HasNumbers f = (i : ℕ) (a : Edge) → IsEdge f i a → 0 < returning f.pool a.routes.speaker
    → a.routes.speaker.counter + unsaid f.pool a.routes ≤ 2 ^ 63

-- ---- rounds

-- the edge announces n times
abbrev pub announcing : ℕ → ℕ → List Step
announcing e zero = []
announcing e (suc n) = Announce e ∷ announcing e n

-- the edge takes the first n updates of the pool
abbrev pub taking : ℕ → ℕ → List Step
taking e zero = []
taking e (suc n) = Deliver e (suc n) ∷ taking e n

-- for each of m edges, counted from 1
abbrev pub each : (ℕ → List Step) → ℕ → List Step
each f zero = []
each f (suc m) = f (suc m) ++ each f m

-- each of m edges announces n times; then each takes the first n updates of the pool
abbrev pub round : ℕ → ℕ → List Step
round m n = each (λ e. announcing e n) m ++ each (λ e. taking e n) m

abbrev pub two_rounds : Fabric → List Step
two_rounds f = round (length f.edges) (full_pool f) ++ round (length f.edges) (full_pool f)

-- ---- fairness

-- at some moment of the run the edge e took the update k, both counted from 1
pub record WasGiven (old : Fabric) (steps : List Step) (new : Fabric) (e k : ℕ) : Type 0 where
  pub earlier : List Step
  pub later : List Step
  pub is : steps ≡ earlier ++ Deliver e k ∷ later
  pub mid : Fabric
  pub next : Fabric
  pub reply : Reply
  pub before : Rests old earlier mid
  pub given : FabricSteps mid (Deliver e k) (Ok reply) next
  pub after : Rests next later new

-- each edge took each update of the pool that there is in the end
abbrev pub AllGiven : Fabric → List Step → Fabric → Type 0
AllGiven old steps new = (i : ℕ) (a : Edge) (k : ℕ) (u : Fields) → IsEdge new i a → slice_get new.pool k ≡ Some u
    → WasGiven old steps new (suc i) (suc k)

-- nothing is pending
abbrev pub AllSilent : Fabric → Type 0
AllSilent f = (i : ℕ) (a : Edge) → IsEdge f i a → a.routes.speaker.pending ≡ []
