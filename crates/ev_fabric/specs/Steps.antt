-- One step of a fabric: of the named edge, and of no other.
use Rattle.std.specs.Prelude.{◌≡◌, ◌≢◌, ◌⊎◌, ℕ, ◌-◌, ◌<◌, ◌≤◌, Option, Some, None, Result, Ok, Err, List, [], ◌∷◌, ◌++◌}
use Rattle.std.specs.Prelude.{slice_set}
use Rattle.std.specs.Option.{MatchOption}
use Rattle.route_wire.specs.Fields.{Fields}
use Rattle.ev_edge.specs.declared.config.EdgeConfig.{EdgeConfig}
use Rattle.ev_edge.specs.declared.event.Event.{Event}
use Rattle.ev_edge.specs.declared.event.Event.TheVariants as events
use Rattle.ev_edge.specs.declared.reply.Reply.{Reply}
use Rattle.ev_edge.specs.declared.refusal.Refusal as edge
use Rattle.ev_edge.specs.Edge.{Edge, IsGoodEdge}
use Rattle.ev_edge.specs.Opening.{IsOpening}
use Rattle.ev_edge.specs.Steps.{Steps, nothing}
use Rattle.ev_fabric.specs.declared.refusal.FabricRefusal.{FabricRefusal}
use Rattle.ev_fabric.specs.declared.refusal.FabricRefusal.TheVariants.{NoSuchEdge, NoSuchUpdate, NoHigher, NoMemory}
use Rattle.ev_fabric.specs.declared.refusal.FabricRefusal.TheVariants.{Edge as OfEdge}
use Rattle.ev_fabric.specs.declared.step.Step.{Step}
use Rattle.ev_fabric.specs.declared.step.Step.TheVariants.{Local, Announce, Deliver, Restart}
use Rattle.ev_fabric.specs.Fabric.{Fabric, nth, incarnation_of}
use Rattle.ev_fabric.specs.Local.{event_of}

-- an edge's answer as the fabric's
abbrev pub of_edge : Result Reply edge.Refusal → Result Reply FabricRefusal
of_edge (Ok reply) = Ok reply
of_edge (Err r) = Err (OfEdge r)

-- the fabric with another edge at this place, counted from 1
abbrev pub with_edge : Fabric → ℕ → Edge → Fabric
with_edge f e b = record f { edges = slice_set f.edges (e - 1) b }

-- the pool has the announced update at its end, if there is one
abbrev pub with_announced : List Fields → Option Fields → List Fields
with_announced pool None = pool
with_announced pool (Some u) = pool ++ u ∷ []

-- nothing changes
abbrev pub IsRefused : FabricRefusal → Fabric → Result Reply FabricRefusal → Fabric → Type 0
IsRefused why old result new = (result ≡ Err why) × (new ≡ old)

-- the edge a at place e steps by the event, and answers; all else stays
pub record StepsAt (old : Fabric) (e : ℕ) (a : Edge) (event : Event) (result : Result Reply FabricRefusal)
    (new : Fabric) :
    Type 0 where
  pub after : Edge
  pub answer : Result Reply edge.Refusal
  pub steps : Steps a event answer after
  pub result_is : result ≡ of_edge answer
  pub new_is : new ≡ with_edge old e after

-- The edge a at place e announces, and the announced update is put at the pool's end. If something is pending, and
-- there is no memory for that, it is still pending.
abbrev pub AnnouncesAt : Fabric → ℕ → Edge → Result Reply FabricRefusal → Fabric → Type 0
AnnouncesAt old e a (Ok reply) new =
    (b : Edge) × Steps a events.Announce (Ok reply) b × (new
    ≡ record (with_edge old e b) { pool = with_announced old.pool reply.announced })
AnnouncesAt old e a (Err why) new = ((why ≡ NoMemory) × (a.routes.speaker.pending ≢ [])) × (new ≡ old)

-- the configuration in the incarnation n
abbrev pub in_incarnation : EdgeConfig → ℕ → EdgeConfig
in_incarnation c n = record c { incarnation = n }

-- the fabric with an edge at place e that is opened with c
abbrev pub with_opened : Fabric → ℕ → Edge → EdgeConfig → Fabric
with_opened f e b c = record (with_edge f e b) { configs = slice_set f.configs (e - 1) c }

-- The edge a at place e is opened again in the incarnation n, which is a higher one, with an otherwise unchanged
-- configuration, and is good then, as its type states; all else stays.
pub record OpensAnew (old : Fabric) (e : ℕ) (a : Edge) (n : ℕ) (reply : Reply) (new : Fabric) : Type 0 where
  pub higher : incarnation_of a < n
  pub config : EdgeConfig
  pub config_is : nth old.configs e ≡ Some config
  pub after : Edge
  pub opened : IsOpening (in_incarnation config n) after
  pub good : IsGoodEdge after
  pub reply_is : reply ≡ nothing
  pub new_is : new ≡ with_opened old e after (in_incarnation config n)

-- if there is no memory for a new edge, the old one stays
abbrev pub RestartsAt : Fabric → ℕ → Edge → ℕ → Result Reply FabricRefusal → Fabric → Type 0
RestartsAt old e a n (Ok reply) new = OpensAnew old e a n reply new
RestartsAt old e a n (Err why) new = (((why ≡ NoHigher) × (n ≤ incarnation_of a))
    ⊎ ((why ≡ NoMemory) × (incarnation_of a < n)))
    × (new ≡ old)

-- a step of the fabric; the edge and the update that it names are counted from 1
abbrev pub FabricSteps : Fabric → Step → Result Reply FabricRefusal → Fabric → Type 0
FabricSteps old (Local e event) result new =
    MatchOption (nth old.edges e) (IsRefused NoSuchEdge old result new)
    (λ a. StepsAt old e a (event_of event) result new)
FabricSteps old (Announce e) result new =
    MatchOption (nth old.edges e) (IsRefused NoSuchEdge old result new) (λ a. AnnouncesAt old e a result new)
FabricSteps old (Deliver e k) result new =
    MatchOption (nth old.edges e) (IsRefused NoSuchEdge old result new) (λ a.
    MatchOption (nth old.pool k) (IsRefused NoSuchUpdate old result new)
    (λ u. StepsAt old e a (events.Take u) result new))
FabricSteps old (Restart e n) result new =
    MatchOption (nth old.edges e) (IsRefused NoSuchEdge old result new) (λ a. RestartsAt old e a n result new)
