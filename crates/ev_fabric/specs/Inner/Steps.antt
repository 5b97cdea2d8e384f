-- One step of a fabric: of the named edge, and of no other.
use Rattle.std.specs.Prelude.{◌≡◌, ℕ, ◌-◌, Some, Result, List}
use Rattle.std.specs.Prelude.{slice_set}
use Rattle.ev_edge.specs.declared.event.Event.{Event}
use Rattle.ev_edge.specs.declared.reply.Reply.{Reply}
use Rattle.ev_edge.specs.declared.refusal.Refusal as edge
use Rattle.ev_edge.specs.Edge.{Edge}
use Rattle.ev_edge.specs.Steps.{Steps}
use Rattle.ev_fabric.specs.declared.refusal.FabricRefusal.{FabricRefusal}
use Rattle.ev_fabric.specs.Fabric.{nth}
use Rattle.ev_fabric.specs.Steps.{of_edge}

-- the edge at place e of a list steps by the event; the others stay
pub record OneSteps (old : List Edge) (e : ℕ) (event : Event) (result : Result Reply FabricRefusal) (new : List Edge) :
    Type 0 where
  pub before : Edge
  pub there : nth old e ≡ Some before
  pub after : Edge
  pub answer : Result Reply edge.Refusal
  pub steps : Steps before event answer after
  pub result_is : result ≡ of_edge answer
  pub new_is : new ≡ slice_set old (e - 1) after
