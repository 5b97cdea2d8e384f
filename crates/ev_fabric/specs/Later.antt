-- The result of a run of a fabric: edges stay, their incarnations rise, and the pool grows.
use Rattle.std.specs.Prelude.{◌≡◌, ℕ, ◌≤◌, Some, Ok, List, ◌++◌, IsSome, length}
use Rattle.route_wire.specs.declared.update.Register.{Register}
use Rattle.route_wire.specs.declared.update.Value.{Value}
use Rattle.route_wire.specs.Fields.{Fields}
use Rattle.route_join.specs.Table.{value_at}
use Rattle.route_join.specs.Owner.{advert_in}
use Rattle.ev_edge.specs.declared.reply.Reply.{Reply}
use Rattle.ev_edge.specs.Edge.{Edge, table_of, address_of}
use Rattle.ev_fabric.specs.declared.step.Step.{Step}
use Rattle.ev_fabric.specs.declared.step.Step.TheVariants.{Restart}
use Rattle.ev_fabric.specs.Fabric.{Fabric, IsEdge, nth, incarnation_of}
use Rattle.ev_fabric.specs.Steps.{FabricSteps}
use Rattle.ev_fabric.specs.Sound.{IsSound}
use Rattle.ev_fabric.specs.Agreed.{AllAgree}
use Rattle.ev_fabric.specs.Runs.{Runs}
use Rattle.ev_fabric.specs.Convergence.{Rests}

-- the edge b has the address of the edge a, and its incarnation or a later one
pub record IsLaterEdge (a b : Edge) : Type 0 where
  pub address : address_of b ≡ address_of a
  pub life : incarnation_of a ≤ incarnation_of b

-- there are as many edges, each at its place later on, and the pool has all its updates still, at their places
pub record IsLaterFabric (old new : Fabric) : Type 0 where
  pub count : length new.edges ≡ length old.edges
  pub edges : (i : ℕ) (a : Edge) → IsEdge old i a → (b : Edge) × IsEdge new i b × IsLaterEdge a b
  pub more : List Fields
  pub pool : new.pool ≡ old.pool ++ more

-- after any run
abbrev pub RunsLead : Type 0
RunsLead = (steps : List Step) (old new : Fabric) → IsSound old → Runs old steps new → IsLaterFabric old new

-- a run of an undisturbed fabric is a run like any other
abbrev pub RestsRun : Type 0
RestsRun = (steps : List Step) (old new : Fabric) → Rests old steps new → Runs old steps new

-- Edge e was opened again in the incarnation n, and any run followed. If all agree, each advert of it in any table is
-- of the incarnation n or a later one.
abbrev pub AdvertsAreAnew : Type 0
AdvertsAreAnew =
    (old mid new : Fabric) (e n : ℕ) (reply : Reply) (steps : List Step) → IsSound old
    → FabricSteps old (Restart e n) (Ok reply) mid → Runs mid steps new → AllAgree new
    → (i : ℕ) (b c : Edge) → nth new.edges e ≡ Some b → IsEdge new i c
    → (r : Register) (v : Value) → r.originator ≡ address_of b → value_at (table_of c) r ≡ Some v
    → IsSome (advert_in v.content) → n ≤ v.incarnation
