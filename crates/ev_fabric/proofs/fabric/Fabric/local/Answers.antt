use Rattle.std.proofs.Common.{subst}
use Rattle.ev_fabric.specs.declared.step.Step.TheVariants.{Local}
use Rattle.ev_fabric.specs.Fabric.{fabric_of}
use Rattle.ev_fabric.specs.Steps.{FabricSteps}
use Rattle.ev_fabric.specs.Inner.Steps.{OneSteps}
use Rattle.ev_fabric.proofs.Calls.{local_does}
use Rattle.ev_fabric.proofs.fabric.Fabric.local.Goals as goal

pub invariant_of-self : goal.invariant_of-self
invariant_of-self c =
    let f = fabric_of c.self.inside.edges.items c.self.inside.configs.items c.self.inside.pool.items in
    (local_does c.args.event.now c.self.invariant
    (subst (λ x. OneSteps f.edges c.args.e x c.step_edge.result c.step_edge.new.edges.items) c.event_of.ensures
    c.step_edge.ensures)).sound

pub returns : goal.returns
returns c =
    let f = fabric_of c.self.inside.edges.items c.self.inside.configs.items c.self.inside.pool.items in
    subst (λ x. FabricSteps x (Local c.args.e c.args.event.now) c.step_edge.result
    (fabric_of c.step_edge.new.edges.items f.configs f.pool)) c.self.view_is
    (local_does c.args.event.now c.self.invariant
    (subst (λ x. OneSteps f.edges c.args.e x c.step_edge.result c.step_edge.new.edges.items) c.event_of.ensures
    c.step_edge.ensures)).steps
