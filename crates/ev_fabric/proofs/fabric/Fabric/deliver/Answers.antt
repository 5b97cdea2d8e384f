use Rattle.std.proofs.Common.{subst, arith}
use Rattle.ev_fabric.specs.declared.step.Step.TheVariants.{Deliver}
use Rattle.ev_fabric.specs.Fabric.{fabric_of}
use Rattle.ev_fabric.specs.Steps.{FabricSteps}
use Rattle.ev_fabric.proofs.Places.{at_index}
use Rattle.ev_fabric.proofs.Calls.{deliver_does}
use Rattle.ev_fabric.proofs.fabric.Fabric.deliver.Goals as goal

pub invariant_of-self : goal.invariant_of-self
invariant_of-self c =
    let f = fabric_of c.self.inside.edges.items c.self.inside.configs.items c.self.inside.pool.items in
    (deliver_does c.args.k
    c.self.invariant
    (at_index f.pool c.args.k c.index-update.result.now c.index-update.result.now c.if-k-eq0.false
    (omega (arith, c.if-k-len.false, c.len-else-k-eq0.ensures)) c.index-update.ensures) c.step_edge.ensures).sound

pub returns : goal.returns
returns c =
    let f = fabric_of c.self.inside.edges.items c.self.inside.configs.items c.self.inside.pool.items in
    subst (λ x. FabricSteps x (Deliver c.args.e c.args.k) c.step_edge.result
    (fabric_of c.step_edge.new.edges.items f.configs f.pool)) c.self.view_is
    (deliver_does c.args.k
    c.self.invariant
    (at_index f.pool c.args.k c.index-update.result.now c.index-update.result.now c.if-k-eq0.false
    (omega (arith, c.if-k-len.false, c.len-else-k-eq0.ensures)) c.index-update.ensures) c.step_edge.ensures).steps
