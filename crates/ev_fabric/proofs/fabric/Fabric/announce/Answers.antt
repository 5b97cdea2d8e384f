use Rattle.std.proofs.Common.{◌≤◌, length, Ok, sym, ap, subst, ◌∙◌, arith}
use Rattle.route_join.proofs.Leaders.{on_ok}
use Rattle.ev_fabric.specs.declared.step.Step.TheVariants.{Announce}
use Rattle.ev_fabric.specs.Fabric.{fabric_of}
use Rattle.ev_fabric.specs.Steps.{with_announced, FabricSteps}
use Rattle.ev_fabric.proofs.Places.{at_index}
use Rattle.ev_fabric.proofs.Calls.{announce_does, announced_waits}
use Rattle.ev_fabric.proofs.fabric.Fabric.announce.Goals as goal

pub put-requires : goal.put-requires
put-requires c = λ some.
    let edges = c.self.inside.edges.items in
    let within : c.args.e ≤ length edges = omega (arith, c.if-e-len.false, c.len.ensures) in
    let there = at_index edges c.args.e c.index.result.now c.index.result.now c.if-e-eq0.false within c.index.ensures in
    let waits = announced_waits c.in_ok-reply.reply there
    c.in_ok-reply.ensures some in
    on_ok c.make_room.result _ c.make_room.ensures.room (sym c.is_err.ensures.value ∙ c.if-is_err.false)
    (c.has_pending-is_wanted.ensures ∙ waits)

pub invariant_of-self-2 : goal.invariant_of-self-2
invariant_of-self-2 c =
    let f = fabric_of c.self.inside.edges.items c.self.inside.configs.items c.self.inside.pool.items in
    (announce_does c.put.new.pool.items c.in_ok-reply.reply c.self.invariant
    c.in_ok-reply.ensures
    (c.put.ensures ∙ ap (λ l. with_announced l c.in_ok-reply.reply.announced) c.make_room.ensures.items)).sound

pub returns : goal.returns
returns c =
    let f = fabric_of c.self.inside.edges.items c.self.inside.configs.items c.self.inside.pool.items in
    subst (λ x. FabricSteps x (Announce c.args.e) (Ok c.in_ok-reply.reply)
    (fabric_of c.step_edge.new.edges.items f.configs c.put.new.pool.items)) c.self.view_is
    (announce_does c.put.new.pool.items c.in_ok-reply.reply c.self.invariant
    c.in_ok-reply.ensures
    (c.put.ensures ∙ ap (λ l. with_announced l c.in_ok-reply.reply.announced) c.make_room.ensures.items)).steps
