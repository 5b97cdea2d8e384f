use Rattle.std.proofs.Common.{◌≡◌, ℕ, ◌-◌, ◌≤◌, get_or, length, Some, Ok, Err, sym, subst, arith}
use Rattle.ev_edge.specs.declared.config.EdgeConfig.{EdgeConfig}
use Rattle.ev_edge.specs.Config.{IsConfig}
use Rattle.ev_edge.specs.Edge.{Edge}
use Rattle.ev_edge.specs.Opening.{IsOpening}
use Rattle.ev_edge.specs.Steps.{nothing}
use Rattle.ev_fabric.specs.declared.refusal.FabricRefusal.TheVariants.{NoHigher, NoMemory}
use Rattle.ev_fabric.specs.declared.step.Step.TheVariants.{Restart}
use Rattle.ev_fabric.specs.Fabric.{Fabric, fabric_of, nth}
use Rattle.ev_fabric.specs.Sound.{IsSound}
use Rattle.ev_fabric.specs.Steps.{FabricSteps, in_incarnation, with_opened}
use Rattle.ev_fabric.proofs.Places.{at_index, there_nth, same_nth}
use Rattle.ev_fabric.proofs.Calls.{Does, not_higher, not_opened, restart_does, incarnation_is, config_fits}
use Rattle.ev_fabric.proofs.fabric.Fabric.restart.Goals as goal

-- the edge that restarts, and the configuration with which it was opened
record Restarts (f : Fabric) (e : ℕ) (config : EdgeConfig) : Type 0 where
  edge : Edge
  there : nth f.edges e ≡ Some edge
  opened : nth f.configs e ≡ Some config

restarts : (f : Fabric) (e : ℕ) (c : EdgeConfig) → IsSound f → (e ≡ 0 → ⊥) → e ≤ length f.edges
    → c ≡ get_or f.configs (e - 1) c → Restarts f e c
restarts f e c h some within is = record {
  edge = a.0;
  there = a.1;
  opened = at_index f.configs e c c some (omega (arith, h.count)) is;
}
  where
    a : (a : Edge) × (nth f.edges e ≡ Some a)
    a = there_nth f.edges e some within

pub returns-then-n-index : goal.returns-then-n-index
returns-then-n-index c =
    let f = fabric_of c.self.inside.edges.items c.self.inside.configs.items c.self.inside.pool.items in
    let r = restarts f c.args.e c.index.result.now c.self.invariant c.if-e-eq0.false
    (omega (arith, c.if-e-len.false, c.len.ensures)) c.index.ensures in
    subst (λ x. FabricSteps x (Restart c.args.e c.args.n) (Err NoHigher) x) c.self.view_is
    (not_higher c.args.e c.args.n c.self.invariant r.there
    (omega (arith, incarnation_is c.args.e c.self.invariant r.there r.opened, c.if-n-index.true))).steps

pub open-requires : goal.open-requires
open-requires c =
    let f = fabric_of c.self.inside.edges.items c.self.inside.configs.items c.self.inside.pool.items in
    let r = restarts f c.args.e c.index-2.result.now c.self.invariant c.if-e-eq0.false
    (omega (arith, c.if-e-len.false, c.len.ensures)) c.index-2.ensures in
    subst IsConfig (sym c.in_incarnation-config.ensures) (config_fits c.args.e c.args.n
    c.self.invariant r.there r.opened)

pub returns-in_default : goal.returns-in_default
returns-in_default c =
    let f = fabric_of c.self.inside.edges.items c.self.inside.configs.items c.self.inside.pool.items in
    let r = restarts f c.args.e c.index.result.now c.self.invariant c.if-e-eq0.false
    (omega (arith, c.if-e-len.false, c.len.ensures)) c.index.ensures in
    subst (λ x. FabricSteps x (Restart c.args.e c.args.n) (Err NoMemory) x) c.self.view_is
    (not_opened c.args.e c.args.n c.self.invariant r.there
    (omega (arith, incarnation_is c.args.e c.self.invariant r.there r.opened, c.if-n-index.false))).steps

opens : (c : goal.After-nothing) → let f = fabric_of c.self.inside.edges.items c.self.inside.configs.items
    c.self.inside.pool.items in Does f (with_opened f c.args.e c.in-Ok.edge
    (in_incarnation c.index_mut-2.result.now c.args.n))
    (Restart c.args.e c.args.n) (Ok nothing)
opens c =
    let f = fabric_of c.self.inside.edges.items c.self.inside.configs.items c.self.inside.pool.items in
    let within : c.args.e ≤ length f.edges = omega (arith, c.if-e-len.false, c.len.ensures) in
    let first = restarts f c.args.e c.index.result.now c.self.invariant c.if-e-eq0.false within c.index.ensures in
    let second = restarts f c.args.e c.index-2.result.now c.self.invariant c.if-e-eq0.false within c.index-2.ensures in
    let third = restarts f c.args.e c.index_mut-2.result.now c.self.invariant c.if-e-eq0.false within
    c.index_mut-2.ensures.value in
    let same = same_nth f.configs c.args.e second.opened third.opened in
    restart_does c.args.e c.args.n c.self.invariant first.there
    third.opened (omega (arith, incarnation_is c.args.e c.self.invariant first.there first.opened, c.if-n-index.false))
    (subst (λ d. IsOpening (in_incarnation d c.args.n) c.in-Ok.edge) same
    (subst (λ d. IsOpening d c.in-Ok.edge) c.in_incarnation-config.ensures c.in-Ok.ensures)) c.always_good.ensures

pub invariant_of-self : goal.invariant_of-self
invariant_of-self c = (opens c).sound

pub returns : goal.returns
returns c =
    let f = fabric_of c.self.inside.edges.items c.self.inside.configs.items c.self.inside.pool.items in
    subst (λ r. FabricSteps c.args.self.now (Restart c.args.e c.args.n) (Ok r)
    (with_opened f c.args.e c.in-Ok.edge (in_incarnation c.index_mut-2.result.now c.args.n))) (sym c.nothing.ensures)
    (subst (λ x. FabricSteps x (Restart c.args.e c.args.n) (Ok nothing)
    (with_opened f c.args.e c.in-Ok.edge (in_incarnation c.index_mut-2.result.now c.args.n))) c.self.view_is
    (opens c).steps)
