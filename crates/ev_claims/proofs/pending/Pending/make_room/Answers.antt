use Rattle.std.proofs.Common.{◌++◌, ◌∷◌, [], cond, Some, length, map, sym, ap, subst, ◌∙◌}
use Rattle.std.specs.Prelude.{Contains, slice_index_or}
use Rattle.route_wire.specs.contracts.update.RegisterPartialEq.TheImpl as register
use Rattle.route_join.proofs.Leaders.{on_ok}
use Rattle.ev_claims.specs.Inner.Pending.{Pending, queue, register_at, node_of}
use Rattle.ev_claims.proofs.Queue.{get_contains, room_pending, same_names, not_known}
use Rattle.ev_claims.proofs.pending.Pending.make_room.Goals as goal

pub returns-in-Some-clause-known : goal.returns-in-Some-clause-known
returns-in-Some-clause-known c = subst (λ (p : Pending). Contains p.known c.args.register.now) c.self.view_is
    (get_contains c.self.invariant c.args.register.now
    ((rw c.new.ensures) ∙ sym c.in-Some.ensures.value))

pub invariant_of-self-2 : goal.invariant_of-self-2
invariant_of-self-2 c =
    let count = ap length c.as_slice-registers.ensures.value in
    rw (c.push_reserved.ensures.items
    ∙ (λ i. c.in_ok-reserve.ensures.items i ++ c.new-3.ensures i ∷ []))
    (room_pending c.self.invariant c.args.register.now c.spare_node.ensures.families c.spare_node.ensures.counted
    c.spare_node.ensures.small (rw count at c.in_ok-spare_node.ensures.enough)
    ((rw c.new.ensures) ∙ sym c.in_default.ensures.value)
    (λ q. (on_ok c.insert.result _ c.insert.ensures.updates (sym c.is_err.ensures.value ∙ c.if-is_err.false)).0 q
    ∙ (λ i. cond (register.eq-value.it (c.new-2.ensures i) q) (Some (count i))
    (node_of c.self.inside.nodes.entries q))))

pub returns-clause-waiting : goal.returns-clause-waiting
returns-clause-waiting c =
    let f = c.self.inside in
    (λ i. map (register_at ((c.push_reserved.ensures.items
    ∙ (λ i. c.in_ok-reserve.ensures.items i ++ c.new-3.ensures i ∷ [])) i)) ((ap (λ fs. slice_index_or
    (slice_index_or fs 0 []) 0 []) c.spare_node.ensures.families) i))
    ∙ same_names f.registers.items c.args.register.now (queue f.links) c.self.invariant.within
    ∙ ap (λ (p : Pending). p.waiting) c.self.view_is

pub returns-in_err-reserve-clause-there : goal.returns-in_err-reserve-clause-there
returns-in_err-reserve-clause-there c h = absurd (not_known c.self.invariant c.args.register.now
    ((rw c.new.ensures) ∙ sym c.in_default.ensures.value)
    (rw (← c.self.view_is) at h))

pub returns-in_err-spare_node-clause-there : goal.returns-in_err-spare_node-clause-there
returns-in_err-spare_node-clause-there c h = absurd (not_known c.self.invariant c.args.register.now
    ((rw c.new.ensures) ∙ sym c.in_default.ensures.value)
    (rw (← c.self.view_is) at h))

pub returns-then-is_err-clause-there : goal.returns-then-is_err-clause-there
returns-then-is_err-clause-there c h = absurd (not_known c.self.invariant c.args.register.now
    ((rw c.new.ensures) ∙ sym c.in_default.ensures.value)
    (rw (← c.self.view_is) at h))
