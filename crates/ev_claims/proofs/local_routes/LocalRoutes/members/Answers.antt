use Rattle.std.proofs.Common.{Some, sym, ap, ◌∙◌}
use Rattle.std.proofs.lemmas.Option.{slice_get-get_or}
use Rattle.ether_wire.specs.Ports.{has_port}
use Rattle.ether_wire.proofs.PortLemmas.{has_port-none}
use Rattle.ev_claims.specs.LocalRoutes.{LocalRoutes}
use Rattle.ev_claims.proofs.Members.{none_counted, with_member, without_member, all_counted}
use Rattle.ev_claims.proofs.local_routes.LocalRoutes.members.Goals as goal
use Rattle.ev_claims.proofs.local_routes.LocalRoutes.members.Goals.{then-eq, else-eq}

pub loop-place-init : goal.loop-place-init
loop-place-init c p = has_port-none p ∙ sym (none_counted c.args.self.now.ports c.args.vni p)

pub loop-place-preserved : goal.loop-place-preserved
loop-place-preserved c p =
    let ports = c.args.self.now.ports in
    let place = c.loop-place.place in
    let at = rw (c.deref-port_vni-items.ensures.0 ∙ ap (λ (b : LocalRoutes). b.ports) c.self.view_is) at
    (slice_get-get_or c.deref-port_vni-items.result.now place c.port_vni-item.result c.loop-place-test.true
    ∙ ap Some (sym c.port_vni-item.is)) in
    elim c.if-eq.branch [
      | then-eq w ↦ (rw w.set-is) ∙ w.with_port-set.ensures.ports p
          ∙ with_member ports c.args.vni place at (sym w.if-eq.ensures) p (has_port c.loop-place.set p)
          (c.loop-place.invariant p)
      | else-eq w ↦ (rw w.set-is) ∙ without_member ports c.args.vni place at
          (sym w.if-eq.ensures) p (has_port c.loop-place.set p) (c.loop-place.invariant p)
    ]

pub returns : goal.returns
returns c p =
    c.loop-place.invariant p ∙ all_counted c.args.self.now.ports c.args.vni p
    (rw (c.deref-port_vni-items.ensures.0 ∙ ap (λ (b : LocalRoutes). b.ports) c.self.view_is) at
    c.loop-place-test.false)
