use Rattle.std.proofs.Common.{rules, ◌≡◌, List, [], Some, map, get_or, subst, sym, ap, ◌∙◌}
use Rattle.std.specs.List.{cons_option}
use Rattle.ev_config.specs.declared.endpoint.PortEndpoints.{PortEndpoints}
use Rattle.ev_run.specs.declared.bound.Cable.{Cable}
use Rattle.ev_run.specs.LinkEnds.{local_of, remote_of}
use Rattle.ev_run.specs.Inner.Sockets.{local_end, remote_end}
use Rattle.ev_run.specs.Sockets.{locals_of, lacks_end, lacks_ends, Hinders}
use Rattle.ev_run.proofs.Binding.{end_more, whole_more, lacks_none, exits, port_hinders}
use Rattle.ev_run.proofs.sockets.bind_ports.Goals as goal

pub loop-link-preserved : goal.loop-link-preserved
loop-link-preserved g c =
    let links = c.as_slice-links.result.now in
    let place = c.loop-link.link-index in
    let link : PortEndpoints = c.link-item.result in
    let cable : Cable = c.in_ok-cable_of.field-0 in
    let local : local_of (get_or links place link) ≡ Some (local_end cable) =
    ap local_of (sym c.link-item.is) ∙ c.in_ok-cable_of.ensures.local in
    let remote : remote_of (get_or links place link) ≡ Some (remote_end cable) =
    ap remote_of (sym c.link-item.is) ∙ c.in_ok-cable_of.ensures.remote in
    record {
      ports = search rules;
      room = search rules;
      bound = ap (λ (ports : List Cable). map local_end ports) c.push_reserved.ensures.items
          ∙ end_more local_of local_end links place link
          c.loop-link.ports.items cable c.loop-link-test.true c.loop-link.invariant.bound local;
      remotes = ap (λ (ports : List Cable). map remote_end ports) c.push_reserved.ensures.items
          ∙ end_more remote_of remote_end links place link
          c.loop-link.ports.items cable c.loop-link-test.true c.loop-link.invariant.remotes remote;
      whole = whole_more links place link c.loop-link-test.true c.loop-link.invariant.whole
          (lacks_none (get_or links place link) (local_end cable) (remote_end cable) local remote);
    }

pub returns-in_err-cable_of-clause-hindered : goal.returns-in_err-cable_of-clause-hindered
returns-in_err-cable_of-clause-hindered g c =
    let of = c.args.links.now in
    let links = c.as_slice-links.result.now in
    let place = c.loop-link.link-index in
    let link : PortEndpoints = c.link-item.result in
    let why = c.in_err-cable_of.field-0.0 in
    exits c.from_residual.result (locals_of of.items) (lacks_ends of.items) why
    c.from_residual.ensures.1
    (subst (λ (ls : List PortEndpoints). Hinders (locals_of ls) (lacks_ends ls) why) c.as_slice-links.ensures.value
    (port_hinders links place link why c.loop-link-test.true
    (subst (λ (l : PortEndpoints). Hinders (cons_option (local_of l) []) (lacks_end l) why) c.link-item.is
    c.in_err-cable_of.ensures.hindered)))
