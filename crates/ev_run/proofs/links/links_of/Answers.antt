use Rattle.std.proofs.Common.{rules, ◌<◌, List, Option, length, get_or, map, subst, ap, ap₂, ◌∙◌}
use Rattle.ev_links.specs.WireOut.{destination_of}
use Rattle.ev_links.specs.declared.tap.Tap.{Tap}
use Rattle.ev_run.specs.declared.bound.Cable.{Cable}
use Rattle.ev_run.specs.Inner.Sockets.{link_of, to_remote, tap_of, devices_of, own_devices}
use Rattle.ev_run.proofs.Binding.{link_more}
use Rattle.ev_run.proofs.links.links_of.Goals as goal

pub loop-cable-preserved : goal.loop-cable-preserved
loop-cable-preserved g c =
    let all = c.args.sockets.now.ports.items in
    let place = c.loop-cable.cable-index in
    let cable : Cable = c.cable-item.result in
    let same = c.as_slice-cable-items.ensures.value in
    let within = subst (λ (ports : List Cable). place < length ports) same c.loop-cable-test.true in
    let is = c.cable-item.is ∙ ap (λ (ports : List Cable). get_or ports place cable) same in
    let link = link_of c.port_input-input.result c.port_output.result in
    record {
      ports = search rules;
      room = search rules;
      remotes = ap (λ links. map (λ link. destination_of link.output) links) c.with_link-ports.ensures.items
          ∙ link_more (λ link. destination_of link.output) to_remote all place cable c.loop-cable.ports.items link
          within c.loop-cable.invariant.remotes (c.port_output.ensures.destination ∙ ap to_remote is);
      devices = ap (λ links. map devices_of links) c.with_link-ports.ensures.items
          ∙ link_more devices_of own_devices all place cable c.loop-cable.ports.items link within
          c.loop-cable.invariant.devices
          (ap₂ (λ (i o : Option Tap). (i, o)) c.port_input-input.ensures c.port_output.ensures.device
          ∙ ap own_devices is);
    }
