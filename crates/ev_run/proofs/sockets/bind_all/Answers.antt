use Rattle.std.proofs.Common.{map}
use Rattle.ev_run.specs.Sockets.{all_ends, lacks_address}
use Rattle.ev_run.specs.Inner.Sockets.{bound_at}
use Rattle.ev_run.proofs.Binding.{exits, tunnel_hinders, ports_hinder, edge_hinders}
use Rattle.ev_run.proofs.sockets.bind_all.Goals as goal

pub returns-in_err-bind-clause-hindered : goal.returns-in_err-bind-clause-hindered
returns-in_err-bind-clause-hindered g c =
    let config = c.args.config.now in
    let rest = c.loop-edge.edge-iterator in
    let more = c.next.new.self in
    let edge = c.in-Some.edge.now in
    let links = c.in-Some.links.now in
    let why = c.in_err-bind.field-0.0 in
    exits c.from_residual.result (all_ends config) (lacks_address config) why
    c.from_residual.ensures.1
    (edge_hinders (map bound_at c.loop-edge.all.items) rest.a.rest.now more.a.rest.now rest.b.rest.now more.b.rest.now
    edge links config why c.in-Some.ensures.steps c.loop-edge.invariant.bound c.loop-edge.invariant.whole
    (tunnel_hinders edge links c.tunnel_of-at.result why c.tunnel_of-at.ensures c.in_err-bind.ensures))

pub returns-in_err-bind_ports-clause-hindered : goal.returns-in_err-bind_ports-clause-hindered
returns-in_err-bind_ports-clause-hindered g c =
    let config = c.args.config.now in
    let rest = c.loop-edge.edge-iterator in
    let more = c.next.new.self in
    let edge = c.in-Some.edge.now in
    let links = c.in-Some.links.now in
    let why = c.in_err-bind_ports.field-0.0 in
    exits c.from_residual-in_err-bind_ports.result (all_ends config) (lacks_address config) why
    c.from_residual-in_err-bind_ports.ensures.1
    (edge_hinders (map bound_at c.loop-edge.all.items) rest.a.rest.now more.a.rest.now rest.b.rest.now more.b.rest.now
    edge links config why c.in-Some.ensures.steps c.loop-edge.invariant.bound c.loop-edge.invariant.whole
    (ports_hinder edge links why c.in_err-bind_ports.ensures.hindered))
