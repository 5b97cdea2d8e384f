use Rattle.std.proofs.Common.{◌≡◌, sym}
use Rattle.ev_edge.proofs.Places.{set_port}
use Rattle.ev_edge.proofs.edge.Edge.port_of.Goals as goal

pub returns-in-Some-clause-port : goal.returns-in-Some-clause-port
returns-in-Some-clause-port c = λ x is.
    let good = c.always_good.ensures.routes in
    let same : c.in-Some.entry.port ≡ x = cc in
    rw same at (set_port c.self.inside.routes.ports c.in-Some.entry.port c.args.vni good.few
    (good.ports (record { vni = c.args.vni; mac = c.args.mac }) c.in-Some.entry (sym c.in-Some.ensures)))
