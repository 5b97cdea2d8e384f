use Rattle.std.proofs.Common.{arith}
use Rattle.ev_claims.specs.Leaving.{after_flush, flushed_in}
use Rattle.ev_edge.specs.Edge.{edge_of}
use Rattle.ev_edge.proofs.Keeping.{bridged, holds_of, flush_holds, removals_ports, removals_list}
use Rattle.ev_edge.proofs.edge.Edge.bridge_event.Goals as goal

pub invariant_of-self : goal.invariant_of-self
invariant_of-self c =
    let f = c.self.inside in
    let e = edge_of f.routes f.clock f.ageing f.bridge f.moves f.away.items f.quotas.items f.storms.items in
    bridged e f.passing c.passing_ports-self-inside.result f.clock c.go_on-flush.new.bridge
    (after_flush f.routes c.go_on-flush.result) c.flush.new.self c.self.invariant
    c.go_on-flush.ensures.ports c.passing_ports-self-inside.ensures
    (omega arith) c.self.invariant.keeps.early c.flush.ensures (flush_holds f.routes c.go_on-flush.result f.clock
    (holds_of c.self.invariant)) (removals_ports f.routes
    (flushed_in f.routes.learned c.go_on-flush.result))
    (removals_list f.routes (flushed_in f.routes.learned c.go_on-flush.result))
