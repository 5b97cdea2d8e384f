use Rattle.ev_claims.specs.LocalRoutes.{after_take}
use Rattle.ev_edge.proofs.Owning.{taken_holds}
use Rattle.ev_edge.proofs.Keeping.{either, holds_of, taken_ports, taken_list}
use Rattle.ev_edge.proofs.edge.Edge.take_other.Goals as goal

pub invariant_of-self : goal.invariant_of-self
invariant_of-self c =
    let f = c.self.inside in
    let u = c.args.update.now in
    either (after_take f.routes u) c.import.new.self c.import.result c.self.invariant c.import.ensures.ok
    c.import.ensures.err
    (taken_holds f.routes u f.clock (holds_of c.self.invariant)) (taken_ports f.routes u)
    (taken_list f.routes u)
