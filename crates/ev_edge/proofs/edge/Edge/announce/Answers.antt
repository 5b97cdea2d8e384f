use Rattle.std.proofs.Common.{refl}
use Rattle.ev_edge.proofs.Keeping.{kept, holds_of, announced_holds}
use Rattle.ev_edge.proofs.edge.Edge.announce.Goals as goal

pub invariant_of-self : goal.invariant_of-self
invariant_of-self c =
    let f = c.self.inside in
    kept c.self.invariant
    c.announce-reply.ensures.after
    (announced_holds f.routes f.clock (holds_of c.self.invariant)) refl refl
