use Rattle.std.proofs.Common.{refl}
use Rattle.ev_edge.proofs.Owning.{removal_holds}
use Rattle.ev_edge.proofs.Keeping.{kept, holds_of}
use Rattle.ev_edge.proofs.edge.Edge.unpin.Goals as goal

pub invariant_of-self : goal.invariant_of-self
invariant_of-self c =
    let f = c.self.inside in
    kept c.self.invariant c.remove.ensures
    (removal_holds f.routes c.args.station.now f.clock (holds_of c.self.invariant)) refl refl
