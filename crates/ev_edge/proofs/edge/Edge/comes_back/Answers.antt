use Rattle.ev_edge.proofs.Keeping.{other_away}
use Rattle.ev_edge.proofs.Marking.{back_listed}
use Rattle.ev_edge.proofs.edge.Edge.comes_back.Goals as goal

pub invariant_of-self : goal.invariant_of-self
invariant_of-self c =
    let f = c.self.inside in
    other_away c.remove.new.away.items c.self.invariant
    (rw c.remove.ensures (back_listed f.routes.speaker.table.originators f.away.items c.args.edge
    c.self.invariant.keeps.away))
