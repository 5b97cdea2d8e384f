use Rattle.std.proofs.Common.{refl}
use Rattle.ev_edge.specs.declared.learning.Case.TheVariants.{Refresh, Freeze, Learn, Move}
use Rattle.ev_edge.proofs.Cases.{case_holds}
use Rattle.ev_edge.proofs.Keeping.{kept, holds_of, refresh_holds}
use Rattle.ev_edge.proofs.edge.Edge.learn.Goals as goal

pub invariant_of-self : goal.invariant_of-self
invariant_of-self c =
    let f = c.self.inside in
    kept c.self.invariant
    c.refresh.ensures
    (refresh_holds f.routes c.args.station.now c.args.port f.clock c.requires.individual
    (holds_of c.self.invariant)) refl refl

pub refresh-requires-clause-there : goal.refresh-requires-clause-there
refresh-requires-clause-there c =
    rw (← c.self.view_is) at
    (case_holds c.args.self.now c.args.station.now c.args.port Refresh c.in-Refresh.ensures).known

pub freeze-requires : goal.freeze-requires
freeze-requires c = case_holds c.args.self.now c.args.station.now c.args.port Freeze c.in-Freeze.ensures

pub learn_first-requires-clause-few : goal.learn_first-requires-clause-few
learn_first-requires-clause-few c =
    (case_holds c.args.self.now c.args.station.now c.args.port Learn c.in-Learn.ensures).calm

pub learn_moved-requires-clause-next : goal.learn_moved-requires-clause-next
learn_moved-requires-clause-next c =
    (case_holds c.args.self.now c.args.station.now c.args.port (Move c.in-Move.number) c.in-Move.ensures).next

pub learn_moved-requires-clause-few : goal.learn_moved-requires-clause-few
learn_moved-requires-clause-few c =
    (case_holds c.args.self.now c.args.station.now c.args.port (Move c.in-Move.number) c.in-Move.ensures).calm
