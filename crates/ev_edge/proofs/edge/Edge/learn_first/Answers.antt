use Rattle.std.proofs.Common.{refl}
use Rattle.ev_claims.specs.LocalRoutes.{after_advert}
use Rattle.ev_edge.proofs.Keeping.{either, holds_of}
use Rattle.ev_edge.proofs.Winning.{advert_holds}
use Rattle.ev_edge.proofs.edge.Edge.learn_first.Goals as goal

pub invariant_of-self-then-is_counted : goal.invariant_of-self-then-is_counted
invariant_of-self-then-is_counted c =
    let f = c.self.inside in
    let s = c.args.station.now in
    let next = rw (← c.self.view_is) at c.requires.next in
    either (after_advert f.routes s c.args.port f.clock 0) c.advertise.new.self c.advertise.result
    c.self.invariant c.advertise.ensures.ok c.advertise.ensures.err
    (advert_holds f.routes s c.args.port f.clock 0 c.always_good.ensures.routes next c.requires.individual
    (holds_of c.self.invariant)) refl refl

pub invariant_of-self-else-is_counted : goal.invariant_of-self-else-is_counted
invariant_of-self-else-is_counted c =
    let f = c.self.inside in
    let s = c.args.station.now in
    let next = rw (← c.self.view_is) at c.requires.next in
    either (after_advert f.routes s c.args.port f.clock 0) c.advertise.new.self c.advertise.result
    c.self.invariant c.advertise.ensures.ok c.advertise.ensures.err
    (advert_holds f.routes s c.args.port f.clock 0 c.always_good.ensures.routes next c.requires.individual
    (holds_of c.self.invariant)) refl refl
