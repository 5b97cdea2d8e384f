use Rattle.std.proofs.Common.{refl, sym}
use Rattle.mac_arena.specs.Learning.{entry_at}
use Rattle.ev_claims.specs.LocalRoutes.{after_pin}
use Rattle.ev_edge.proofs.Keeping.{kept, either, holds_of, shift_holds}
use Rattle.ev_edge.proofs.Winning.{pin_holds, pin_fits, pinned_alone}
use Rattle.ev_edge.proofs.edge.Edge.pin_there.Goals as goal

pub invariant_of-self : goal.invariant_of-self
invariant_of-self c =
    let f = c.self.inside in
    kept c.self.invariant
    c.shift.ensures
    (shift_holds f.routes c.args.station.now c.args.port f.clock
    (pin_fits c.args.self.now c.args.station.now c.args.port c.requires).1 (holds_of c.self.invariant))
    refl refl

pub invariant_of-self-in-Pin : goal.invariant_of-self-in-Pin
invariant_of-self-in-Pin c =
    let f = c.self.inside in
    let s = c.args.station.now in
    let alone = rw (← c.self.view_is) at (pinned_alone c.args.self.now s c.args.port (entry_at
    c.args.self.now.routes.learned
    s) (sym c.in-Pin.ensures)) in
    either (after_pin f.routes s c.args.port) c.pin.new.self c.pin.result c.self.invariant c.pin.ensures.ok
    c.pin.ensures.err
    (pin_holds f.routes s c.args.port f.clock c.always_good.ensures.routes alone
    (pin_fits c.args.self.now s c.args.port c.requires).1 (holds_of c.self.invariant)) refl refl
