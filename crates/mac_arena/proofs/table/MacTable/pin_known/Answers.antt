use Rattle.std.proofs.Common.{ap, ◌∙◌}
use Rattle.mac_arena.specs.Inner.Learning.{held, shifted}
use Rattle.mac_arena.specs.Entry.{pinned_at}
use Rattle.mac_arena.specs.declared.station.Learned.{Learned}
use Rattle.mac_arena.proofs.Values.{known_at, standing_is, pinned_stays, pinned_moves, held_is, held_moves}
use Rattle.mac_arena.proofs.table.MacTable.pin_known.Goals as goal

pub returns-then-learned-port : goal.returns-then-learned-port
returns-then-learned-port c =
    let x = c.args.learned.now in
    let t = c.args.self.now in
    let known = known_at t c.args.node x c.requires.at in
    let p = c.if-learned.true in
    let is = standing_is t c.args.node x c.requires.at in
    c.shift.ensures.after
    ∙ ap (λ (y : Learned). shifted t y.station y.entry c.args.port) is
    ∙ pinned_moves t x.station x.entry c.args.port known p (c.requires.timeless p) (c.requires.still p)
    c.if-learned-port.true

pub returns-else-learned-port : goal.returns-else-learned-port
returns-else-learned-port c =
    let x = c.args.learned.now in
    let known = known_at c.args.self.now c.args.node x c.requires.at in
    let p = c.if-learned.true in
    pinned_stays c.args.self.now x.station x.entry c.args.port known p (c.requires.timeless p) (c.requires.still p)
    c.if-learned-port.false

pub hold-requires-clause-ageing : goal.hold-requires-clause-ageing
hold-requires-clause-ageing c = ap (λ (y : Learned). y.entry.pinned)
    (standing_is c.args.self.now c.args.node c.args.learned.now c.requires.at) ∙ c.if-learned.false

pub returns-then-learned-port-2 : goal.returns-then-learned-port-2
returns-then-learned-port-2 c =
    let x = c.args.learned.now in
    let t = c.args.self.now in
    let known = known_at t c.args.node x c.requires.at in
    let is = standing_is t c.args.node x c.requires.at in
    let after = standing_is c.hold.new.self c.args.node _ c.hold.ensures.at in
    c.shift-then-learned-port-2.ensures.after
    ∙ (λ i. shifted (c.hold.ensures.after i) (after i).station (after i).entry c.args.port)
    ∙ (λ i. shifted (held t (is i).station (is i).entry.port) (is i).station (pinned_at (is i).entry.port) c.args.port)
    ∙ held_moves t x.station x.entry c.args.port known c.if-learned-port-2.true

pub returns-else-learned-port-2 : goal.returns-else-learned-port-2
returns-else-learned-port-2 c =
    let x = c.args.learned.now in
    let t = c.args.self.now in
    let known = known_at t c.args.node x c.requires.at in
    let is = standing_is t c.args.node x c.requires.at in
    c.hold.ensures.after ∙ (λ i. held t (is i).station (is i).entry.port)
    ∙ held_is t x.station x.entry c.args.port known c.if-learned-port-2.false
