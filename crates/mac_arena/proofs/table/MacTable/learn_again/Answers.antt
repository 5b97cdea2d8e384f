use Rattle.std.proofs.Common.{arith, ap, ◌∙◌}
use Rattle.mac_arena.specs.Inner.Learning.{heard, held, shifted, standing}
use Rattle.mac_arena.specs.Entry.{pinned_at}
use Rattle.mac_arena.specs.declared.station.Learned.{Learned}
use Rattle.mac_arena.proofs.Values.{known_at, standing_is, stands, latest_with, refreshed_is, moved_is}
use Rattle.mac_arena.proofs.table.MacTable.learn_again.Goals as goal

pub hold-requires-clause-at : goal.hold-requires-clause-at
hold-requires-clause-at c = stands c.args.self.now c.args.node c.args.learned.now c.requires.at

pub hold-requires-clause-ageing : goal.hold-requires-clause-ageing
hold-requires-clause-ageing c = ap (λ (y : Learned). y.entry.pinned)
    (standing_is c.args.self.now c.args.node c.args.learned.now c.requires.at) ∙ c.if-learned.false

pub hear-requires-clause-at : goal.hear-requires-clause-at
hear-requires-clause-at c = stands c.hold.new.self c.args.node _ c.hold.ensures.at

pub hear-requires-clause-pinned : goal.hear-requires-clause-pinned
hear-requires-clause-pinned c = ap (λ (y : Learned). y.entry.pinned)
    (standing_is c.hold.new.self c.args.node _ c.hold.ensures.at)

pub hear-requires-clause-latest : goal.hear-requires-clause-latest
hear-requires-clause-latest c = rw c.hold.ensures.after (latest_with c.args.self.now _ (pinned_at _) c.args.second
    c.requires.latest (omega arith))

pub returns-then-learned-port-clause-after : goal.returns-then-learned-port-clause-after
returns-then-learned-port-clause-after c =
    let t = c.args.self.now in
    let s = c.args.learned.now.station in
    let is = standing_is t c.args.node c.args.learned.now c.requires.at in
    let after = standing_is c.hold.new.self c.args.node _ c.hold.ensures.at in
    c.hear.ensures
    ∙ (λ i. heard (c.hold.ensures.after i) (after i).station (after i).entry.port c.args.second)
    ∙ (λ i. heard (held t (is i).station (is i).entry.port) (is i).station (is i).entry.port c.args.second)
    ∙ ap (λ p. heard (held t s p) s p c.args.second) c.if-learned-port.true
    ∙ refreshed_is t s c.args.port c.args.second

pub hear-requires-2-clause-latest : goal.hear-requires-2-clause-latest
hear-requires-2-clause-latest c =
    let t = c.args.self.now in
    let y = standing t c.args.node in
    let known = known_at t c.args.node y (stands t c.args.node c.args.learned.now c.requires.at) in
    rw c.hold-2.ensures.after (latest_with c.shift.new.self _ (pinned_at _) c.args.second
    (rw c.shift.ensures.after (latest_with t _ _ c.args.second c.requires.latest
    (c.requires.latest y.station y.entry known))) (omega arith))

pub returns-clause-after : goal.returns-clause-after
returns-clause-after c =
    let t = c.args.self.now in
    let x = c.args.learned.now in
    let p = c.args.port in
    let is = standing_is t c.args.node x c.requires.at in
    let moved = standing_is c.shift.new.self c.args.node _ c.shift.ensures.at in
    let after = standing_is c.hold-2.new.self c.args.node _ c.hold-2.ensures.at in
    c.hear-2.ensures
    ∙ (λ i. heard (c.hold-2.ensures.after i) (after i).station (after i).entry.port c.args.second)
    ∙ (λ i. heard (held (c.shift.ensures.after i) (moved i).station (moved i).entry.port) (moved i).station
    (moved i).entry.port c.args.second)
    ∙ (λ i. heard (held (shifted t (is i).station (is i).entry p) (is i).station p) (is i).station p c.args.second)
    ∙ moved_is t x.station x.entry p c.args.second
