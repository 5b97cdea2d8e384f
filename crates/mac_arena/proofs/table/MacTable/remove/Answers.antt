use Rattle.std.proofs.Common.{ap, sym, ◌∙◌, ◌≡◌, Some}
use Rattle.mac_arena.specs.Learning.{entry_at}
use Rattle.mac_arena.specs.Inner.Learning.{dropped, held}
use Rattle.mac_arena.specs.declared.station.Learned.{Learned}
use Rattle.mac_arena.proofs.Values.{known_at, standing_is, pinned_goes, held_goes}
use Rattle.mac_arena.proofs.table.MacTable.remove.Goals as goal

pub returns-then-learned-clause-after : goal.returns-then-learned-clause-after
returns-then-learned-clause-after c =
    let t = c.args.self.now in
    let same = c.in-Some.ensures.same in
    let known : entry_at t c.args.key.now ≡ Some c.in-Some.learned.entry = ap (entry_at t) (sym same)
    ∙ known_at t c.in-Some.node c.in-Some.learned c.in-Some.ensures.found in
    let is = standing_is t c.in-Some.node c.in-Some.learned c.in-Some.ensures.found in
    c.leave.ensures ∙ ap (λ (y : Learned). dropped t y.station) is ∙ ap (dropped t) same
    ∙ pinned_goes t c.args.key.now c.in-Some.learned.entry known (c.in-Some.ensures.still c.if-learned.true)

pub hold-requires-clause-ageing : goal.hold-requires-clause-ageing
hold-requires-clause-ageing c = ap (λ (y : Learned). y.entry.pinned)
    (standing_is c.args.self.now c.in-Some.node c.in-Some.learned c.in-Some.ensures.found) ∙ c.if-learned.false

pub returns-else-learned-clause-after : goal.returns-else-learned-clause-after
returns-else-learned-clause-after c =
    let t = c.args.self.now in
    let x = c.in-Some.learned in
    let same = c.in-Some.ensures.same in
    let known : entry_at t c.args.key.now ≡ Some x.entry = ap (entry_at t) (sym same)
    ∙ known_at t c.in-Some.node x c.in-Some.ensures.found in
    let is = standing_is t c.in-Some.node x c.in-Some.ensures.found in
    let after = standing_is c.hold.new.self c.in-Some.node _ c.hold.ensures.at in
    c.leave-else-learned.ensures
    ∙ (λ i. dropped (c.hold.ensures.after i) (after i).station)
    ∙ (λ i. dropped (held t (is i).station (is i).entry.port) (is i).station)
    ∙ ap (λ s. dropped (held t s x.entry.port) s) same
    ∙ held_goes t c.args.key.now x.entry known
