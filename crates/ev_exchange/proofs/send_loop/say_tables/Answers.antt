use Rattle.std.proofs.Common.{ℕ, List, sym, subst, ◌∙◌}
use Rattle.route_wire.specs.Fields.{Fields}
use Rattle.ev_exchange.specs.Sending.{HasSaid, own_of}
use Rattle.ev_exchange.proofs.Sayings.{saying_more, saying_shut, saying_without}
use Rattle.ev_exchange.proofs.send_loop.say_tables.Goals as goal

pub returns-in_default : goal.returns-in_default
returns-in_default g c =
    saying_without c.loop-place.place c.args.named (g.S.Announcing.told c.args.from.now)
    (g.S.Announcing.told c.loop-place.from) c.args.sender.now c.loop-place.sender c.loop-place.invariant
    c.args.edges (g.S.Announcing.told c.table.new.self)
    c.in_default.ensures

pub returns-then-not-is_open : goal.returns-then-not-is_open
returns-then-not-is_open g c =
    saying_shut c.loop-place.place c.args.named (g.S.Announcing.told c.args.from.now)
    (g.S.Announcing.told c.loop-place.from) c.args.sender.now c.loop-place.sender c.loop-place.invariant
    c.in-Some.table (g.S.Announcing.told c.table.new.self)
    c.originate.new.self c.in-Some.ensures
    (subst (λ (o : ℕ). HasSaid c.loop-place.sender c.originate.new.self (own_of o c.in-Some.table.updates.items))
    c.whose.ensures
    (subst (λ (us : List Fields). HasSaid c.loop-place.sender c.originate.new.self (own_of c.whose.result us))
    c.as_slice.ensures.value c.originate.ensures.said)) c.args.edges (sym c.is_open.ensures ∙ c.if-not-is_open.true)

pub loop-place-preserved : goal.loop-place-preserved
loop-place-preserved g c =
    saying_more c.loop-place.place c.args.named (g.S.Announcing.told c.args.from.now)
    (g.S.Announcing.told c.loop-place.from) c.args.sender.now c.loop-place.sender c.loop-place.invariant
    c.in-Some.table (g.S.Announcing.told c.table.new.self)
    c.originate.new.self c.in-Some.ensures
    (subst (λ (o : ℕ). HasSaid c.loop-place.sender c.originate.new.self (own_of o c.in-Some.table.updates.items))
    c.whose.ensures
    (subst (λ (us : List Fields). HasSaid c.loop-place.sender c.originate.new.self (own_of c.whose.result us))
    c.as_slice.ensures.value c.originate.ensures.said))
