use Rattle.std.proofs.Common.{Bool, [], ◌∷◌, Some, sym, ap, subst, ◌∙◌}
use Rattle.ev_links.specs.Coming.{behind}
use Rattle.ev_exchange.specs.declared.announcing.Due.{Due}
use Rattle.ev_exchange.specs.SendLoop.{has_due, SaysTables}
use Rattle.ev_exchange.proofs.Sayings.{passing_flushed, passing_update, passing_back, passes_without}
use Rattle.ev_exchange.proofs.Sayings.{passes_shut}
use Rattle.ev_exchange.proofs.send_loop.pass_on.Goals as goal

pub returns-then-not-is_open : goal.returns-then-not-is_open
returns-then-not-is_open g c =
    passes_shut c.args.edges (g.S.Announcing.told c.args.from.now) (g.S.Announcing.told c.loop.from) c.args.sender.now
    c.loop.sender c.loop.invariant (sym c.is_open.ensures ∙ c.if-not-is_open.true)

pub returns-in_default : goal.returns-in_default
returns-in_default g c =
    let before = g.S.Announcing.told c.args.from.now in
    let now = g.S.Announcing.told c.loop.from in
    passes_without c.args.edges before now c.args.sender.now c.next_item.new.sender
    (passing_flushed c.args.edges before now c.args.sender.now c.loop.sender c.loop.invariant c.next_item.new.sender
    c.next_item.ensures.said) (g.S.Announcing.told c.next_item.new.from) c.in_default.ensures.comes

pub loop-preserved-in-Update : goal.loop-preserved-in-Update
loop-preserved-in-Update g c =
    let before = g.S.Announcing.told c.args.from.now in
    let now = g.S.Announcing.told c.loop.from in
    passing_update c.args.edges before now c.args.sender.now c.next_item.new.sender
    (passing_flushed c.args.edges before now c.args.sender.now c.loop.sender c.loop.invariant c.next_item.new.sender
    c.next_item.ensures.said) c.in-Update.update (g.S.Announcing.told c.next_item.new.from) c.put.new.self
    (c.in-Some-next_item.ensures.comes ∙ ap (λ (d : Due). behind now (has_due (Some d) ∷ [])) c.in-Update.is)
    c.put.ensures.said

pub loop-preserved : goal.loop-preserved
loop-preserved g c =
    let before = g.S.Announcing.told c.args.from.now in
    let now = g.S.Announcing.told c.loop.from in
    let named = g.S.Announcing.told c.next_item.new.from in
    let next = g.S.Announcing.told c.say_tables.new.from in
    let o = c.in-Back.originator in
    let t = c.next_item.new.sender in
    let u = c.say_tables.new.sender in
    passing_back c.args.edges before now c.args.sender.now t
    (passing_flushed c.args.edges before now c.args.sender.now c.loop.sender c.loop.invariant t
    c.next_item.ensures.said) o named next u
    (c.in-Some-next_item.ensures.comes ∙ ap (λ (d : Due). behind now (has_due (Some d) ∷ [])) c.in-Back.is)
    (subst (λ (b : Bool). SaysTables c.args.edges (Some o) named next t u b) c.if-not-say_tables.false
    c.say_tables.ensures)
