use Rattle.std.proofs.Common.{◌≡◌, ◌==◌, true, false, sym, ap, subst, ◌∙◌}
use Rattle.route_wire.specs.declared.update.Register.{Register}
use Rattle.ev_exchange.specs.Sending.{HasSaid, is_own}
use Rattle.ev_exchange.proofs.Sending.{own_is, own_isnt}
use Rattle.ev_exchange.proofs.Sayings.{said_none}
use Rattle.ev_exchange.proofs.sender.Sender.put_own.Goals as goal

pub returns-then-eq-clause-said : goal.returns-then-eq-clause-said
returns-then-eq-clause-said g c =
    let own : is_own c.args.originator c.args.update.now ≡ true =
    ap (λ (r : Register). r.originator == c.args.originator) (sym c.register.ensures) ∙ sym c.eq.ensures
    ∙ c.if-eq.true in
    subst (HasSaid c.args.self.now c.put.new.self) (sym (own_is c.args.originator c.args.update.now own))
    c.put.ensures.said

pub returns-else-eq-clause-said : goal.returns-else-eq-clause-said
returns-else-eq-clause-said g c =
    let other : is_own c.args.originator c.args.update.now ≡ false =
    ap (λ (r : Register). r.originator == c.args.originator) (sym c.register.ensures) ∙ sym c.eq.ensures
    ∙ c.if-eq.false in
    subst (HasSaid c.args.self.now c.args.self.now) (sym (own_isnt c.args.originator c.args.update.now other))
    (said_none c.args.self.now)
