use Rattle.std.proofs.Common.{sym, ap, ◌∙◌}
use Rattle.route_wire.specs.Order.{is_newer}
use Rattle.route_join.specs.Table.{update_at, is_news}
use Rattle.ev_claims.specs.Speaker.{Speaker, is_newest}
use Rattle.ev_claims.proofs.Said.{there}
use Rattle.ev_claims.proofs.speaker.Speaker.is_newest.Goals as goal

pub returns-in-Some : goal.returns-in-Some
returns-in-Some c =
    let t = c.self.inside.table in
    let u = c.args.update.now in
    let is_there = there t u.register c.in-Some.last (sym c.in-Some.is ∙ c.register.ensures
    ∙ ap (update_at t) c.register-register.ensures) in
    c.is_newer.ensures ∙ ap (is_newer u.value) is_there.valued ∙ sym (ap (λ o. is_news o u.value) is_there.at)
    ∙ ap (λ (v : Speaker). is_newest v u) c.self.view_is
