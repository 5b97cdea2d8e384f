use Rattle.std.proofs.Common.{sym, ap, ◌∙◌}
use Rattle.route_join.specs.Table.{update_at}
use Rattle.ev_exchange.proofs.Lives.{newer_there}
use Rattle.ev_exchange.proofs.life.Life.is_news.Goals as goal

pub returns-in-Some : goal.returns-in-Some
returns-in-Some c =
    let t = c.args.self.now.said in
    let u = c.args.update.now in
    c.is_newer.ensures ∙ newer_there t u.register c.in-Some.said u.value
    (sym c.in-Some.is ∙ c.register.ensures ∙ ap (update_at t) c.register-register.ensures)
