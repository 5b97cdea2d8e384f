use Rattle.std.proofs.Common.{sym, ◌∙◌}
use Rattle.std.proofs.Common.{ap, drop}
use Rattle.route_join.proofs.Places.{placed, gapped}
use Rattle.route_join.proofs.Afters.{start_at, after_place}
use Rattle.route_join.proofs.after.rest_after.Goals as goal

pub behind-requires : goal.behind-requires
behind-requires c = (placed c.args.updates.now c.args.register.now c.in-Ok.at (sym c.in-Ok.ensures)).within

pub returns-in-Ok : goal.returns-in-Ok
returns-in-Ok c = c.behind.ensures ∙ ap (λ p. drop (start_at p) c.args.updates.now) c.in-Ok.ensures
    ∙ after_place c.args.updates.now c.args.register.now c.requires.ordered

pub returns-in-Err : goal.returns-in-Err
returns-in-Err c = c.from.ensures ∙ ap (λ p. drop (start_at p) c.args.updates.now) c.in-Err.ensures
    ∙ after_place c.args.updates.now c.args.register.now c.requires.ordered

pub from-requires : goal.from-requires
from-requires c =
    (gapped c.args.updates.now c.args.register.now c.in-Err.at c.requires.ordered (sym c.in-Err.ensures)).within
