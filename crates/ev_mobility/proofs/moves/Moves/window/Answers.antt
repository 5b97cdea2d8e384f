use Rattle.std.proofs.Common.{sym, ap, ◌∙◌}
use Rattle.ev_mobility.specs.Moves.{Moves, window_at}
use Rattle.ev_mobility.proofs.Placing.{joined, window_found}
use Rattle.ev_mobility.proofs.moves.Moves.window.Goals as goal

pub returns-in-Some : goal.returns-in-Some
returns-in-Some c = ap joined c.in-Some.ensures.value ∙ sym (window_found c.self.inside.places.entries c.args.key.now)
    ∙ ap (λ (m : Moves). window_at m c.args.key.now) c.self.view_is

pub returns-in-None : goal.returns-in-None
returns-in-None c = ap joined c.in-None.ensures.value ∙ sym (window_found c.self.inside.places.entries c.args.key.now)
    ∙ ap (λ (m : Moves). window_at m c.args.key.now) c.self.view_is
