use Rattle.std.proofs.Common.{◌≡◌, true, sym, ap, ◌∙◌}
use Rattle.std.specs.Option.{is_some}
use Rattle.ev_mobility.specs.Moves.{Moves, has_place}
use Rattle.ev_mobility.specs.Window.{after_move}
use Rattle.ev_mobility.proofs.Placing.{find, place_found, set_there, keys_there, noted}
use Rattle.ev_mobility.proofs.moves.Moves.note.Goals as goal

pub returns-clause-after : goal.returns-clause-after
returns-clause-after c =
    let es = c.self.inside.places.entries in
    let key = c.args.key.now in
    let there : is_some (find es key) ≡ true = sym (place_found es key)
    ∙ ap (λ (m : Moves). has_place m key) c.self.view_is ∙ c.requires in
    noted es c.insert.new.self.entries c.args.self.now key c.after_move.result c.args.second c.self.view_is
    (set_there c.insert.result (find es key) _ c.insert.ensures.updates c.insert.ensures.absent there).0
    (keys_there c.insert.result (find es key) _ c.insert.ensures.old c.insert.ensures.keys_stay c.insert.ensures.absent
    there)
    (c.after_move.ensures ∙ ap (λ w. after_move w c.args.second) c.window-window.ensures)
