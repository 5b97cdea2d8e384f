use Rattle.std.proofs.Common.{◌≡◌, true, sym, ◌∙◌}
use Rattle.std.specs.Option.{is_some}
use Rattle.ev_mobility.proofs.Placing.{find, set_there, keys_there, thawed, nothing_thawed, to_none}
use Rattle.ev_mobility.proofs.moves.Moves.thaw.Goals as goal

pub returns-then-contains_key : goal.returns-then-contains_key
returns-then-contains_key c =
    let es = c.self.inside.places.entries in
    let key = c.args.key.now in
    let there : is_some (find es key) ≡ true = sym c.contains_key.ensures ∙ c.if-contains_key.true in
    thawed es c.insert.new.self.entries c.args.self.now key c.self.view_is
    (set_there c.insert.result (find es key) _ c.insert.ensures.updates c.insert.ensures.absent there).0
    (keys_there c.insert.result (find es key) _ c.insert.ensures.old c.insert.ensures.keys_stay c.insert.ensures.absent
    there)

pub returns-else-contains_key : goal.returns-else-contains_key
returns-else-contains_key c =
    nothing_thawed c.self.inside.places.entries c.args.self.now c.args.key.now c.self.view_is
    (to_none _ (sym c.contains_key.ensures ∙ c.if-contains_key.false))
