use Rattle.std.proofs.Common.{sym, ap, ◌∙◌}
use Rattle.route_join.proofs.Leaders.{on_ok}
use Rattle.ev_mobility.specs.Moves.{Moves, has_place}
use Rattle.ev_mobility.proofs.Placing.{place_found, room_windows, room_made, room_kept, never_placed, to_none}
use Rattle.ev_mobility.proofs.moves.Moves.room.Goals as goal

pub returns-then-contains_key-clause-place : goal.returns-then-contains_key-clause-place
returns-then-contains_key-clause-place c =
    ap (λ (m : Moves). has_place m c.args.key.now) (sym c.self.view_is)
    ∙ place_found c.self.inside.places.entries c.args.key.now
    ∙ sym c.contains_key.ensures ∙ c.if-contains_key.true

pub returns-clause-place : goal.returns-clause-place
returns-clause-place c =
    let updates = on_ok c.insert.result _ c.insert.ensures.updates (sym c.is_err.ensures.value ∙ c.if-is_err.false) in
    room_made c.self.inside.places.entries c.insert.new.self.entries c.args.key.now updates.0

pub returns-clause-windows : goal.returns-clause-windows
returns-clause-windows c =
    let updates = on_ok c.insert.result _ c.insert.ensures.updates (sym c.is_err.ensures.value ∙ c.if-is_err.false) in
    room_windows c.self.inside.places.entries c.insert.new.self.entries c.args.key.now
    (to_none _ (sym c.contains_key.ensures ∙ c.if-contains_key.false)) updates.0
    ∙ ap (λ (m : Moves). m.windows) c.self.view_is

pub returns-clause-kept : goal.returns-clause-kept
returns-clause-kept c = λ s has.
    let updates = on_ok c.insert.result _ c.insert.ensures.updates (sym c.is_err.ensures.value ∙ c.if-is_err.false) in
    room_kept c.self.inside.places.entries c.insert.new.self.entries c.args.key.now updates.0 s
    (ap (λ (m : Moves). has_place m s) c.self.view_is ∙ has)

pub returns-then-is_err-clause-there : goal.returns-then-is_err-clause-there
returns-then-is_err-clause-there c = λ has.
    absurd (never_placed c.self.inside.places.entries c.args.self.now c.args.key.now c.contains_key.result
    c.self.view_is c.contains_key.ensures c.if-contains_key.false has)
