-- At rest an edge elsewhere is marked as away exactly if it is overdue.
use Rattle.std.proofs.Common.{◌≡◌, Bool, true, false, cond, List, [], ◌∷◌, map, Option, Some, None, refl, ap, ◌∙◌}
use Rattle.ev_exchange.specs.declared.sessions.Session.{Session}
use Rattle.ev_exchange.specs.declared.sessions.Turn.{Turn}
use Rattle.ev_exchange.specs.Sessions.{is_overdue, turn_to, or_later, first_turn, MarksAreDue}

-- the mark of one session, and the sessions after it
one_mark : (overdue marked : Bool) (s : Session) (later : Option Turn)
    → or_later (cond overdue (cond marked None (Some (turn_to true s))) (cond marked (Some (turn_to false s)) None))
    later ≡ None → (marked ≡ overdue) × (later ≡ None)
one_mark true true s later none = (refl, none)
one_mark true false s later none = let h = none in cc
one_mark false true s later none = let h = none in cc
one_mark false false s later none = (refl, none)

pub marks_are_due : MarksAreDue
marks_are_due now hold [] none = refl
marks_are_due now hold (s ∷ more) none =
    let one = one_mark (is_overdue now hold s) s.is_away s (first_turn now hold more) none in
    ap (λ (b : Bool). b ∷ map (λ (x : Session). x.is_away) more) one.0
    ∙ ap (λ (bs : List Bool). is_overdue now hold s ∷ bs) (marks_are_due now hold more one.1)
