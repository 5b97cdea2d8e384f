-- An edge has an update that it has taken from then on.
use Rattle.std.proofs.Common.{◌≡◌, inl, inr, ℕ, zero, suc, Ok, List, [], ◌∷◌, sym, ap, arith}
use Rattle.route_wire.specs.Fields.{Fields}
use Rattle.route_join.specs.Table.{value_at}
use Rattle.ev_edge.specs.Edge.{table_of}
use Rattle.ev_fabric.specs.declared.step.Step.{Step}
use Rattle.ev_fabric.specs.declared.step.Step.TheVariants.{Local, Announce, Deliver, Restart}
use Rattle.ev_fabric.specs.Fabric.{Fabric}
use Rattle.ev_fabric.specs.Sound.{IsSound}
use Rattle.ev_fabric.specs.Runs.{Runs, StaysOpen}
use Rattle.ev_fabric.specs.Station.{NoneRestarts}
use Rattle.ev_fabric.specs.Rounds.{TakenStays}
use Rattle.ev_fabric.proofs.Places.{minus, set_cases}
use Rattle.ev_fabric.proofs.Events.{local_talks}
use Rattle.ev_fabric.proofs.Fabrics.{Did, Moved, Spoke, Opened, did, step_sound}
use Rattle.ev_fabric.proofs.ConvergingSums.{later_one}
use Rattle.ev_fabric.proofs.ConvergingMoves.{before, sound_kept}
use Rattle.ev_fabric.proofs.ConvergingRounds.{Has, given_ok, arrived_value}
use Rattle.ev_fabric.proofs.StationStages.{talks_news}

-- an update that is known stays known after each step except a restart of the edge
did_has : {old new : Fabric} {step : Step} (i : ℕ) (u : Fields) → IsSound old → Did old step new
    → ((n : ℕ) → step ≡ Restart (suc i) n → ⊥) → Has old i u → Has new i u
did_has i u sound (Moved move) stays has b at = let x = before move sound i at in
    x.later.news u.register u.value (has x.was x.at)
did_has {old} i u sound (Spoke x a c event answer is steps) stays has b at =
    elim (set_cases old.edges x c i b at) [
      | inl p ↦ rw p.1 (talks_news (local_talks a event answer c steps) (sound.good x a is).routes.numbers u
          (has a (rw p.0 is)))
      | inr p ↦ has b p.1
    ]
did_has {old} i u sound (Opened x a n reply new is s) stays has b at =
    elim (set_cases old.edges x s.after i b (rw (s.new_is, minus x) at at)) [
      | inl p ↦ absurd (stays n (ap (λ y. Restart (suc y) n) (sym p.0)))
      | inr p ↦ has b p.1
    ]

pub first_open : (i : ℕ) (step : Step) (steps : List Step) → StaysOpen i (step ∷ steps) → (n : ℕ)
    → step ≡ Restart (suc i) n → ⊥
first_open i step steps stays n is = stays n (zero, omega arith, is)

pub rest_open : (i : ℕ) (step : Step) (steps : List Step) → StaysOpen i (step ∷ steps) → StaysOpen i steps
rest_open i step steps stays n in' = stays n (later_one step steps (Restart (suc i) n) in')

pub open_has : (steps : List Step) (old new : Fabric) (i : ℕ) (u : Fields) → IsSound old → Runs old steps new
    → StaysOpen i steps → Has old i u → Has new i u
open_has [] old new i u sound h stays has = rw h has
open_has (step ∷ steps) old new i u sound h stays has =
    open_has steps h.0 new i u (step_sound old h.0 step h.1 h.2 sound) h.3 (rest_open i step steps stays)
    (did_has i u sound (did h.0 step h.1 sound h.2) (first_open i step steps stays) has)

pub none_first : (step : Step) (steps : List Step) → NoneRestarts (step ∷ steps)
    → NoneRestarts (step ∷ []) × NoneRestarts steps
none_first (Local e event) steps h = (tt, h)
none_first (Announce e) steps h = (tt, h)
none_first (Deliver e k) steps h = (tt, h)
none_first (Restart e n) steps h = absurd h

none_open : (steps : List Step) (i : ℕ) → NoneRestarts steps → StaysOpen i steps
none_open [] i none n (k, lt, is) = omega arith
none_open (step ∷ steps) i none n (zero, lt, is) = rw is at (none_first step steps none).0
none_open (step ∷ steps) i none n (suc k, lt, is) = none_open steps i (none_first step steps none).1 n
    (k, omega arith, is)

pub runs_has : (steps : List Step) {old : Fabric} (new : Fabric) (i : ℕ) (u : Fields) → IsSound old → Runs old steps new
    → NoneRestarts steps → Has old i u → Has new i u
runs_has steps {old} new i u sound h none has = open_has steps old new i u sound h (none_open steps i none) has

pub taken_stays : TakenStays
taken_stays i k u reply steps old mid new sound there gives runs none b at =
    arrived_value (value_at (table_of b) u.register) u.value
    (runs_has steps new i u (step_sound old mid (Deliver (suc i) (suc k)) (Ok reply) gives sound) runs none
    (given_ok old mid i k reply u (sound_kept old sound) gives there) b at)
