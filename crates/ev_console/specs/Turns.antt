-- The steps of edges elsewhere that are away, or back, at edges that run.
use Rattle.std.specs.Prelude.{◌≡◌, ℕ, ◌+◌, Bool, true, false, if◌then◌else◌, List, [], ◌∷◌, length, Option, Some, None}
use Rattle.std.specs.Prelude.{Ok, Err}
use Rattle.std.specs.List.{list_all}
use Rattle.ev_links.specs.Coming.{behind}
use Rattle.ev_mailboxes.specs.declared.request.OperatorCommand.{OperatorCommand as Step}
use Rattle.ev_mailboxes.specs.declared.request.OperatorCommand.TheVariants as steps
use Rattle.ev_exchange.specs.declared.sessions.Session.{Session}
use Rattle.ev_exchange.specs.declared.sessions.Turn.{Turn}
use Rattle.ev_exchange.specs.Sessions.{first_turn, after_turn}
use Rattle.ev_console.specs.Asking.{Asked, Entered, entered}

abbrev pub step_of : Turn → Step
step_of turn = if turn.is_away then steps.Away turn.edge else steps.Back turn.edge

-- an edge took the step, or doesn't run any more
abbrev pub is_taken : Entered → Bool
is_taken (Ok (Ok reply)) = true
is_taken (Ok (Err refusal)) = false
is_taken (Err unreached) = true

-- the requests of a step to these edges; the first edge has this number
abbrev pub entered_from : ℕ → Step → List Entered → List Asked
entered_from number step [] = []
entered_from number step (answer ∷ answers) = entered number step answer ∷ entered_from (number + 1) step answers

-- The step was entered at each of `count` edges, once, at the first one first, and nothing else was requested. `taken`
-- unless one of them refused it.
pub record EntersAtEach (count : ℕ) (step : Step) (before after : Option (List Asked)) (taken : Bool) : Type 0 where
  pub answers : List Entered
  pub many : length answers ≡ count
  pub asked : after ≡ behind before (entered_from 1 step answers)
  pub all : taken ≡ list_all is_taken answers

-- the sessions after a step that was due, which is noted if each edge took it, and else is still due
abbrev pub after_due : Option Turn → Bool → List Session → List Session
after_due None taken all = all
after_due (Some turn) taken all = if taken then after_turn turn all else all

-- the requests for a step, if one is due
abbrev pub EntersDue : Option Turn → ℕ → Option (List Asked) → Option (List Asked) → Bool → Type 0
EntersDue None count before after taken = (after ≡ before) × (taken ≡ false)
EntersDue (Some turn) count before after taken = EntersAtEach count (step_of turn) before after taken

-- The first step that is due at this second was entered at each of `count` edges, and noted if they took it.
pub record TakesTurn (now hold count : ℕ) (all all' : List Session) (before after : Option (List Asked))
    (taken : Bool) : Type 0 where
  pub entered : EntersDue (first_turn now hold all) count before after taken
  pub noted : all' ≡ after_due (first_turn now hold all) taken all

-- `TakesTurn` at some number of edges of this process: their history of requests is unknown.
pub record TakesTurnHere (now hold : ℕ) (all all' : List Session) (taken : Bool) : Type 0 where
  pub count : ℕ
  pub is : TakesTurn now hold count all all' None None taken
