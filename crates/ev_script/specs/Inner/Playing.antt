-- The progress of a simulation.
use Rattle.std.specs.Prelude.{◌≡◌, ℕ, ◌+◌, Bool, true, false, ◌||◌, List, [], ◌∷◌, length}
use Rattle.std.specs.Prelude.{Option, Some, None, Result}
use Rattle.ether_wire.specs.Ends.{End}
use Rattle.ev_edge.specs.declared.reply.Reply.{Reply}
use Rattle.ev_fabric.specs.declared.refusal.FabricRefusal.{FabricRefusal}
use Rattle.ev_fabric.specs.declared.step.Step.{Step}
use Rattle.ev_report.specs.Ends.{Tells}
use Rattle.ev_script.specs.declared.simulate.simulator.BadLine.{BadLine}
use Rattle.ev_script.specs.declared.simulate.simulator.Simulator.{Simulator}
use Rattle.ev_script.specs.declared.script.mode.Mode.{Mode}
use Rattle.ev_script.specs.Script.{Command, Item, item_of, cut_line, Follows, Ends}
use Rattle.ev_script.specs.Simulation.{Made, Asked, AnswersCommand, Goes, ran_out_of_memory, Ran, RunsLine, RunsLines}
use Rattle.ev_script.specs.Simulation.{made_by, text_of}

-- These steps were made.
pub record Makes (made : List Made) (old new : Simulator) : Type 0 where
  pub goes : Goes old.fabric made new.fabric
  pub out_of_memory : new.is_out_of_memory ≡ (old.is_out_of_memory || ran_out_of_memory made)

-- Exactly that step was made, and the text for its answer was written, or a call of the writer has failed.
pub record MakesOne (step : Step) (text : Result Reply FabricRefusal → List ℕ) (old new : Simulator)
    (a b : End) : Type 0 where
  pub answer : Result Reply FabricRefusal
  pub makes : Makes ((step, answer) ∷ []) old new
  pub told : Tells a b old.is_told new.is_told (text answer)

-- The steps that a command requests from an edge were made, and the text of the answer was written, or a call of the
-- writer has failed.
pub record Performs (e : ℕ) (command : Command) (old new : Simulator) (a b : End) : Type 0 where
  pub made : List Made
  pub asked : Asked e command made
  pub makes : Makes made old new
  pub text : List ℕ
  pub answers : AnswersCommand e command made new.fabric text
  pub told : Tells a b old.is_told new.is_told text

-- A line was run, and its text was written, or a call of the writer has failed.
pub record Runs (mode : Mode) (line : List ℕ) (item : Item) (old new : Simulator) (a b : End) : Type 0 where
  pub ran : Ran
  pub after : ran.after ≡ new.fabric
  pub runs : RunsLine mode line item old.fabric ran
  pub out_of_memory : new.is_out_of_memory ≡ (old.is_out_of_memory || ran_out_of_memory ran.made)
  pub told : Tells a b old.is_told new.is_told ran.text

-- The line was run; or it is a bad one, and nothing was done.
abbrev pub PlaysLine : Mode → List ℕ → Simulator → Simulator → End → End → Bool → Type 0
PlaysLine mode line old new a b true = (item : Item) × (item_of mode line ≡ Some item) × Runs mode line item old new a b
PlaysLine mode line old new a b false = (item_of mode line ≡ None) × (new ≡ old) × (b ≡ a)

-- The lines before the rest were run, and their text was written, or a call of the writer has failed.
pub record Played (mode : Mode) (script rest : List ℕ) (old new : Simulator) (n : ℕ) (a b : End) : Type 0 where
  pub lines : List Item
  pub follows : Follows (item_of mode) script lines rest
  pub count : length lines ≡ n
  pub ran : List Ran
  pub runs : RunsLines mode script lines old.fabric ran new.fabric
  pub out_of_memory : new.is_out_of_memory ≡ (old.is_out_of_memory || ran_out_of_memory (made_by ran))
  pub told : Tells a b old.is_told new.is_told (text_of ran)

-- The script was run up to its end, or up to this line, which is its first bad one.
abbrev pub PlaysTo : Mode → List ℕ → Simulator → Simulator → End → End → Option BadLine → Type 0
PlaysTo mode script old new a b None = (n : ℕ) × Played mode script [] old new n a b
PlaysTo mode script old new a b (Some bad) = (n : ℕ) × (rest : List ℕ) × (bad.number ≡ n + 1)
    × (bad.line.now ≡ (cut_line rest).0) × Ends (item_of mode) true rest × Played mode script rest old new n a b
