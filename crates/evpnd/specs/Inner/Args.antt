-- The invocation of the program's arguments.
use Rattle.std.specs.Prelude.{◌≡◌, ℕ, ◌+◌, List, option_map, Result, Ok, Err}
use Rattle.clap.specs.Words.{Text, fault_of, IsAmong, kind_of}
use Rattle.evpnd.specs.Args.{Parts, Spells, program}
use Rattle.evpnd.specs.declared.args.Invocation.{Invocation}
use Rattle.evpnd.specs.declared.args.ArgsError.{ArgsError}
use Rattle.evpnd.specs.declared.args.ArgsError.TheVariants.{Usage, NoMemory}

abbrev pub parts_of : Invocation → Parts
parts_of invocation = (
  invocation.subcommand,
  invocation.required.now,
  option_map (λ text. text.now) invocation.optional,
  invocation.aim,
)

-- The arguments have no fault and are this invocation, or have the fault of the error, or memory was refused.
abbrev pub Invokes : List Text → ℕ → ℕ → Result Invocation ArgsError → Type 0
Invokes words before after (Ok invocation) = Spells words (parts_of invocation) × (after ≡ before)
Invokes words before after (Err (Usage e)) = IsAmong (kind_of e) (fault_of program words) × (after ≡ before)
Invokes words before after (Err NoMemory) = after ≡ before + 1
