-- The program's arguments, as `clap` reads them.
use Rattle.std.specs.Prelude.{◌≡◌, ◌≢◌, ℕ, ◌+◌, ◌⊎◌, Bool, true, false, List, [], ◌∷◌, ◌++◌, codes, find, Option, Some}
use Rattle.std.specs.Prelude.{None, Result, Ok, Err, OnOk, IfErr, if◌then◌else◌}
use Rattle.std.specs.Option.{option_map_or}
use Rattle.std.specs.Str.{bytes_eq}
use Rattle.ether_wire.specs.Parse.{◌>>=◌}
use Rattle.clap.specs.Words.{App, Row, Rule, Text, first_of, new_app, new_rule, subcommand_of, subcommand_rows_of}
use Rattle.clap.specs.Words.{with_subcommand, fault_of, IsAmong, kind_of}
use Rattle.clap.specs.declared.builder.ArgAction.TheVariants.{Set, SetTrue}
use Rattle.clap.specs.declared.error.Error.{Error}
use Rattle.clap.specs.declared.error.kind.ErrorKind.TheVariants.{OutOfMemory}
use Rattle.clap.specs.declared.parser.matches.ArgMatches.{ArgMatches}
use Rattle.evpnd.specs.declared.subcommand.Subcommand.{Subcommand}
use Rattle.evpnd.specs.declared.subcommand.Subcommand.TheVariants.{Report, Migrate, Check, Simulate, Play}
use Rattle.evpnd.specs.declared.subcommand.Subcommand.TheVariants.{Run, Serve, Version}
use Rattle.evpnd.specs.declared.subcommand.ParsedOptions.{ParsedOptions}
use Rattle.evpnd.specs.declared.subcommand.ParsedOptions.TheVariants.{Originators, Config, Script, ForRun, ForServe}
use Rattle.evpnd.specs.declared.subcommand.ParsedOptions.TheVariants.{Degraded}
use Rattle.evpnd.specs.declared.subcommand.Aim.{Aim}
use Rattle.evpnd.specs.declared.subcommand.Aim.TheVariants as aim
use Rattle.evpnd.specs.declared.args.ClapParser.{ClapParser}

-- ---- the subcommands, each with its options

abbrev pub subcommands : List Subcommand
subcommands = Report ∷ Migrate ∷ Check ∷ Simulate ∷ Play ∷ Run ∷ Serve ∷ Version ∷ []

abbrev pub name_of : Subcommand → Text
name_of Report = codes "report"
name_of Migrate = codes "migrate"
name_of Check = codes "check"
name_of Simulate = codes "simulate"
name_of Play = codes "play"
name_of Run = codes "run"
name_of Serve = codes "serve"
name_of Version = codes "version"

abbrev pub option_name : ParsedOptions → Text
option_name Originators = codes "originators"
option_name Config = codes "config"
option_name Script = codes "script"
option_name ForRun = codes "run"
option_name ForServe = codes "serve"
option_name Degraded = codes "degraded"

-- the option that a subcommand requires
abbrev pub needs_of : Subcommand → Option ParsedOptions
needs_of Report = Some Originators
needs_of Migrate = Some Originators
needs_of Check = Some Config
needs_of Simulate = Some Config
needs_of Play = Some Config
needs_of Run = Some Config
needs_of Serve = Some Config
needs_of Version = None

-- the option that a subcommand allows besides
abbrev pub takes_of : Subcommand → Option ParsedOptions
takes_of Report = None
takes_of Migrate = None
takes_of Check = Some Script
takes_of Simulate = None
takes_of Play = None
takes_of Run = None
takes_of Serve = None
takes_of Version = None

-- the flag that a subcommand allows
abbrev pub flag_of : Subcommand → Option ParsedOptions
flag_of Report = None
flag_of Migrate = None
flag_of Check = Some ForRun
flag_of Simulate = None
flag_of Play = None
flag_of Run = Some Degraded
flag_of Serve = Some Degraded
flag_of Version = None

-- another flag that a subcommand allows
abbrev pub other_flag_of : Subcommand → Option ParsedOptions
other_flag_of Report = None
other_flag_of Migrate = None
other_flag_of Check = Some ForServe
other_flag_of Simulate = None
other_flag_of Play = None
other_flag_of Run = None
other_flag_of Serve = None
other_flag_of Version = None

-- ---- the command

-- `--NAME VALUE`, required or optional
abbrev pub option_rule : Bool → Text → Rule
option_rule is_required name =
    record (new_rule name) { long = Some name; action = Some Set; value_names = 1; required = is_required }

abbrev pub option_rules : Bool → Option ParsedOptions → List Rule
option_rules is_required None = []
option_rules is_required (Some option) = option_rule is_required (option_name option) ∷ []

abbrev pub with_option : Bool → Option ParsedOptions → App → App
with_option is_required option a =
    record a { top = record a.top { rules = a.top.rules ++ option_rules is_required option } }

-- `--NAME`, optional
abbrev pub flag_rule : Text → Rule
flag_rule name = record (new_rule name) { long = Some name; action = Some SetTrue }

abbrev pub flag_rules : Option ParsedOptions → List Rule
flag_rules None = []
flag_rules (Some flag) = flag_rule (option_name flag) ∷ []

abbrev pub with_flag : Option ParsedOptions → App → App
with_flag flag a = record a { top = record a.top { rules = a.top.rules ++ flag_rules flag } }

-- a subcommand
abbrev pub subcommand_app : Subcommand → App
subcommand_app s =
    let taking = with_option false (takes_of s) (with_option true (needs_of s) (new_app (name_of s))) in
    with_flag (other_flag_of s) (with_flag (flag_of s) taking)

abbrev pub with_subcommands : App → List Subcommand → App
with_subcommands a [] = a
with_subcommands a (s ∷ ss) = with_subcommands (with_subcommand a (subcommand_app s).top) ss

-- `evpnd SUBCOMMAND --OPTION VALUE ..`
abbrev pub program : App
program =
    let all = with_subcommands (new_app (codes "evpnd")) subcommands in
    record all { top = record all.top { subcommand_required = true } }

-- ---- invocations

abbrev pub named : Text → Option Subcommand
named name = find (λ s. bytes_eq name (name_of s)) subcommands

-- the text of a required option among the matches; empty if no option is required
abbrev pub needed_in : Option ParsedOptions → List Row → Option Text
needed_in None rows = Some []
needed_in (Some option) rows = first_of (option_name option) rows

-- the text of an optional option
abbrev pub given_in : Option ParsedOptions → List Row → Option Text
given_in None rows = None
given_in (Some option) rows = first_of (option_name option) rows

-- whether a flag is among the matches
abbrev pub is_flagged : Option ParsedOptions → List Row → Bool
is_flagged flag rows = option_map_or (λ text. bytes_eq text (codes "true")) (given_in flag rows) false

-- the aim of a flag
abbrev pub aim_of : Option ParsedOptions → Aim
aim_of None = aim.Any
aim_of (Some Originators) = aim.Any
aim_of (Some Config) = aim.Any
aim_of (Some Script) = aim.Any
aim_of (Some ForRun) = aim.Run
aim_of (Some ForServe) = aim.Serve
aim_of (Some Degraded) = aim.Degraded

-- the aim of a subcommand, by its flags among the matches: `--serve` includes `--run`
abbrev pub aim_in : Subcommand → List Row → Aim
aim_in s rows =
    if is_flagged (other_flag_of s) rows then aim_of (other_flag_of s)
    else if is_flagged (flag_of s) rows then aim_of (flag_of s)
    else aim.Any

-- a subcommand, the value of its required option, that of its optional one, and its flags
abbrev pub Parts : Type 0
Parts = Subcommand × Text × Option Text × Aim

-- the subcommand of this name, with its options' texts among the matches
abbrev pub invocation_in : Option (Text × List Row) → Option Parts
invocation_in found = do
  f ← found
  s ← named f.0
  text ← needed_in (needs_of s) f.1
  Some (s, text, given_in (takes_of s) f.1, aim_in s f.1)

-- the arguments have no fault, and are this invocation
abbrev pub Spells : List Text → Parts → Type 0
Spells words invocation = (fault_of program words ≡ []) × (invocation_in (subcommand_of program words)
    ≡ Some invocation)

-- ---- reading

-- the result of `clap` for the arguments: their matches if they have no fault; else it was refused memory, or it
-- reports their fault
abbrev pub IsAnswer : List Text → Result ArgMatches Error → Type 0
IsAnswer words (Ok m) = (fault_of program words ≡ []) × (subcommand_rows_of m ≡ subcommand_of program words)
IsAnswer words (Err e) = (kind_of e ≡ OutOfMemory) ⊎ IsAmong (kind_of e) (fault_of program words)

-- A parser's answer, and how often it was refused memory before and after: once more exactly if its error says so.
pub record Parses (words : List Text) (before after : ℕ) (answer : Result ArgMatches Error) : Type 0 where
  pub is_answer : IsAnswer words answer
  pub kept : OnOk answer (after ≡ before)
  pub refused : IfErr answer (λ e. kind_of e ≡ OutOfMemory → after ≡ before + 1)
  pub told : IfErr answer (λ e. kind_of e ≢ OutOfMemory → after ≡ before)

-- how often `clap` was refused memory
abbrev pub parser_refusals : ClapParser → ℕ
parser_refusals parser = parser.refusals
