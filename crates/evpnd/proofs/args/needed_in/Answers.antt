use Rattle.std.proofs.Common.{rules, ◌≡◌, ◌∙◌, Some, ap}
use Rattle.clap.specs.Words.{Text, rows_of, found_of, first_of}
use Rattle.clap.proofs.WalkLemmas.{first_value-rows}
use Rattle.evpnd.specs.Args.{needed_in}
use Rattle.evpnd.proofs.args.needed_in.Goals as goal

pub returns-in-Some : goal.returns-in-Some
returns-in-Some c =
    let found = found_of c.args.matches.now in
    let is : Some c.in-Some.option ≡ c.args.option = search rules in
    c.get_str.ensures ∙ first_value-rows found c.name.result.now
    ∙ ap (λ (id : Text). first_of id (rows_of found)) c.name.ensures ∙ ap (λ o. needed_in o (rows_of found)) is
