use Rattle.std.proofs.Common.{rules, ◌≡◌, ◌∙◌, None, ap, sym}
use Rattle.clap.specs.Words.{app_of}
use Rattle.evpnd.specs.Args.{with_option}
use Rattle.evpnd.proofs.Given.{none_more}
use Rattle.evpnd.proofs.args.with_option.Goals as goal

pub returns-in-None-clause-app : goal.returns-in-None-clause-app
returns-in-None-clause-app c =
    let is : c.args.option ≡ None = search rules in
    let app = app_of c.args.command in
    sym (ap (λ o. with_option c.args.is_required o app) is ∙ none_more c.args.is_required app)
