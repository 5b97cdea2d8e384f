use Rattle.std.proofs.Common.{rules, ◌≡◌, ◌∙◌, None, ap, sym}
use Rattle.clap.specs.Words.{app_of}
use Rattle.evpnd.specs.Args.{with_flag}
use Rattle.evpnd.proofs.Given.{no_flag}
use Rattle.evpnd.proofs.args.with_flag.Goals as goal

pub returns-in-None-clause-app : goal.returns-in-None-clause-app
returns-in-None-clause-app c =
    let is : c.args.flag ≡ None = search rules in
    let app = app_of c.args.command in
    sym (ap (λ o. with_flag o app) is ∙ no_flag app)
