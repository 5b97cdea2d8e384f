use Rattle.std.proofs.Common.{rules, ◌≡◌}
use Rattle.ev_report.specs.declared.usage.StreamUse.TheVariants.{Migrate}
use Rattle.ev_report.proofs.usage.use_stream.Goals as goal

pub returns-in-Migrate : goal.returns-in-Migrate
returns-in-Migrate g c =
    let is : c.args.wanted ≡ Migrate = search rules in
    rw is c.migrate_run.ensures
