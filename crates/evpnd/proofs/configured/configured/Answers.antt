use Rattle.std.proofs.Common.{inl}
use Rattle.ev_config.specs.Config.{ConfigOf}
use Rattle.evpnd.specs.Inner.Configured.{use_for}
use Rattle.evpnd.proofs.Filed.{file_gives}
use Rattle.evpnd.proofs.configured.configured.Goals as goal

pub returns-in-Ok-clause-value : goal.returns-in-Ok-clause-value
returns-in-Ok-clause-value g c =
    file_gives (use_for c.args.for_run) (ConfigOf c.args.for_run) c.args.path.now _ (g.F.Files.shelf c.args.files.now)
    (g.F.Files.shelf c.text_at.new.files) (g.N.Out.end c.args.notes.now) (g.N.Out.end c.text_at.new.notes)
    (g.N.Out.end c.configured_by.new.notes)
    c.configured_by.result c.in-Ok.ensures.has (rw c.as_str.ensures.value at c.configured_by.ensures.value)

pub returns-in-Err-clause-value : goal.returns-in-Err-clause-value
returns-in-Err-clause-value g c = λ input out. inl (c.in-Err.ensures.none input out)
