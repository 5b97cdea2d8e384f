use Rattle.std.proofs.Common.{inl}
use Rattle.ev_config.specs.Config.{ServedOf}
use Rattle.ev_config.specs.declared.whole.Use.TheVariants.{Serve}
use Rattle.evpnd.proofs.Filed.{file_gives}
use Rattle.evpnd.proofs.configured.served.Goals as goal

pub returns-in-Ok-clause-value : goal.returns-in-Ok-clause-value
returns-in-Ok-clause-value g c =
    file_gives Serve ServedOf c.args.path.now _ (g.F.Files.shelf c.args.files.now)
    (g.F.Files.shelf c.text_at.new.files) (g.N.Out.end c.args.notes.now) (g.N.Out.end c.text_at.new.notes)
    (g.N.Out.end c.served_by.new.notes)
    c.served_by.result c.in-Ok.ensures.has (rw c.as_str.ensures.value at c.served_by.ensures.value)

pub returns-in-Err-clause-value : goal.returns-in-Err-clause-value
returns-in-Err-clause-value g c = λ input out. inl (c.in-Err.ensures.none input out)
