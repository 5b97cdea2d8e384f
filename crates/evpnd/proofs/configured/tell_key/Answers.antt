use Rattle.std.proofs.Common.{◌++◌}
use Rattle.ev_report.proofs.Told.{told_put}
use Rattle.evpnd.specs.Configured.{config_text}
use Rattle.evpnd.proofs.configured.tell_key.Goals as goal

pub returns : goal.returns
returns g c =
    let put = c.put_faults.ensures in (
      put.0,
      put.1,
      told_put (g.N.Out.end c.args.notes.now) (g.N.Out.end c.put_faults.new.notes) c.put_faults.result
          (config_text c.args.key.now ++ put.0) c.usage_status.result c.requires put.2 c.usage_status.ensures,
    )
