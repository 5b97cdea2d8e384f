use Rattle.ev_report.proofs.Told.{told_put}
use Rattle.ev_report.proofs.usage.tell.Goals as goal

pub returns : goal.returns
returns g c = told_put (g.N.Out.end c.args.notes.now) (g.N.Out.end c.put.new.self) c.put.result c.args.text.now
    c.usage_status.result c.requires c.put.ensures c.usage_status.ensures
