use Rattle.ev_report.proofs.Told.{told_put}
use Rattle.ev_run.specs.Obstacles.{obstacles_text}
use Rattle.evpnd.proofs.check.tell_obstacles.Goals as goal

pub returns : goal.returns
returns g c =
    told_put (g.N.Out.end c.args.notes.now) (g.N.Out.end c.put_obstacles.new.notes) c.put_obstacles.result
    (obstacles_text c.args.found.now) c.usage_status.result c.requires
    c.put_obstacles.ensures c.usage_status.ensures
