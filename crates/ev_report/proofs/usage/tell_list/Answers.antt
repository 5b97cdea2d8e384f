use Rattle.ev_report.specs.Originators.{list_text}
use Rattle.ev_report.proofs.Told.{told_put}
use Rattle.ev_report.proofs.usage.tell_list.Goals as goal

pub returns : goal.returns
returns g c =
    told_put (g.N.Out.end c.args.notes.now) (g.N.Out.end c.put_wrong_part.new.notes) c.put_wrong_part.result
    (list_text (c.args.wrong.part.now, c.args.wrong.fault)) c.usage_status.result c.requires
    c.put_wrong_part.ensures c.usage_status.ensures
