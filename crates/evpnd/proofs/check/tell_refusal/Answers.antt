use Rattle.ev_config.proofs.Lines.{refusal_lines}
use Rattle.ev_report.proofs.Told.{told_put}
use Rattle.evpnd.proofs.check.tell_refusal.Goals as goal

pub returns : goal.returns
returns g c =
    let old = g.N.Out.end c.args.notes.now in
    let new = g.N.Out.end c.put_refusal.new.notes in
    let told = refusal_lines c.args.wanted c.args.text.now old new c.put_refusal.result c.put_refusal.ensures in (
      told.0,
      told.1,
      told_put old new c.put_refusal.result told.0 c.usage_status.result c.requires told.2
          c.usage_status.ensures,
    )
