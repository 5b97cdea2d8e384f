use Rattle.std.proofs.Common.{inl, inr, refl}
use Rattle.ev_report.specs.declared.status.Status.TheVariants as statuses
use Rattle.ev_report.proofs.Silence.{refused_memory}
use Rattle.ev_script.proofs.simulate.open_and_play.Goals as goal

pub returns-in-Ok : goal.returns-in-Ok
returns-in-Ok g c = inl (c.in-Ok.fabric, c.in-Ok.ensures, c.play.ensures)

pub returns-in-Err : goal.returns-in-Err
returns-in-Err g c = inr (refused_memory (g.W.Out.end c.args.out.now) (g.N.Out.end c.args.notes.now)
    statuses.Memory refl)
