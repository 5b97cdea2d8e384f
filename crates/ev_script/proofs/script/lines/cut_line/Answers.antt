use Rattle.std.proofs.Common.{sym}
use Rattle.ev_report.proofs.Listing.{shorter_after}
use Rattle.ev_script.proofs.script.lines.cut_line.Goals as goal

pub returns-in-Some-clause-shorter : goal.returns-in-Some-clause-shorter
returns-in-Some-clause-shorter c = λ _.
    shorter_after 10 c.args.text.now c.in-Some.line.now c.in-Some.rest.now (sym c.in-Some.ensures)
