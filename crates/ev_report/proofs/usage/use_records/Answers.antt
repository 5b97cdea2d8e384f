use Rattle.std.proofs.Common.{ap, ◌∙◌}
use Rattle.ether_wire.specs.Buffered.{buffered_end}
use Rattle.ev_report.specs.Originators.{originators_of_text}
use Rattle.ev_report.specs.Ends.{devices}
use Rattle.ev_report.specs.Usage.{uses}
use Rattle.ev_report.proofs.Finishing.{buffered}
use Rattle.ev_report.proofs.Uses.{passed_uses, uses_list}
use Rattle.ev_report.proofs.usage.use_records.Goals as goal

pub returns-in-Ok : goal.returns-in-Ok
returns-in-Ok g c =
    let run = c.use_stream-status in
    let wanted = c.args.wanted in
    let originators = c.in-Ok.originators.items in
    let held = devices (g.R.In.end run.new.reader) (buffered_end g.W.Out.end run.new.out)
    (buffered_end g.N.Out.end run.new.notes) in
    uses_list (uses wanted) c.args.list.now originators c.args.devices c.finish.result.1 c.finish.result.0
    (c.in-Ok.ensures.value ∙ ap originators_of_text c.as_bytes.ensures.value)
    (buffered (uses wanted originators) (passed_uses wanted originators) c.args.devices _ held c.finish.result.1
    run.result c.finish.result.0 c.new-all.result.out_failures c.new-all.result.notes_failures
    c.new-all.ensures.devices c.new-all.ensures.out c.new-all.ensures.notes run.ensures c.finish.ensures)
