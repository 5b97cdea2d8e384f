use Rattle.std.proofs.Common.{true, false}
use Rattle.ev_run.specs.RunEdges.{RunsEdges}
use Rattle.ev_config.specs.Config.{ConfigOf}
use Rattle.ev_config.specs.declared.whole.Use.TheVariants.{Run}
use Rattle.evpnd.proofs.Filed.{of_never, of_used}
use Rattle.ether_wire.specs.Buffered.{buffered_end}
use Rattle.ev_report.specs.Ends.{devices}
use Rattle.ev_report.proofs.Finishing.{buffered}
use Rattle.ev_run.proofs.Running.{passed_runs}
use Rattle.evpnd.proofs.run_file.run_file.Goals as goal

pub returns-in-Ok : goal.returns-in-Ok
returns-in-Ok g c =
    let run = c.run_edges-status in
    let input = g.R.In.end c.devices.inside.reader in
    let out = g.W.Out.end c.devices.inside.out in
    let notes = g.N.Out.end c.configured.new.notes in
    let held = devices (g.R.In.end run.new.reader) (buffered_end g.W.Out.end run.new.out)
    (buffered_end g.N.Out.end run.new.notes) in
    of_used Run (RunsEdges false c.args.system.now.policy) (ConfigOf true) c.args.path.now
    (g.F.Files.shelf c.args.files.now)
    (g.F.Files.shelf c.configured.new.files) c.args.devices input out (g.N.Out.end c.devices.inside.notes) notes
    c.devices.view_is c.finish.result.0 c.in-Ok.config c.finish.result.1 c.in-Ok.ensures.value
    (buffered (RunsEdges false c.args.system.now.policy c.in-Ok.config)
    (passed_runs false c.args.system.now.policy c.in-Ok.config)
    (devices input out notes) _ held c.finish.result.1 run.result c.finish.result.0
    c.new-all.result.out_failures c.new-all.result.notes_failures c.new-all.ensures.devices c.new-all.ensures.out
    c.new-all.ensures.notes run.ensures c.finish.ensures)

pub returns-in-Err : goal.returns-in-Err
returns-in-Err g c =
    of_never Run (RunsEdges false c.args.system.now.policy) (ConfigOf true) c.args.path.now
    (g.F.Files.shelf c.args.files.now)
    (g.F.Files.shelf c.configured.new.files) c.args.devices (g.R.In.end c.devices.inside.reader)
    (g.W.Out.end c.devices.inside.out) (g.N.Out.end c.devices.inside.notes) (g.N.Out.end c.configured.new.notes)
    c.devices.view_is c.in-Err.status c.in-Err.ensures.value
