use Rattle.ev_config.specs.Config.{ServedOf}
use Rattle.evpnd.specs.Used.{ServesConfig}
use Rattle.ev_config.specs.declared.whole.Use.TheVariants.{Serve}
use Rattle.evpnd.proofs.Filed.{of_never, of_used}
use Rattle.std.proofs.Common.{string_bytes}
use Rattle.ether_wire.specs.Buffered.{buffered_end}
use Rattle.ev_report.specs.Ends.{devices}
use Rattle.ev_report.proofs.Finishing.{buffered}
use Rattle.ev_run.proofs.Serving.{passed_serves}
use Rattle.evpnd.proofs.serve_file.serve_file.Goals as goal

pub returns-in-Ok : goal.returns-in-Ok
returns-in-Ok g c =
    let run = c.serve_edges-status in
    let input = g.R.In.end c.devices.inside.reader in
    let out = g.W.Out.end c.devices.inside.out in
    let notes = g.N.Out.end c.served.new.notes in
    let held = devices (g.R.In.end run.new.reader) (buffered_end g.W.Out.end run.new.out)
    (buffered_end g.N.Out.end run.new.notes) in
    of_used Serve (ServesConfig c.args.system.now.policy) ServedOf c.args.path.now (g.F.Files.shelf c.args.files.now)
    (g.F.Files.shelf c.served.new.files) c.args.devices input out (g.N.Out.end c.devices.inside.notes) notes
    c.devices.view_is c.finish.result.0 c.in-Ok.found c.finish.result.1 c.in-Ok.ensures.value
    (buffered (ServesConfig c.args.system.now.policy c.in-Ok.found)
    (passed_serves c.args.system.now.policy (string_bytes c.in-Ok.found.control) c.in-Ok.found.config)
    (devices input out notes) _ held c.finish.result.1 run.result c.finish.result.0
    c.new-all.result.out_failures c.new-all.result.notes_failures c.new-all.ensures.devices c.new-all.ensures.out
    c.new-all.ensures.notes run.ensures c.finish.ensures)

pub returns-in-Err : goal.returns-in-Err
returns-in-Err g c =
    of_never Serve (ServesConfig c.args.system.now.policy) ServedOf c.args.path.now (g.F.Files.shelf c.args.files.now)
    (g.F.Files.shelf c.served.new.files) c.args.devices (g.R.In.end c.devices.inside.reader)
    (g.W.Out.end c.devices.inside.out) (g.N.Out.end c.devices.inside.notes) (g.N.Out.end c.served.new.notes)
    c.devices.view_is c.in-Err.status c.in-Err.ensures.value
