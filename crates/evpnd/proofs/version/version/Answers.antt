use Rattle.std.proofs.Common.{subst, sym}
use Rattle.ev_report.specs.Ends.{Devices, devices, AreOpen}
use Rattle.evpnd.specs.Version.{TellsVersion}
use Rattle.evpnd.proofs.Versions.{tells_version}
use Rattle.evpnd.proofs.version.version.Goals as goal

pub returns : goal.returns
returns g c =
    let input = g.R.In.end c.devices.inside.reader in
    let out = g.W.Out.end c.devices.inside.out in
    let out' = g.W.Out.end c.put-written.new.self in
    let notes = g.N.Out.end c.devices.inside.notes in
    subst (λ (d : Devices). TellsVersion d (devices input out' notes) c.done_status.result) c.devices.view_is
    (tells_version input out out' notes c.put-written.result c.done_status.result
    (subst (λ (d : Devices). AreOpen d) (sym c.devices.view_is) c.requires).out c.put-written.ensures
    c.done_status.ensures)
