use Rattle.std.proofs.Common.{◌≡◌, take, fold}
use Rattle.ev_run.specs.Needs.{with_devices}
use Rattle.ev_run.proofs.needs.devices_of.Given as goal

abbrev pub invariant-loop-links : goal.invariant-loop-links
invariant-loop-links l = l.devices ≡ fold with_devices 0 (take l.links-index l.all)
