use Rattle.std.proofs.Common.{◌≡◌, ◌++◌, [], take, drop}
use Rattle.ev_config.specs.Faults.{repeated}
use Rattle.ev_config.specs.Inner.Faults.{faults_view, named_view}
use Rattle.ev_config.proofs.devices.add_repeated.Given as goal

abbrev pub invariant-loop-place : goal.invariant-loop-place
invariant-loop-place l =
    faults_view l.faults.items ++ repeated (named_view (take l.place l.ports)) (named_view (drop l.place l.ports))
    ≡ faults_view l.initial.faults.items ++ repeated [] (named_view l.ports)
