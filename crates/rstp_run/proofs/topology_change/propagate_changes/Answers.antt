use Rattle.std.proofs.Common.{◌<◌, length, arith}
use Rattle.std.proofs.lemmas.List.{get_or_default}
use Rattle.std.proofs.lemmas.List.Edits.{map_over_more}
use Rattle.rstp_run.specs.TopologyChange.{with_propagation}
use Rattle.rstp_run.proofs.topology_change.propagate_changes.Goals as goal

pub loop-port-preserved : goal.loop-port-preserved
loop-port-preserved c =
    let within : c.loop-port.port-index < length c.loop-port.ports = omega arith in
    rw c.propagate_change.ensures
    (map_over_more with_propagation _ _ c.loop-port.port-index _ c.loop-port-test.true c.loop-port.invariant
    (get_or_default _ _ _ _ within))
