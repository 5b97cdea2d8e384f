use Rattle.std.proofs.Common.{◌<◌, ◌^◌}
use Rattle.vxlan_wire.proofs.VxlanLemmas.{instance_of-header_of}
use Rattle.vxlan_wire.proofs.vxlan.written_header_is_read.Goals as goal

pub returns : goal.returns
returns c =
    let small : c.args.vni < 2 ^ 24 = rw c.number-in_range.ensures.value at c.number-in_range.ensures.small in
    instance_of-header_of c.args.vni c.args.frame.now small
