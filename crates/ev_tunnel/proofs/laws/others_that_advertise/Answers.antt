use Rattle.route_join.specs.Flood.{IsFloodList, flood_of}
use Rattle.ev_tunnel.proofs.DecisionLemmas.{others_advertise}
use Rattle.ev_tunnel.proofs.laws.others_that_advertise.Goals as goal

pub returns : goal.returns
returns c =
    let list : IsFloodList c.args.table.now c.args.vni (flood_of c.args.table.now c.args.vni) =
    rw c.flood-flood.ensures.value at c.flood-flood.ensures.list in
    rw c.requires (others_advertise c.args.table.now c.args.vni c.args.own (flood_of c.args.table.now c.args.vni) list)
