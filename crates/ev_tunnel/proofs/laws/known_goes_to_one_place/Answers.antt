use Rattle.route_join.specs.Owner.{owner}
use Rattle.route_join.specs.Flood.{flood_of}
use Rattle.ev_tunnel.proofs.DecisionLemmas.{one_copy, where_is, at_port, at_edge}
use Rattle.ev_tunnel.proofs.laws.known_goes_to_one_place.Goals as goal

pub returns-clause-port : goal.returns-clause-port
returns-clause-port c p there =
    let owned = owner c.args.table.now c.args.vni c.args.destination in
    at_port c.args.entry owned _ c.args.from (record { members = c.args.members; passing = c.args.passing }) p
    c.ranges.passing.fits (where_is c.args.destination c.args.entry owned c.args.own) c.requires there

pub returns-clause-edge : goal.returns-clause-edge
returns-clause-edge c o there =
    let owned = owner c.args.table.now c.args.vni c.args.destination in
    at_edge c.args.entry owned _ c.args.from (flood_of c.args.table.now c.args.vni) c.args.own o
    (where_is c.args.destination c.args.entry owned c.args.own) c.requires there

pub returns-clause-one : goal.returns-clause-one
returns-clause-one c =
    one_copy _ c.args.from (flood_of c.args.table.now c.args.vni) c.args.own
    (record { members = c.args.members; passing = c.args.passing }) c.ranges.passing.fits c.requires
