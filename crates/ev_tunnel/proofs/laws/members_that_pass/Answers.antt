use Rattle.route_join.specs.Owner.{owner}
use Rattle.ev_tunnel.proofs.DecisionLemmas.{local_passes, member_is}
use Rattle.ev_tunnel.proofs.laws.members_that_pass.Goals as goal

pub returns : goal.returns
returns c =
    let member = member_is c.args.destination c.args.entry (owner c.args.table.now c.args.vni c.args.destination)
    c.args.own c.args.members c.requires in
    local_passes _ c.args.from (record { members = c.args.members; passing = c.args.passing }) c.ranges.passing.fits
    member
