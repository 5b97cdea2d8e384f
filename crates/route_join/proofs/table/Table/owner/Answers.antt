use Rattle.std.proofs.Common.{None}
use Rattle.route_join.proofs.Holding.{owner_only, unowned, owned_by}
use Rattle.route_join.proofs.table.Table.owner.Goals as goal

pub returns-in-None-clause-best : goal.returns-in-None-clause-best
returns-in-None-clause-best c = unowned c.self.invariant.grouped c.self.view_is c.args.vni c.args.mac
    c.address.ensures c.in-None.ensures

pub returns-in-None-clause-value : goal.returns-in-None-clause-value
returns-in-None-clause-value c = owner_only c.args.self.now c.args.vni c.args.mac None (returns-in-None-clause-best c)

pub returns-in-Some-clause-best : goal.returns-in-Some-clause-best
returns-in-Some-clause-best c = owned_by c.self.invariant.grouped c.self.view_is c.args.vni c.args.mac
    c.address.ensures c.in-Some.ensures c.owner.result c.owner.ensures

pub returns-in-Some-clause-value : goal.returns-in-Some-clause-value
returns-in-Some-clause-value c = owner_only c.args.self.now c.args.vni c.args.mac c.owner.result
    (returns-in-Some-clause-best c)
