use Rattle.std.proofs.Common.{refl, ◌∙◌}
use Rattle.route_join.proofs.Abouts.{updates_of_are, updates_there, updates_nowhere}
use Rattle.route_join.proofs.Groupings.{about_there}
use Rattle.route_join.proofs.table.Table.updates_of.Goals as goal

pub updates-requires : goal.updates-requires
updates-requires c = about_there _ c.self.invariant.grouped.groups refl c.in-Some.ensures

pub returns-in-None-clause-value : goal.returns-in-None-clause-value
returns-in-None-clause-value c = c.none.ensures ∙ updates_nowhere c.args.vni c.args.mac c.self.invariant.grouped
    c.self.view_is c.address-subject.ensures c.in-None.ensures

pub returns-in-None-clause-exact : goal.returns-in-None-clause-exact
returns-in-None-clause-exact c = rw (returns-in-None-clause-value c)
    (updates_of_are c.args.self.now c.args.vni c.args.mac)

pub returns-in-Some-clause-value : goal.returns-in-Some-clause-value
returns-in-Some-clause-value c = c.updates.ensures.value ∙ updates_there c.args.vni c.args.mac c.self.invariant.grouped
    c.self.view_is c.address-subject.ensures c.in-Some.ensures

pub returns-in-Some-clause-exact : goal.returns-in-Some-clause-exact
returns-in-Some-clause-exact c = rw (returns-in-Some-clause-value c)
    (updates_of_are c.args.self.now c.args.vni c.args.mac)
