use Rattle.std.proofs.Common.{ap, refl, ◌∙◌}
use Rattle.route_join.specs.Table.{entries_of}
use Rattle.route_join.specs.Flood.{flooding}
use Rattle.route_join.proofs.Floods.{flood_fits, is_flood_list}
use Rattle.route_join.proofs.Groupings.{about_there}
use Rattle.route_join.proofs.Holding.{flooding_there}
use Rattle.route_join.proofs.table.Table.flood_into.Goals as goal

pub updates-requires : goal.updates-requires
updates-requires c = about_there _ c.self.invariant.grouped.groups refl c.in-Some.ensures

pub put_flood-requires-clause-few : goal.put_flood-requires-clause-few
put_flood-requires-clause-few c = rw (
  c.updates.ensures.value,
  flooding_there c.self.invariant.grouped refl c.args.vni
      c.flood-subject.ensures c.in-Some.ensures,
) (flood_fits _ c.args.vni c.self.invariant.grouped.kept.listeners
    c.self.invariant.grouped.kept.listed)

pub returns-in-None-clause-value : goal.returns-in-None-clause-value
returns-in-None-clause-value c = c.clear.ensures ∙ flooding_there c.self.invariant.grouped c.self.view_is c.args.vni
    c.flood-subject.ensures c.in-None.ensures

pub returns-in-None-clause-list : goal.returns-in-None-clause-list
returns-in-None-clause-list c = rw (returns-in-None-clause-value c) (is_flood_list c.args.self.now c.args.vni)

pub returns-in-Some-clause-value : goal.returns-in-Some-clause-value
returns-in-Some-clause-value c =
    c.put_flood.ensures ∙ ap (λ us. flooding c.args.vni (entries_of us)) c.updates.ensures.value
    ∙ flooding_there c.self.invariant.grouped c.self.view_is c.args.vni c.flood-subject.ensures c.in-Some.ensures

pub returns-in-Some-clause-list : goal.returns-in-Some-clause-list
returns-in-Some-clause-list c = rw (returns-in-Some-clause-value c) (is_flood_list c.args.self.now c.args.vni)
