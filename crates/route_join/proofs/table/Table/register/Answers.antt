use Rattle.route_join.specs.Table.{register_of}
use Rattle.route_join.proofs.Groupings.{about_there}
use Rattle.route_join.proofs.Holding.{value_there}
use Rattle.route_join.proofs.table.Table.register.Goals as goal

pub returns-in-None : goal.returns-in-None
returns-in-None c = rw (value_there c.self.invariant.grouped c.self.view_is
    (register_of c.args.originator c.args.key) c.subject_of.ensures c.in-None.ensures)

pub returns-in-Some : goal.returns-in-Some
returns-in-Some c = rw (value_there c.self.invariant.grouped c.self.view_is
    (register_of c.args.originator c.args.key) c.subject_of.ensures c.in-Some.ensures) c.register.ensures

pub register-requires : goal.register-requires
register-requires c = about_there _ c.self.invariant.grouped.groups c.subject_of.ensures c.in-Some.ensures
