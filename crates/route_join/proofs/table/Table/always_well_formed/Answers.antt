use Rattle.route_join.proofs.table.Table.always_well_formed.Goals as goal

pub returns : goal.returns
returns c = rw (← c.self.view_is) c.self.invariant.grouped.kept.formed
