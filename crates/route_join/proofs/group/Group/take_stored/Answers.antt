use Rattle.route_join.proofs.group.Group.take_stored.Goals as goal

pub returns-in-Some-clause-takes : goal.returns-in-Some-clause-takes
returns-in-Some-clause-takes c = rw (← c.self.view_is, c.in-One.is) (c.in-Some.ensures.some c.args.held.now)
