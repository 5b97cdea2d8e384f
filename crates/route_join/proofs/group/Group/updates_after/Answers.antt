use Rattle.route_join.proofs.Afters.{about_rest}
use Rattle.route_join.proofs.group.Group.updates_after.Goals as goal

pub few-requires-in-SmallGroup : goal.few-requires-in-SmallGroup
few-requires-in-SmallGroup c = about_rest c.args.register.now _ _ _ _ c.subject_of-subject.ensures
    c.rest_after-in-SmallGroup.ensures
    (rw c.updates.ensures.value (rw (← c.self.view_is, c.in-SmallGroup.is) at c.requires))
