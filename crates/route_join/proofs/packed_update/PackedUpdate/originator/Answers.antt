use Rattle.route_join.proofs.packed_update.PackedUpdate.originator.Goals as goal

pub returns : goal.returns
returns c = rw (← c.self.view_is) c.self.invariant.originator
