use Rattle.route_join.proofs.packed_update.PackedUpdate.again.Goals as goal

pub invariant_of-result : goal.invariant_of-result
invariant_of-result c = rw (c.of.ensures, c.about-update.ensures, ← c.self.view_is) c.self.invariant
