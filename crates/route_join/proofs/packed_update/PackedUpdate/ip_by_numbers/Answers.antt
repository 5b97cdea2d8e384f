use Rattle.route_join.proofs.packed_update.PackedUpdate.ip_by_numbers.Goals as goal

pub returns : goal.returns
returns c = rw (c.ip_by.ensures, c.joined.ensures, ← c.self.view_is) c.self.invariant.ip
