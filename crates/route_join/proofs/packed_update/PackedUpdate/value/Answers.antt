use Rattle.route_join.proofs.packed_update.PackedUpdate.value.Goals as goal

pub returns : goal.returns
returns c = rw (
  ← c.self.view_is,
  c.content_by.ensures,
  c.self.invariant.content,
  c.self.invariant.counter,
  c.self.invariant.incarnation,
)
