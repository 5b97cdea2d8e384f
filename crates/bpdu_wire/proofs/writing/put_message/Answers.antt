use Rattle.std.proofs.Common.{append_assoc}
use Rattle.bpdu_wire.proofs.writing.put_message.Goals as goal

pub returns-clause-items : goal.returns-clause-items
returns-clause-items c = rw (
  c.put-2.ensures.items,
  c.put_times.ensures.items,
  c.put_vector.ensures.items,
  c.put.ensures.items,
) (simp append_assoc)
