use Rattle.std.proofs.Common.{append_assoc}
use Rattle.bpdu_wire.proofs.writing.put_vector.Goals as goal

pub returns-clause-items : goal.returns-clause-items
returns-clause-items c = rw (
  c.put_u16.ensures.items,
  c.put_u64-2.ensures.items,
  c.put_u32.ensures.items,
  c.put_u64.ensures.items,
  c.number-3.ensures,
  c.number-2.ensures,
  c.number.ensures,
) (simp append_assoc)
