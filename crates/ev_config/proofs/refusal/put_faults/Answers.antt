use Rattle.std.proofs.Common.{inr}
use Rattle.ev_config.proofs.refusal.put_faults.Goals as goal

pub returns-in-Err : goal.returns-in-Err
returns-in-Err g c = inr (c.plain_line.result.octets.items, c.put_line.ensures)
