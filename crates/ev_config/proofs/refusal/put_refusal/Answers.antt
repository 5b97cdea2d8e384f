use Rattle.std.proofs.Common.{inr}
use Rattle.ev_config.proofs.refusal.put_refusal.Goals as goal

pub returns-in-Err : goal.returns-in-Err
returns-in-Err g c = inr (c.plain_line.result.octets.items, c.put_line.ensures)

pub returns-in-Err-2 : goal.returns-in-Err-2
returns-in-Err-2 g c = inr (c.syntax_line.result.octets.items, c.put_line-in-Err-2.ensures)
