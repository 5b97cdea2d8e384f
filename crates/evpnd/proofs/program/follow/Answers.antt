use Rattle.std.proofs.Common.{sym}
use Rattle.evpnd.proofs.program.follow.Goals as goal

pub returns-in-Run : goal.returns-in-Run
returns-in-Run g c = rw c.in-Run.is (rw (sym c.policy_of-policy.ensures) c.run_open.ensures)

pub returns-in-Serve : goal.returns-in-Serve
returns-in-Serve g c = rw c.in-Serve.is (rw (sym c.policy_of-policy.ensures) c.run_open-in-Serve.ensures)
