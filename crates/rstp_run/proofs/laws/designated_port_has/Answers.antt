use Rattle.rstp_run.proofs.Reached.{reached}
use Rattle.rstp_run.proofs.Resting.{designated_has}
use Rattle.rstp_run.proofs.laws.designated_port_has.Goals as goal

pub returns : goal.returns
returns c = λ s can. designated_has s (reached can.0 can.1 s can.2)
