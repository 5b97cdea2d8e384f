use Rattle.rstp_run.proofs.Reached.{reached}
use Rattle.rstp_run.proofs.Within.{number-at}
use Rattle.rstp_run.proofs.laws.ports_are_numbered.Goals as goal

pub returns : goal.returns
returns c = λ s can p port at. number-at s.ports p port at (reached can.0 can.1 s can.2).kept.numbered
