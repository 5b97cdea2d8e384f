use Rattle.rstp_run.proofs.Reached.{reached}
use Rattle.rstp_run.proofs.Resting.{sends}
use Rattle.rstp_run.proofs.laws.settled_port_sends.Goals as goal

pub returns : goal.returns
returns c = λ s can settled p port at.
    let known = sends s (reached can.0 can.1 s can.2) settled p port at in record { vector = known.0; times = known.1 }
