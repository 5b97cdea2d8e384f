use Rattle.rstp_run.proofs.Reached.{reached}
use Rattle.rstp_run.proofs.Resting.{root_has}
use Rattle.rstp_run.proofs.laws.root_port_is_followed.Goals as goal

pub returns : goal.returns
returns c = λ s can settled p port at root.
    let known = root_has s (reached can.0 can.1 s can.2) settled p port at root in
    record { further = known.0; young = known.1 }
