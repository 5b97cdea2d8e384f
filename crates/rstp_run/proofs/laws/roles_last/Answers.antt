use Rattle.rstp_run.proofs.Current.{lasting_reached, lasting_role}
use Rattle.rstp_run.proofs.Reached.{reached}
use Rattle.rstp_run.proofs.laws.roles_last.Goals as goal

pub returns : goal.returns
returns c = λ events s t can settled_s settled_t lasts p b at.
    let later = lasting_reached events s t can lasts in
    lasting_role events s t (reached can.0 can.1 s can.2).kept (reached later.0 later.1 t later.2).kept settled_s
    settled_t lasts p b at
