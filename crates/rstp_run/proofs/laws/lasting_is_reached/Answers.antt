use Rattle.rstp_run.proofs.Current.{lasting_reached}
use Rattle.rstp_run.proofs.laws.lasting_is_reached.Goals as goal

pub returns : goal.returns
returns c = lasting_reached
