use Rattle.rstp_run.proofs.EdgeRests.{edge_rests}
use Rattle.rstp_run.proofs.laws.edge_rests.Goals as goal

pub returns : goal.returns
returns c = edge_rests
