use Rattle.ev_fabric.proofs.Stations.{one_of_all}
use Rattle.ev_fabric.proofs.laws.one_of_all.Goals as goal

pub returns : goal.returns
returns c = one_of_all
