use Rattle.ev_fabric.proofs.Stations.{owner_of_all}
use Rattle.ev_fabric.proofs.laws.owner_of_all.Goals as goal

pub returns : goal.returns
returns c = owner_of_all
