use Rattle.ev_fabric.proofs.Stations.{agree_on_each, each_agree}
use Rattle.ev_fabric.proofs.station.agrees_on.Goals as goal

pub returns : goal.returns
returns c = record { each = agree_on_each; all = each_agree }
