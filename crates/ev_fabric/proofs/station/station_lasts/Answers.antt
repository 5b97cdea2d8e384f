use Rattle.ev_fabric.proofs.StationAlone.{station_lasts}
use Rattle.ev_fabric.proofs.StationAlone.{station_reached}
use Rattle.ev_fabric.proofs.station.station_lasts.Goals as goal

pub returns : goal.returns
returns c = record { stays = station_lasts; reached = station_reached }
