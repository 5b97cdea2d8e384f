use Rattle.ev_fabric.proofs.StationMotion.{station_moves_anyhow}
use Rattle.ev_fabric.proofs.station.station_moves_anyhow.Goals as goal

pub returns : goal.returns
returns c = station_moves_anyhow
