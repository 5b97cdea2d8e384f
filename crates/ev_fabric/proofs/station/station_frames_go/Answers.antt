use Rattle.ev_fabric.proofs.Sends.{station_frames_go}
use Rattle.ev_fabric.proofs.station.station_frames_go.Goals as goal

pub returns : goal.returns
returns c = station_frames_go
