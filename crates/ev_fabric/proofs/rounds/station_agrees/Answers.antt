use Rattle.ev_fabric.proofs.StationRounds.{station_agrees, station_agrees_still}
use Rattle.ev_fabric.proofs.rounds.station_agrees.Goals as goal

pub returns : goal.returns
returns c = record { soon = station_agrees; still = station_agrees_still }
