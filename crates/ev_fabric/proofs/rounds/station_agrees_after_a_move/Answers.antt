use Rattle.ev_fabric.proofs.StationRounds.{agrees_in_four, agrees_in_two}
use Rattle.ev_fabric.proofs.rounds.station_agrees_after_a_move.Goals as goal

pub returns : goal.returns
returns c = record { four = agrees_in_four; two = agrees_in_two }
