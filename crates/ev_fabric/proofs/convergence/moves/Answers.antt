use Rattle.ev_fabric.proofs.ConvergingRounds.{two_rounds_agree, enough_itself}
use Rattle.ev_fabric.proofs.StationMotion.{moved_ready, move_ends}
use Rattle.ev_fabric.proofs.convergence.moves.Goals as goal

pub returns : goal.returns
returns c = record {
  agrees = λ i j s old mid new sound m h. two_rounds_agree new
      (moved_ready old i j s mid sound m) (enough_itself mid) h;
  pool = λ i j s old mid new steps sound m h agree. (move_ends old i j s mid sound m steps h agree).0;
  owner = λ i j s old mid new steps sound m h agree. (move_ends old i j s mid sound m steps h agree).1;
}
