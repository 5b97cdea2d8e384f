use Rattle.std.proofs.Common.{arith}
use Rattle.ev_fabric.proofs.ConvergingRounds.{rests_full}
use Rattle.ev_fabric.proofs.convergence.bounded.Goals as goal

pub returns : goal.returns
returns c = record {
  left = λ steps old new sound h. rests_full steps new sound h;
  pool = λ steps old new sound h. omega (arith, rests_full steps new sound h);
}
