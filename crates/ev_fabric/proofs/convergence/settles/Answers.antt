use Rattle.ev_fabric.proofs.ConvergingRounds.{works_bound, goes_on, agreed_rests}
use Rattle.ev_fabric.proofs.convergence.settles.Goals as goal

pub returns : goal.returns
returns c = record {
  bound = λ steps old new sound h. works_bound steps new sound h;
  on = λ f sound numbers. goes_on (assumption);
  end = λ steps old new sound agree h. agreed_rests steps new sound agree h;
}
