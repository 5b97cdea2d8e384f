use Rattle.ev_fabric.proofs.ConvergingRounds.{start_numbers, few_numbers, agreement}
use Rattle.ev_fabric.proofs.convergence.reached.Goals as goal

pub returns : goal.returns
returns c = record {
  start = λ configs f h. start_numbers h;
  few = λ f sound few. few_numbers sound few;
  agreement = agreement;
}
