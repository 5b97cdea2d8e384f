use Rattle.ev_fabric.proofs.ConvergingRounds.{rests_before}
use Rattle.ev_fabric.proofs.convergence.fades.Goals as goal

pub returns : goal.returns
returns c = λ steps old new sound h i b at. let x = rests_before steps new sound h i at in
    (x.was, x.at, x.later, x.numbers)
