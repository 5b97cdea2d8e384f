use Rattle.std.proofs.lemmas.List.Elements.{Contains-get_or}
use Rattle.ev_fabric.specs.Convergence.{two_rounds}
use Rattle.ev_fabric.proofs.ConvergingRounds.{two_rounds_agree, enough_itself, may_rest, quiet_rounds}
use Rattle.ev_fabric.proofs.convergence.agrees.Goals as goal

pub returns : goal.returns
returns c = record {
  ends = λ old new sound numbers h. two_rounds_agree new (assumption)
      (enough_itself old) h;
  comes = λ old sound numbers. may_rest (two_rounds old) (assumption)
      (quiet_rounds old);
  any = λ old steps sound numbers quiet. may_rest steps (assumption)
      (λ k d lt. quiet _ (Contains-get_or steps k d lt));
}
