use Rattle.std.proofs.Common.{List, [], ◌∷◌, refl}
use Rattle.ev_config.specs.Faults.{Faulty, faults_in}
use Rattle.ev_config.specs.declared.whole.Use.TheVariants.{Serve}
use Rattle.ev_config.specs.Config.{Agree, unless_faulty, use_for, whole_of, served_whole}
use Rattle.ev_config.proofs.laws.readings_agree.Goals as goal

agree : {X : Type 0} (faults : List Faulty) (x : X) → Agree (unless_faulty faults x) faults
agree [] x = refl
agree (first ∷ more) x = refl

pub returns : goal.returns
returns c = record {
  config = λ for_run t. agree (faults_in (use_for for_run) t) (whole_of (use_for for_run) t);
  served = λ t. agree (faults_in Serve t) (served_whole t);
}
