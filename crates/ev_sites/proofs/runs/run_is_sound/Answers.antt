use Rattle.ev_sites.proofs.Sound.{run_sound}
use Rattle.ev_sites.proofs.runs.run_is_sound.Goals as goal

pub returns : goal.returns
returns c =
    λ configs edges fit run. run_sound configs run.opened edges run.steps run.pool fit run.are_opened run.runs
