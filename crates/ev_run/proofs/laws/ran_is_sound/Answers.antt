use Rattle.ev_run.proofs.Sound.{sound_end, run_of_file}
use Rattle.ev_run.proofs.laws.ran_is_sound.Goals as goal

pub returns : goal.returns
returns c =
    λ configs sockets remotes before after status fit ran edges all. sound_end configs edges fit
    (run_of_file configs sockets remotes before after status ran edges all)
