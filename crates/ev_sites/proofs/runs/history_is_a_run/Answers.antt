use Rattle.ev_sites.proofs.Running.{history_runs}
use Rattle.ev_sites.proofs.runs.history_is_a_run.Goals as goal

pub returns : goal.returns
returns c = history_runs
