use Rattle.std.proofs.Common.{is_some}
use Rattle.ev_run.proofs.run.run_bound.Given as goal

-- the history that was just begun, to which updates of other processes come in if clients are served
abbrev pub ghosts-run_named : goal.ghosts-run_named
ghosts-run_named g a = record { book = a.prepared.history.seen.book; outside = is_some a.host.now.service }
