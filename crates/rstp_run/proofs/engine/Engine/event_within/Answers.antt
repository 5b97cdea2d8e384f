use Rattle.rstp_run.proofs.Within.{happens-from_goes}
use Rattle.rstp_run.proofs.engine.Engine.event_within.Goals as goal

pub returns-clause-happens : goal.returns-clause-happens
returns-clause-happens c =
    let given = c.run-settled.ensures in
    happens-from_goes c.start.ensures given.goes given.yes given.no given.unsettled
