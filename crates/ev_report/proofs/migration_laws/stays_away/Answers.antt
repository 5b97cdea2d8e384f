use Rattle.ev_report.proofs.Owning.{stays_away}
use Rattle.ev_report.proofs.migration_laws.stays_away.Goals as goal

pub returns : goal.returns
returns c = stays_away
