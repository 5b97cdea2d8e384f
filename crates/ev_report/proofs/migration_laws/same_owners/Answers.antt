use Rattle.ev_report.proofs.Owning.{same_owners}
use Rattle.ev_report.proofs.migration_laws.same_owners.Goals as goal

pub returns : goal.returns
returns c = same_owners
