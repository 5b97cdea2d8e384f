use Rattle.ev_fabric.proofs.Agreements.{agreed_reports}
use Rattle.ev_fabric.proofs.laws.agreed_reports.Goals as goal

pub returns : goal.returns
returns c = agreed_reports
