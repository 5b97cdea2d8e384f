use Rattle.ev_fabric.proofs.Agreements.{agreed_table}
use Rattle.ev_fabric.proofs.laws.agreed_tables.Goals as goal

pub returns : goal.returns
returns c = agreed_table
