use Rattle.ev_fabric.proofs.Agreements.{announced}
use Rattle.ev_fabric.proofs.laws.announced.Goals as goal

pub returns : goal.returns
returns c = announced
