use Rattle.ev_fabric.proofs.Agreements.{none_back}
use Rattle.ev_fabric.proofs.laws.none_back.Goals as goal

pub returns : goal.returns
returns c = none_back
