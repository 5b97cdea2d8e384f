use Rattle.ev_fabric.proofs.Agreements.{none_ahead}
use Rattle.ev_fabric.proofs.laws.none_ahead.Goals as goal

pub returns : goal.returns
returns c = none_ahead
