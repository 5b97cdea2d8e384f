use Rattle.ev_fabric.proofs.Agreements.{learnt}
use Rattle.ev_fabric.proofs.laws.learnt.Goals as goal

pub returns : goal.returns
returns c = learnt
