use Rattle.ev_fabric.proofs.Agreements.{one_of_two}
use Rattle.ev_fabric.proofs.laws.one_of_two.Goals as goal

pub returns : goal.returns
returns c = one_of_two
