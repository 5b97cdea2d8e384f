use Rattle.ev_fabric.proofs.Example.{a_fabric_opens}
use Rattle.ev_fabric.proofs.witnesses.fabric_opens.Goals as goal

pub returns : goal.returns
returns c = a_fabric_opens
