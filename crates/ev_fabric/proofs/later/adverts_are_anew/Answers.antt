use Rattle.ev_fabric.proofs.Goings.{adverts_are_anew}
use Rattle.ev_fabric.proofs.later.adverts_are_anew.Goals as goal

pub returns : goal.returns
returns c = adverts_are_anew
