use Rattle.ev_fabric.proofs.laws.said_once.Goals as goal

pub returns : goal.returns
returns c = λ f h. h.once
