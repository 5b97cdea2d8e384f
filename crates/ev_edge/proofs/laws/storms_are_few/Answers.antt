use Rattle.ev_edge.proofs.Storming.{storms_are_few}
use Rattle.ev_edge.proofs.laws.storms_are_few.Goals as goal

pub returns : goal.returns
returns c = λ run e e' port limit seconds n some is h below.
    storms_are_few run e e' port limit seconds n some is h below
