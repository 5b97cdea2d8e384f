use Rattle.ev_edge.proofs.Spending.{registers_are_few}
use Rattle.ev_edge.proofs.laws.registers_are_few.Goals as goal

pub returns : goal.returns
returns c = λ run e e' port limit minutes n good some is h below.
    registers_are_few run e e' port limit minutes n good some is h below
