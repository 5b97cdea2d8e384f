use Rattle.ev_edge.proofs.Spending.{registers_from_the_opening}
use Rattle.ev_edge.proofs.laws.registers_are_few_from_the_opening.Goals as goal

pub returns : goal.returns
returns c = λ d run e e' port limit minutes n opening good some is h below.
    registers_from_the_opening d run e e' port limit minutes n opening good some is h below
