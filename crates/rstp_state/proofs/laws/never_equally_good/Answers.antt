use Rattle.rstp_state.proofs.Vectors.{neither_less}
use Rattle.rstp_state.proofs.laws.never_equally_good.Goals as goal

pub returns : goal.returns
returns c = λ a b not_a not_b. neither_less a b not_a not_b
