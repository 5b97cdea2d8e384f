use Rattle.ev_edge.proofs.Limiting.{stations_are_few}
use Rattle.ev_edge.proofs.laws.stations_are_few.Goals as goal

pub returns : goal.returns
returns c = λ run e e' port good some pins h few. stations_are_few run e e' port good some pins h few
