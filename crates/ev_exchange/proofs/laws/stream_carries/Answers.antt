use Rattle.ev_exchange.proofs.Joining.{stream_carries}
use Rattle.ev_exchange.proofs.laws.stream_carries.Goals as goal

pub returns : goal.returns
returns c = stream_carries
