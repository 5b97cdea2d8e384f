use Rattle.ev_peers.proofs.Letters.{announced_is_sent}
use Rattle.ev_peers.proofs.laws.announced_is_sent.Goals as goal

pub returns : goal.returns
returns c = announced_is_sent
