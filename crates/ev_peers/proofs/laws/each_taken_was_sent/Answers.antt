use Rattle.ev_peers.proofs.Letters.{each_taken_was_sent}
use Rattle.ev_peers.proofs.laws.each_taken_was_sent.Goals as goal

pub returns : goal.returns
returns c = each_taken_was_sent
