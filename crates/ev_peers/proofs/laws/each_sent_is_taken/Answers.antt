use Rattle.ev_peers.proofs.Letters.{each_sent_is_taken}
use Rattle.ev_peers.proofs.laws.each_sent_is_taken.Goals as goal

pub returns : goal.returns
returns c = each_sent_is_taken
