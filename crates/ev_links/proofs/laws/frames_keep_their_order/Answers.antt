use Rattle.ev_links.proofs.Orders.{frames_keep_their_order}
use Rattle.ev_links.proofs.laws.frames_keep_their_order.Goals as goal

pub returns : goal.returns
returns c = frames_keep_their_order
