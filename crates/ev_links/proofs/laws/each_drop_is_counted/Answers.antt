use Rattle.ev_links.proofs.Orders.{each_drop_is_counted}
use Rattle.ev_links.proofs.laws.each_drop_is_counted.Goals as goal

pub returns : goal.returns
returns c = each_drop_is_counted
