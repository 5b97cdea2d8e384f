use Rattle.route_join.proofs.PageLaws.{register_stays}
use Rattle.route_join.proofs.page_laws.register_stays.Goals as goal

pub returns : goal.returns
returns c = register_stays
