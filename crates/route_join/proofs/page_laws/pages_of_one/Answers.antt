use Rattle.route_join.proofs.PageLaws.{pages_of_one}
use Rattle.route_join.proofs.page_laws.pages_of_one.Goals as goal

pub returns : goal.returns
returns c = pages_of_one
