use Rattle.route_join.proofs.PageLaws.{pages_ascend}
use Rattle.route_join.proofs.page_laws.pages_ascend.Goals as goal

pub returns : goal.returns
returns c = pages_ascend
