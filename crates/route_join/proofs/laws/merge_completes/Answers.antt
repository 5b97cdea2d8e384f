use Rattle.route_join.proofs.Merging.{merge_completes}
use Rattle.route_join.proofs.laws.merge_completes.Goals as goal

pub returns : goal.returns
returns c = merge_completes
