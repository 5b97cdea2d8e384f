use Rattle.route_join.proofs.Owners.{one_owner}
use Rattle.route_join.proofs.laws.one_owner.Goals as goal

pub returns : goal.returns
returns c = one_owner
