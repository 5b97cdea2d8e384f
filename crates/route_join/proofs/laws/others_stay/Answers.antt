use Rattle.route_join.proofs.Joins.{others_stay}
use Rattle.route_join.proofs.laws.others_stay.Goals as goal

pub returns : goal.returns
returns c = others_stay
