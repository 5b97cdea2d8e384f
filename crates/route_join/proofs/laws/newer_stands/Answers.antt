use Rattle.route_join.proofs.Joins.{newer_stands}
use Rattle.route_join.proofs.laws.newer_stands.Goals as goal

pub returns : goal.returns
returns c = newer_stands
