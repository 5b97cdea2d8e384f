use Rattle.route_join.proofs.Floods.{is_flood_list}
use Rattle.route_join.proofs.laws.flood_is.Goals as goal

pub returns : goal.returns
returns c = is_flood_list
