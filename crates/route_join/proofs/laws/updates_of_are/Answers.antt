use Rattle.route_join.proofs.Abouts.{updates_of_are}
use Rattle.route_join.proofs.laws.updates_of_are.Goals as goal

pub returns : goal.returns
returns c = updates_of_are
