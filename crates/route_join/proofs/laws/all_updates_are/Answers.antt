use Rattle.route_join.proofs.Abouts.{all_updates_are}
use Rattle.route_join.proofs.laws.all_updates_are.Goals as goal

pub returns : goal.returns
returns c = all_updates_are
