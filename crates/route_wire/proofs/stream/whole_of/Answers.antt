use Rattle.route_wire.proofs.Prefixes.{finds_whole}
use Rattle.route_wire.proofs.stream.whole_of.Goals as goal

pub returns-clause-found : goal.returns-clause-found
returns-clause-found c = finds_whole c.args.stream.now c.whole_up_to.result c.whole_up_to.ensures
