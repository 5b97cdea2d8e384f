use Rattle.route_wire.specs.Inner.Totals.{value_total, value_exact}
use Rattle.route_wire.proofs.laws.newest_first.Goals as goal

pub returns : goal.returns
returns c = (value_total, value_exact)
