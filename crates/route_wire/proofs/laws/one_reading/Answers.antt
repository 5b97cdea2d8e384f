use Rattle.route_wire.proofs.Streams.{read_once}
use Rattle.route_wire.proofs.laws.one_reading.Goals as goal

pub returns : goal.returns
returns c = read_once
