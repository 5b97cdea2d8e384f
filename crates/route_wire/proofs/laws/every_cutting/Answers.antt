use Rattle.route_wire.proofs.Cuttings.{read_whole_stream}
use Rattle.route_wire.proofs.laws.every_cutting.Goals as goal

pub returns : goal.returns
returns c = read_whole_stream
