use Rattle.ev_edge.proofs.Passing.{upto_none}
use Rattle.ev_edge.proofs.bridging.passing_ports.Goals as goal

pub loop-place-init : goal.loop-place-init
loop-place-init c = upto_none c.args.bridge.now
