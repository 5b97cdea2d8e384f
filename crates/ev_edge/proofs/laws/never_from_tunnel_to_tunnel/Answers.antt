use Rattle.ev_edge.proofs.Frames.{tunnel_leaves}
use Rattle.ev_edge.proofs.laws.never_from_tunnel_to_tunnel.Goals as goal

pub returns : goal.returns
returns c = λ e e' from octets result good steps. tunnel_leaves e octets result e' good.routes.routes from steps
