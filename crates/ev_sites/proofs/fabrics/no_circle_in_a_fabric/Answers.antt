use Rattle.ev_sites.proofs.Reaching.{no_circle_in_a_fabric}
use Rattle.ev_sites.proofs.fabrics.no_circle_in_a_fabric.Goals as goal

pub returns : goal.returns
returns c = no_circle_in_a_fabric c.no_circle_through_tunnels.ensures
