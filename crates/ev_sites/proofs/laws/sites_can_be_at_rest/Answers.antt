use Rattle.ev_sites.proofs.Through.{sites_at_rest}
use Rattle.ev_sites.proofs.laws.sites_can_be_at_rest.Goals as goal

pub returns : goal.returns
returns c = sites_at_rest c.no_circle.ensures c.can_be_at_rest.ensures
