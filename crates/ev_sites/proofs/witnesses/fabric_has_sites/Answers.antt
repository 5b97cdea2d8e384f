use Rattle.ev_sites.proofs.Example.{sites_of_a_fabric}
use Rattle.ev_sites.proofs.witnesses.fabric_has_sites.Goals as goal

pub returns : goal.returns
returns c = sites_of_a_fabric c.settled_by_lists.ensures c.runs_happen.ensures
