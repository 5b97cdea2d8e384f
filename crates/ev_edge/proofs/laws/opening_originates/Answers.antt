use Rattle.ev_edge.proofs.Changing.{opening_changes}
use Rattle.ev_edge.proofs.laws.opening_originates.Goals as goal

pub returns : goal.returns
returns c = opening_changes c.args.config.now c.args.edge.now c.requires.config c.requires.opening
