use Rattle.ev_tunnel.proofs.DecisionLemmas.{never_back}
use Rattle.ev_tunnel.proofs.laws.never_back.Goals as goal

pub returns : goal.returns
returns c = never_back _ c.args.port (record { members = c.args.members; passing = c.args.passing })
    c.ranges.members.fits c.ranges.passing.fits c.requires
