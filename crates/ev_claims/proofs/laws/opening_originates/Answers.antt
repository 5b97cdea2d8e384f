use Rattle.ev_claims.proofs.Sayings.{opens}
use Rattle.ev_claims.proofs.laws.opening_originates.Goals as goal

pub returns : goal.returns
returns c = opens c.args.start.now c.args.routes.now c.requires.opening c.requires.distinct
