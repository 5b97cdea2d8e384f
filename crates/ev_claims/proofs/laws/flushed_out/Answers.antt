use Rattle.ev_claims.proofs.Changed.{flushes_out}
use Rattle.ev_claims.proofs.laws.flushed_out.Goals as goal

pub returns : goal.returns
returns c = flushes_out c.args.routes.now c.args.ports c.always_good.ensures
