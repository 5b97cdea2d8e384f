use Rattle.ev_claims.proofs.Changed.{ages_out}
use Rattle.ev_claims.proofs.laws.aged_out.Goals as goal

pub returns : goal.returns
returns c = ages_out c.args.limit c.always_good.ensures
