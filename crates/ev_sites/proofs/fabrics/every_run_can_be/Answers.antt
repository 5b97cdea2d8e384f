use Rattle.ev_sites.proofs.Reaching.{every_run_can_be}
use Rattle.ev_sites.proofs.fabrics.every_run_can_be.Goals as goal

pub returns : goal.returns
returns c = every_run_can_be
