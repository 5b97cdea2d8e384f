use Rattle.ev_fabric.proofs.Goings.{runs_lead}
use Rattle.ev_fabric.proofs.later.runs_lead.Goals as goal

pub returns : goal.returns
returns c = runs_lead
