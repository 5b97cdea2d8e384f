use Rattle.std.proofs.Common.{ap, ◌∙◌}
use Rattle.ev_peers.specs.Inner.Passing.{is_no_memory}
use Rattle.ev_peers.proofs.shared_edge.lacks_memory.Goals as goal

pub returns : goal.returns
returns c = c.is_no_memory.ensures ∙ ap is_no_memory c.alert_of.ensures
