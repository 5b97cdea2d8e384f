use Rattle.std.proofs.Common.{rules}
use Rattle.ev_config.proofs.Walking.{keys_of-view}
use Rattle.ev_config.proofs.faults.add_unknown.Goals as goal

pub loop-key-init : goal.loop-key-init
loop-key-init c = rw (keys_of-view c.args.table.now.entries) (search rules)
