use Rattle.std.proofs.Common.{take}
use Rattle.ev_fabric.specs.Opening.{AreOpened}
use Rattle.ev_fabric.proofs.fabric.open_all.Given as goal

-- those so far are opened
abbrev pub invariant-loop-config : goal.invariant-loop-config
invariant-loop-config l = AreOpened (take l.config-index l.configs) l.edges.items
