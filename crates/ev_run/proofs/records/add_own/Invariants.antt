use Rattle.std.proofs.Common.{◌≡◌, ◌++◌, take}
use Rattle.ev_exchange.specs.Sending.{own_of}
use Rattle.ev_run.proofs.records.add_own.Given as goal

-- the own updates among the first ones were added
abbrev pub invariant-loop-update : goal.invariant-loop-update
invariant-loop-update l = l.own.items ≡ l.initial.own.items ++ own_of l.originator (take l.update-index l.updates)
