use Rattle.ev_peers.specs.Inner.History.{AreSettled}
use Rattle.ev_peers.proofs.history.settle_all.Given as goal

abbrev pub invariant-loop-place : goal.invariant-loop-place
invariant-loop-place g l = AreSettled l.place l.fn.front l.fn.seats
