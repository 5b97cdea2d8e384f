use mathlib.Core.List.{IsPrefix}
use Rattle.ev_peers.specs.Inner.History.{AreSeen}
use Rattle.ev_peers.proofs.history.all_seen.Given as goal

abbrev pub invariant-loop-place : goal.invariant-loop-place
invariant-loop-place g l = record {
  front : IsPrefix l.fn.front l.all;
  seen : AreSeen l.place l.all l.fn.seats;
}
