use Rattle.std.proofs.Common.{◌≡◌, false, take}
use Rattle.std.specs.List.{list_any}
use Rattle.ev_exchange.specs.Sessions.{is_of}
use Rattle.ev_exchange.proofs.sessions.Sessions.has.Given as goal

-- no session up to here is that of the edge
abbrev pub invariant-loop-session : goal.invariant-loop-session
invariant-loop-session l = list_any (is_of l.edge) (take l.session-index l.session-items) ≡ false
