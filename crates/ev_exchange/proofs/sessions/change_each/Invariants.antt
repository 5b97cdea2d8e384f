use Rattle.std.proofs.Common.{◌≡◌, ◌++◌, take, drop, map}
use Rattle.ev_exchange.specs.Sessions.{at_edge}
use Rattle.ev_exchange.proofs.sessions.change_each.Given as goal

-- the sessions up to here are changed
abbrev pub invariant-loop-session : goal.invariant-loop-session
invariant-loop-session l =
    l.sessions ≡ map (at_edge l.edge l.change) (take l.session-index l.fn.sessions)
    ++ drop l.session-index l.fn.sessions
