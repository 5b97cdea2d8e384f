use Rattle.std.proofs.Common.{◌≡◌, drop}
use Rattle.ev_exchange.specs.Sessions.{first_turn}
use Rattle.ev_exchange.proofs.sessions.Sessions.due.Given as goal

-- no step is due for the sessions up to here
abbrev pub invariant-loop-session : goal.invariant-loop-session
invariant-loop-session l =
    first_turn l.now l.hold l.session-items ≡ first_turn l.now l.hold (drop l.session-index l.session-items)
