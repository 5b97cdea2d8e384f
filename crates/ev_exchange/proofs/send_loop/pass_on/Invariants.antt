use Rattle.ev_exchange.proofs.Sayings.{Passing}
use Rattle.ev_exchange.proofs.send_loop.pass_on.Given as goal

abbrev pub invariant-loop : goal.invariant-loop
invariant-loop g l = Passing l.edges (g.S.Announcing.told l.initial.from) (g.S.Announcing.told l.from) l.initial.sender
    l.sender
