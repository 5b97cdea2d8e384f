use Rattle.ev_exchange.proofs.Sayings.{Saying}
use Rattle.ev_exchange.proofs.send_loop.say_tables.Given as goal

abbrev pub invariant-loop-place : goal.invariant-loop-place
invariant-loop-place g l = Saying l.place l.named (g.S.Announcing.told l.initial.from) (g.S.Announcing.told l.from)
    l.initial.sender l.sender
