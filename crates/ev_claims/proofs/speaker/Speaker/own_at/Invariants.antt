use Rattle.ev_claims.proofs.Hearing.{IsNoneBefore}
use Rattle.ev_claims.proofs.speaker.Speaker.own_at.Given as goal

abbrev pub invariant-loop-place : goal.invariant-loop-place
invariant-loop-place l = IsNoneBefore l.self l.self-inside.pending.known l.counter l.place
