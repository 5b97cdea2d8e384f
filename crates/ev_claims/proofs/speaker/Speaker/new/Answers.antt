use Rattle.std.proofs.Common.{[]}
use Rattle.ev_claims.specs.Inner.Pending.{Pending}
use Rattle.ev_claims.proofs.Hearing.{silent_speaker}
use Rattle.ev_claims.proofs.speaker.Speaker.new.Goals as goal

pub invariant_of-result : goal.invariant_of-result
invariant_of-result c =
    let nobody : Pending = record { known = []; waiting = [] } in
    rw c.in_ok-pending.ensures (rw c.with_salt.ensures (silent_speaker c.args.address c.args.incarnation
    c.args.originators.items c.requires.listed))
