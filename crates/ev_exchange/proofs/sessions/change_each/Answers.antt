use Rattle.std.proofs.Common.{◌<◌, length, arith}
use Rattle.std.proofs.lemmas.List.{get_or_default}
use Rattle.std.proofs.lemmas.List.Edits.{map_over_more}
use Rattle.ev_exchange.specs.Sessions.{at_edge}
use Rattle.ev_exchange.proofs.sessions.change_each.Goals as goal

pub loop-session-preserved : goal.loop-session-preserved
loop-session-preserved c =
    let within : c.loop-session.session-index < length c.loop-session.sessions = omega arith in
    rw c.at_edge.ensures
    (map_over_more (at_edge c.args.edge c.args.change) _ _ c.loop-session.session-index _
    c.loop-session-test.true c.loop-session.invariant (get_or_default _ _ _ _ within))
