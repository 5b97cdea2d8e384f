use Rattle.std.proofs.Common.{[]}
use Rattle.ev_claims.proofs.tests.originators.Goals as goal
use Rattle.route_join.proofs.Basics.{pushed}

pub returns : goal.returns
returns c =
    pushed _ _ _ _ 0x0a00_0003 c.push-3.ensures.items (pushed _ _ _ _ 0x0a00_0002 c.push-2.ensures.items
    (pushed _ [] _ _ 0x0a00_0001 c.push.ensures.items c.new-originators.ensures c.new.ensures) c.new-2.ensures)
    c.new-3.ensures
