use Rattle.std.proofs.Common.{[]}
use Rattle.ev_edge.proofs.tests.originators.Goals as goal
use Rattle.route_join.proofs.Basics.{pushed}

pub returns : goal.returns
returns c =
    let one = pushed _ [] _ _ 0x0a00_0001 c.push.ensures.items c.new-originators.ensures c.new.ensures in
    let two = pushed _ _ _ _ 0x0a00_0002 c.push-2.ensures.items one c.new-2.ensures in
    let three = pushed _ _ _ _ 0x0a00_0003 c.push-3.ensures.items two c.new-3.ensures in
    pushed _ _ _ _ 0x0a00_0004 c.push-4.ensures.items three c.new-4.ensures
