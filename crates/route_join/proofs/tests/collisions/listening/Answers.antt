use Rattle.route_join.proofs.tests.collisions.listening.Goals as goal
use Rattle.route_join.proofs.Basics.{one_originator as alone}

pub with_salt-requires : goal.with_salt-requires
with_salt-requires c = rw (c.push.ensures.items, c.new-originators.ensures) (alone c.addr.result)
