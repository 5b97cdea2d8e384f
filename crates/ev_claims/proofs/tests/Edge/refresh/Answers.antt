use Rattle.std.proofs.Common.{◌≤◌, sym, subst, arith}
use Rattle.mac_arena.specs.Learning.{IsLatest, learnt_of}
use Rattle.mac_arena.proofs.Values.{latest_learn, latest_later}
use Rattle.ev_claims.specs.LocalRoutes.{LocalRoutes}
use Rattle.ev_claims.proofs.tests.Edge.refresh.Goals as goal

pub refresh-requires-clause-latest : goal.refresh-requires-clause-latest
refresh-requires-clause-latest c =
    let edge = c.args.self.now in
    latest_later edge.routes.learned edge.now c.args.second (omega arith) edge.latest

pub invariant_of-self : goal.invariant_of-self
invariant_of-self c =
    let edge = c.args.self.now in
    record {
      latest = rw c.refresh.ensures (latest_learn edge.routes.learned c.args.station c.args.port c.args.second
          (learnt_of edge.routes.learned c.args.station c.args.port)
          (latest_later edge.routes.learned edge.now c.args.second (omega arith) edge.latest));
    }
