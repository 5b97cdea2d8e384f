use Rattle.std.proofs.Common.{◌≡◌, ◌≤◌, ℕ, sym, subst, arith}
use Rattle.std.specs.Prelude.{OnOk, OnErr, Result, Ok, Err}
use Rattle.mac_arena.specs.declared.station.Station.{Station}
use Rattle.mac_arena.specs.declared.table.Learnt.TheVariants.{New}
use Rattle.mac_arena.specs.Learning.{IsLatest}
use Rattle.mac_arena.proofs.Values.{latest_learn, latest_later}
use Rattle.ev_claims.specs.LocalRoutes.{LocalRoutes, after_advert}
use Rattle.ev_claims.proofs.tests.Edge.advertise.Goals as goal

pub advertise-requires-clause-latest : goal.advertise-requires-clause-latest
advertise-requires-clause-latest c =
    let edge = c.args.self.now in
    latest_later edge.routes.learned edge.now c.args.second (omega arith) edge.latest

latest_said : {E : Type 0} (r : Result (Unit {0}) E) (old new : LocalRoutes) (s : Station) (port second n : ℕ)
    → IsLatest old.learned second → OnOk r (new ≡ after_advert old s port second n) → OnErr r (new ≡ old)
    → IsLatest new.learned second
latest_said (Ok done) old new s port second n h ok err =
    rw ok (latest_learn old.learned s port second New h)
latest_said (Err refused) old new s port second n h ok err =
    rw err h

pub invariant_of-self : goal.invariant_of-self
invariant_of-self c =
    let edge = c.args.self.now in
    record {
      latest = latest_said c.advertise.result edge.routes c.advertise.new.self c.args.station c.args.port c.args.second
          c.args.sequence (latest_later edge.routes.learned edge.now c.args.second (omega arith) edge.latest)
          c.advertise.ensures.ok c.advertise.ensures.err;
    }
