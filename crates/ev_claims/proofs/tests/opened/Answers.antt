use Rattle.std.proofs.Common.{◌∷◌, [], ℕ, List, refl, sym, subst, length, Contains, lit<, lit≤}
use Rattle.std.specs.Prelude.{Result, Ok, Err, IfOk}
use Rattle.std.specs.List.{IsDistinct}
use Rattle.route_join.specs.Table.{AreOriginators}
use Rattle.mac_arena.specs.Learning.{IsLatest}
use Rattle.mac_arena.proofs.Values.{latest_nothing}
use Rattle.ev_claims.specs.declared.opening.Start.{Start}
use Rattle.ev_claims.specs.LocalRoutes.{LocalRoutes}
use Rattle.ev_claims.specs.Opening.{IsOpening}
use Rattle.ev_claims.proofs.tests.opened.Goals as goal

abbrev three : List ℕ
three = 0x0a00_0001 ∷ 0x0a00_0002 ∷ 0x0a00_0003 ∷ []

three_listed : AreOriginators three
unfolding IsDistinct
three_listed = record {
  some = lit< tt;
  few = lit≤ tt;
  distinct = ((refl, (refl, tt)), ((refl, tt), (tt, tt)));
}

pub open-requires-clause-originators : goal.open-requires-clause-originators
open-requires-clause-originators c = rw c.originators.ensures three_listed

pub open-requires-clause-listed : goal.open-requires-clause-listed
open-requires-clause-listed c = rw c.originators.ensures (
  1,
  lit< tt,
  sym c.new.ensures,
)

-- nothing is learnt at second 0
opened_early : {E : Type 0} (s : Start) (r : Result LocalRoutes E) → IfOk r (IsOpening s)
    → IfOk r (λ c. IsLatest c.learned 0)
opened_early s (Ok c) h = rw h.learned (latest_nothing s.capacity (length s.ports.items) s.buckets s.salt 0)
opened_early s (Err e) h = tt

pub returns : goal.returns
returns c = opened_early _ c.open.result c.open.ensures
