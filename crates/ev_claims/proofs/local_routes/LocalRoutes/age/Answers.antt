use Rattle.std.proofs.Common.{length, sym, ap, ◌∙◌, arith}
use Rattle.mac_arena.proofs.Going.{due_first}
use Rattle.ev_claims.specs.LocalRoutes.{LocalRoutes, after_removals}
use Rattle.ev_claims.specs.Leaving.{after_ageing, due_in}
use Rattle.ev_claims.proofs.Flushing.{nobody_left}
use Rattle.ev_claims.proofs.local_routes.LocalRoutes.age.Goals as goal

pub remove-requires : goal.remove-requires
remove-requires c = (due_first c.loop-station.self.learned c.args.limit c.in-Some.station c.in-Some.ensures.lists
    (sym c.in-Some.ensures.first)).known

pub loop-station-smaller : goal.loop-station-smaller
loop-station-smaller c =
    omega (
      arith,
      ap length (due_first c.loop-station.self.learned c.args.limit c.in-Some.station
          c.in-Some.ensures.lists (sym c.in-Some.ensures.first)).rest,
      (ap (λ (b : LocalRoutes). length
          (due_in b.learned c.args.limit)) c.remove.ensures),
    )

pub loop-station-preserved : goal.loop-station-preserved
loop-station-preserved c =
    let e = c.loop-station.self in
    ap (λ b. after_ageing b c.args.limit) c.remove.ensures ∙ sym (ap (after_removals e)
    (due_first e.learned c.args.limit c.in-Some.station c.in-Some.ensures.lists (sym c.in-Some.ensures.first)).rest)
    ∙ c.loop-station.invariant

pub returns : goal.returns
returns c =
    (rw (nobody_left (due_in c.loop-station.self.learned c.args.limit) (sym c.in_default.ensures.first)))
    ∙ c.loop-station.invariant
