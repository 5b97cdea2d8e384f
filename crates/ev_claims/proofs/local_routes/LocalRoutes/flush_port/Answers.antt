use Rattle.std.proofs.Common.{length, sym, ap, ◌∙◌, arith}
use Rattle.ev_claims.specs.LocalRoutes.{LocalRoutes, after_removals}
use Rattle.mac_arena.specs.Laws.{unpinned_on}
use Rattle.ev_claims.proofs.Flushing.{first_is, nobody_left}
use Rattle.ev_claims.proofs.local_routes.LocalRoutes.flush_port.Goals as goal

pub remove-requires : goal.remove-requires
remove-requires c = (first_is c.in-Some.ensures.lists c.args.port
    c.requires (sym c.in-Some.ensures.first)).goes.known

pub loop-station-smaller : goal.loop-station-smaller
loop-station-smaller c =
    omega (
      arith,
      ap length (first_is c.in-Some.ensures.lists
          c.args.port c.requires (sym c.in-Some.ensures.first)).goes.rest,
      (ap (λ (b : LocalRoutes). length
          (unpinned_on b.learned c.args.port)) c.remove.ensures),
    )

pub loop-station-preserved : goal.loop-station-preserved
loop-station-preserved c =
    let e = c.loop-station.self in
    let f = first_is c.in-Some.ensures.lists c.args.port c.requires
    (sym c.in-Some.ensures.first) in
    record {
      same = ap (λ (b : LocalRoutes). after_removals b (unpinned_on b.learned c.args.port)) c.remove.ensures
          ∙ (rw f.goes.rest) ∙ c.loop-station.invariant.same;
      others = λ q some ne. ap (λ (b : LocalRoutes). unpinned_on b.learned q) c.remove.ensures ∙ f.others q some ne
          ∙ c.loop-station.invariant.others q some ne;
    }

pub returns-clause-after : goal.returns-clause-after
returns-clause-after c =
    (rw (nobody_left (unpinned_on c.loop-station.self.learned c.args.port) (sym c.in_default.ensures.first)))
    ∙ c.loop-station.invariant.same
