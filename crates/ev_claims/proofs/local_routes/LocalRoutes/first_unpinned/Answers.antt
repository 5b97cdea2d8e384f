use Rattle.std.proofs.Common.{◌-◌, ap, ◌∙◌}
use Rattle.std.specs.Prelude.{slice_get}
use Rattle.mac_arena.specs.Learning.{stations_at}
use Rattle.ev_claims.specs.LocalRoutes.{LocalRoutes}
use Rattle.mac_arena.specs.Laws.{unpinned_on}
use Rattle.mac_arena.proofs.Going.{first_is}
use Rattle.ev_claims.proofs.local_routes.LocalRoutes.first_unpinned.Goals as goal

pub returns-clause-first : goal.returns-clause-first
returns-clause-first c =
    let t = c.self.inside.learned in
    c.first_of.ensures ∙ first_is t (stations_at t.ports (c.args.port - 1))
    ∙ ap (λ (b : LocalRoutes). slice_get (unpinned_on b.learned c.args.port) 0) c.self.view_is
