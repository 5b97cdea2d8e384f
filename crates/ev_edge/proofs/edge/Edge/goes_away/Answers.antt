use Rattle.std.proofs.Common.{◌≡◌, sym, ap, ◌∙◌}
use Rattle.ev_edge.specs.Away.{with_away}
use Rattle.ev_edge.specs.Edge.{Edge, edge_of, table_of}
use Rattle.ev_edge.proofs.Keeping.{other_away}
use Rattle.ev_edge.proofs.Marking.{away_listed}
use Rattle.ev_edge.proofs.edge.Edge.goes_away.Goals as goal

pub invariant_of-self : goal.invariant_of-self
invariant_of-self c =
    let f = c.self.inside in
    let e = edge_of f.routes f.clock f.ageing f.bridge f.moves f.away.items f.quotas.items f.storms.items in
    let is : c.with_away-self-inside.result.items ≡ with_away (table_of e).originators e.away c.args.edge =
    c.with_away-self-inside.ensures
    ∙ ap (λ (x : Edge). with_away (table_of x).originators x.away c.args.edge) (sym c.self.view_is) in
    other_away c.with_away-self-inside.result.items c.self.invariant
    (rw is (away_listed (table_of e).originators e.away c.args.edge))
