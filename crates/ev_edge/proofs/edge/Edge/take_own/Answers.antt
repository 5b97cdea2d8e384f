use Rattle.std.proofs.Common.{sym, ap, ◌∙◌}
use Rattle.ev_edge.specs.Edge.{Edge, edge_of, address_of}
use Rattle.ev_edge.proofs.Returned.{own_steps, own_kept}
use Rattle.ev_edge.proofs.edge.Edge.take_own.Goals as goal

pub invariant_of-self : goal.invariant_of-self
invariant_of-self c =
    own_kept c.args.update.now c.import_own.new.self c.import_own.result c.self.invariant
    c.always_good.ensures.numbers
    (c.requires ∙ ap (λ (x : Edge). address_of x) (sym c.self.view_is)) c.import_own.ensures.ok
    c.import_own.ensures.ahead
    c.import_own.ensures.err

pub returns : goal.returns
returns c =
    let f = c.self.inside in
    let u = c.args.update.now in
    let e = edge_of f.routes f.clock f.ageing f.bridge f.moves f.away.items f.quotas.items f.storms.items in
    let new = edge_of c.import_own.new.self f.clock f.ageing f.bridge f.moves f.away.items f.quotas.items
    f.storms.items in
    rw c.tell_own.ensures (rw c.self.view_is at (own_steps e u c.import_own.new.self c.import_own.result
    c.import_own.ensures.taken c.import_own.ensures.ok
    c.import_own.ensures.ahead c.import_own.ensures.spent c.import_own.ensures.no_memory c.import_own.ensures.err))
