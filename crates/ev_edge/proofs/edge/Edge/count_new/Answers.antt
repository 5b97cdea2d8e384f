use Rattle.ev_edge.specs.Limits.{with_counted}
use Rattle.ev_edge.proofs.Keeping.{other_quotas}
use Rattle.ev_edge.proofs.Quotas.{counted_kept}
use Rattle.ev_edge.proofs.edge.Edge.count_new.Goals as goal

pub invariant_of-self : goal.invariant_of-self
invariant_of-self c =
    let f = c.self.inside in
    let p = c.args.port in
    let few = rw (← c.self.view_is) at c.requires.few in
    rw c.count_at.ensures (other_quotas (with_counted f.quotas.items p f.clock) c.self.invariant
    (counted_kept f.quotas.items p f.clock c.self.invariant.keeps.quotas few))
