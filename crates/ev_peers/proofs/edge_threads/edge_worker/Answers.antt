use Rattle.std.proofs.Common.{ℕ, sym, subst}
use Rattle.ev_peers.specs.History.{StandsAt}
use Rattle.ev_peers.proofs.edge_threads.edge_worker.Goals as goal

pub returns-clause-stands : goal.returns-clause-stands
returns-clause-stands g c =
    let closed = c.closed-edge.result in
    subst (λ (n : ℕ). StandsAt n closed.2 closed.0) (sym c.requires.place) c.closed-edge.ensures.stands
