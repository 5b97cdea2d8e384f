use Rattle.std.proofs.Common.{ℕ, ◌++◌, ◌∷◌, [], Err, sym, subst, arith}
use Rattle.ev_exchange.specs.Receiving.{Received, AreCounts}
use Rattle.ev_exchange.proofs.Counting.{counts_refused}
use Rattle.std.specs.Prelude.{slice_set}
use Rattle.ev_exchange.proofs.receiver.Receiver.count.Goals as goal

pub returns-clause-counts : goal.returns-clause-counts
returns-clause-counts c = λ earlier h.
    subst (λ (r : ℕ). AreCounts (slice_set c.self.inside.counts c.from-kind.result c.saturating_add.result)
    (earlier ++ Err r ∷ [])) c.from-kind.ensures
    (counts_refused c.self.inside.counts earlier c.from-kind.result c.saturating_add.result
    (omega (arith, c.self.told, c.from-kind.ensures, c.requires)) c.saturating_add.ensures
    (subst (λ (v : Received). AreCounts v.counts earlier) (sym c.self.view_is) h)
    (omega (arith, c.from-kind.ensures, c.requires)))
