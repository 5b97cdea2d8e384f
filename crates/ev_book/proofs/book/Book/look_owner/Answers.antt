use Rattle.std.proofs.Common.{subst}
use Rattle.ev_book.specs.Book.{BookState, IsGoodBook}
use Rattle.ev_book.proofs.Counting.{fitting_holds}
use Rattle.ev_book.proofs.book.Book.look_owner.Goals as goal

pub returns-clause-mark : goal.returns-clause-mark
returns-clause-mark g c = λ h. fitting_holds c.args.self.now c.self.inside.sum.total c.args.pass.now
    (subst (λ (b : BookState). IsGoodBook b c.self.inside.sum.total) c.self.view_is c.self.invariant.0) h
