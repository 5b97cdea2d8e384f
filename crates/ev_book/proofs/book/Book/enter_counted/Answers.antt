use Rattle.std.proofs.Common.{◌≡◌, true, sym, subst}
use Rattle.ev_edge.specs.Edge.{table_of}
use Rattle.ev_book.specs.Mark.{HoldsAt}
use Rattle.ev_book.specs.Book.{BookState, PassState, book_of, fits}
use Rattle.ev_book.specs.Entering.{answered, touched_by}
use Rattle.ev_book.proofs.Counting.{entered, then_holds, fitting_holds, fits_from}
use Rattle.ev_book.proofs.book.Book.enter_counted.Goals as goal

pub invariant_of-self : goal.invariant_of-self
invariant_of-self g c =
    let b : BookState = book_of c.self.inside.edge c.self.inside.journal.updates.items c.self.inside.kept.items in
    let p : PassState = record {
      number = c.pass.inside.number;
      count = c.pass.inside.count;
      mark = c.pass.inside.mark;
    } in
    let h : fits b p ≡ true = fits_from b c.args.self.now p c.args.pass.now c.self.view_is c.pass.view_is
    c.requires.fits in
    let new : HoldsAt (table_of c.step-result.new.edge) c.mark_after-pass-inside.result =
    subst (HoldsAt (table_of c.step-result.new.edge)) (sym c.mark_after-pass-inside.ensures)
    (then_holds (table_of b.edge) (table_of c.step-result.new.edge) p.mark
    (touched_by c.args.event.now (answered c.step-result.result c.step-result.new.reply))
    c.step-result.ensures.marks (fitting_holds b c.self.inside.sum.total p c.self.invariant.0 h)
    c.step-result.ensures.mark) in (
      rw c.add.ensures.total (entered b c.self.inside.sum.total p c.step-result.new.edge
          c.step-result.new.journal.updates.items c.mark_after-pass-inside.result c.self.invariant.0 h
          c.step-result.ensures.table c.step-result.ensures.marks new),
      c.step-result.ensures.least,
    )
