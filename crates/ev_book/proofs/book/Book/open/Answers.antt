use Rattle.std.proofs.Common.{◌≡◌, ℕ, List, replicate, sym, subst, arith}
use Rattle.route_wire.specs.Fields.{Fields}
use Rattle.route_join.specs.Table.{IsTableOf}
use Rattle.ev_claims.specs.Opening.{Opens}
use Rattle.ev_edge.specs.Edge.{table_of}
use Rattle.ev_edge.specs.Opening.{start_of}
use Rattle.ev_edge.proofs.Changing.{opening_changes}
use Rattle.ev_book.specs.declared.pass.Kept.{Kept}
use Rattle.ev_book.specs.Book.{IsGoodBook, book_of, unused}
use Rattle.ev_book.specs.Journal.{AreOwnSince}
use Rattle.ev_book.proofs.Stepping.{first_own, first_are_own, first_table}
use Rattle.ev_book.proofs.Counting.{opened_good}
use Rattle.ev_book.proofs.book.Book.open.Goals as goal

pub first_journal-requires : goal.first_journal-requires
first_journal-requires g c =
    let s = start_of c.args.config in
    let e = c.in_ok-edge.edge.routes in (
      first_own s e,
      first_are_own s e (opening_changes c.args.config c.in_ok-edge.edge c.requires.config
          c.in_ok-edge.ensures),
    )

pub invariant_of-book : goal.invariant_of-book
invariant_of-book g c =
    let s = start_of c.args.config in
    let edge = c.in_ok-edge.edge in
    let opens : Opens s edge.routes = opening_changes c.args.config edge c.requires.config c.in_ok-edge.ensures in
    let journal : c.in_ok-journal.journal.updates.items ≡ first_own s edge.routes =
    c.in_ok-journal.ensures.own (first_own s edge.routes) (first_are_own s edge.routes opens) in
    let table : IsTableOf c.in_ok-journal.journal.updates.items (table_of edge) =
    subst (λ (us : List Fields). IsTableOf us (table_of edge)) (sym journal) (first_table s edge.routes opens) in
    let good = opened_good edge c.in_ok-journal.journal.updates.items c.args.passes table in (
      subst (λ (kept : List Kept). IsGoodBook (book_of edge c.in_ok-journal.journal.updates.items kept)
          c.open-sum.result.0.total) (sym c.in_ok-kept.ensures)
          (subst (λ (total : ℕ). IsGoodBook (book_of edge c.in_ok-journal.journal.updates.items
          (replicate c.args.passes unused)) total) (sym c.open-sum.ensures.total) good),
      (let none = c.in_ok-journal.ensures.least in omega (arith, none)),
    )

pub returns-clause-book : goal.returns-clause-book
returns-clause-book g c =
    let s = start_of c.args.config in
    let edge = c.in_ok-edge.edge in
    let opens : Opens s edge.routes = opening_changes c.args.config edge c.requires.config c.in_ok-edge.ensures in
    let journal : c.in_ok-journal.journal.updates.items ≡ first_own s edge.routes =
    c.in_ok-journal.ensures.own (first_own s edge.routes) (first_are_own s edge.routes opens) in
    record {
      edge = c.in_ok-edge.ensures;
      journal = subst (AreOwnSince edge.routes.speaker 0) (sym journal) (first_are_own s edge.routes opens);
      kept = c.in_ok-kept.ensures;
    }
