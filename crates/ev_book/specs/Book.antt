-- A book and its passes, and when a book is good.
use Rattle.std.specs.Prelude.{◌≡◌, ℕ, ◌<◌, ◌==◌, ◌&&◌, Bool, false, List, length, slice_get, slice_index_or, Option}
use Rattle.std.specs.Prelude.{Some, None}
use Rattle.std.specs.List.{sum_by}
use Rattle.route_wire.specs.Fields.{Fields}
use Rattle.route_join.specs.Table.{Table, IsTableOf}
use Rattle.ev_edge.specs.Edge.{Edge, table_of}
use Rattle.ev_book.specs.declared.mark.Mark.{Mark}
use Rattle.ev_book.specs.declared.pass.Kept.{Kept}
use Rattle.ev_book.specs.Mark.{HoldsAt, same_mark}

-- an edge, the updates that it took and made, and the count and mark of each pass by its number
pub record BookState : Type 0 where
  pub edge : Edge
  pub journal : List Fields
  pub kept : List Kept

abbrev pub book_of : Edge → List Fields → List Kept → BookState
book_of edge journal kept = record { edge = edge; journal = journal; kept = kept }

pub record PassState : Type 0 where
  pub number : ℕ
  pub count : ℕ
  pub mark : Option Mark

-- ---- the good book

-- of a pass that has called nothing
abbrev pub unused : Kept
unused = record { count = 0; mark = None }

abbrev pub kept_at : List Kept → ℕ → Kept
kept_at kept n = slice_index_or kept n unused

-- the counts of all passes together
abbrev pub count_sum : List Kept → ℕ
count_sum kept = sum_by (λ (k : Kept). k.count) kept

-- the table has each mark's register, with its value or a newer one
abbrev pub HoldsMarks : Table → List Kept → Type 0
HoldsMarks t kept = (n : ℕ) → n < length kept → HoldsAt t (kept_at kept n).mark

-- The edge's table is that of the journal's updates, it has the marks, and the counts together are the ledger's total.
pub record IsGoodBook (b : BookState) (total : ℕ) : Type 0 where
  pub table : IsTableOf b.journal (table_of b.edge)
  pub marks : HoldsMarks (table_of b.edge) b.kept
  pub counts : count_sum b.kept ≡ total

-- ---- passes

abbrev pub kept_of : PassState → Kept
kept_of p = record { count = p.count; mark = p.mark }

abbrev pub fits_kept : Option Kept → PassState → Bool
fits_kept None p = false
fits_kept (Some k) p = (k.count == p.count) && same_mark k.mark p.mark

-- the book's record of the pass is the pass's own count and mark
abbrev pub fits : BookState → PassState → Bool
fits b p = fits_kept (slice_get b.kept p.number) p
