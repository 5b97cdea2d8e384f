-- The counts of a book that is closed: those of the passes given back.
use Rattle.std.specs.Prelude.{ℕ, List}
use Rattle.std.specs.List.{sum_by}
use Rattle.ev_book.specs.Book.{PassState}

-- how many calls the passes have together
abbrev pub calls_of : List PassState → ℕ
calls_of passes = sum_by (λ (p : PassState). p.count) passes
