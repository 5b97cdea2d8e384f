-- The counts of a book that is closed: those of the passes given back.
use Rattle.std.specs.Prelude.{◌≡◌, ℕ, eqb, ◌==◌, if◌then◌else◌, Option, Some, None, List, [], ◌∷◌, map, Contains}
use Rattle.std.specs.List.{sum_by, IsDistinct}
use Rattle.ev_book.specs.declared.pass.Counted.{Counted}
use Rattle.ev_book.specs.Book.{PassState}

abbrev pub counted_of : PassState → Counted
counted_of p = record { number = p.number; count = p.count }

-- each pass's own number and count
abbrev pub counts_of : List PassState → List Counted
counts_of passes = map counted_of passes

abbrev pub sum_of : List Counted → ℕ
sum_of counts = sum_by (λ (c : Counted). c.count) counts

-- the count beside a number, the first where there are several
abbrev pub count_in : List Counted → ℕ → Option ℕ
count_in [] number = None
count_in (c ∷ counts) number = if c.number == number then Some c.count else count_in counts number

-- no two have the same number
abbrev pub AreNumbered : List PassState → Type 0
AreNumbered passes = IsDistinct eqb (map (λ (p : PassState). p.number) passes)

-- the own count of each pass
abbrev pub TellsEach : List PassState → List Counted → Type 0
TellsEach passes counts = (p : PassState) → Contains passes p → count_in counts p.number ≡ Some p.count
