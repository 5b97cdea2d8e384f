-- A text without the rows that report no drops reports the same drops.
use Rattle.std.proofs.Common.{rules, ◌≡◌, ℕ, Bool, true, false, not, List, [], ◌∷◌, ◌++◌, ap, refl, sym, ◌∙◌, max, eqb}
use Rattle.std.proofs.Common.{cond}
use Rattle.std.specs.List.{All, fold, filter, slice_split, slice_get, onto_first}
use Rattle.std.proofs.lemmas.List.Elements.{All-nil, All-cons, All-head, All-tail, All-filter}
use Rattle.std.proofs.lemmas.List.Splits.{slice_split_at}
use Rattle.std.proofs.lemmas.List.Sums.{fold-append}
use Rattle.ev_config.specs.declared.endpoint.Endpoint.{Endpoint}
use Rattle.ev_report.specs.Originators.{Text}
use Rattle.ev_run.specs.SystemDrops.{local_text, rows_of, words_of, names, count_of, row_drops, dropped_at}
use Rattle.ev_run.specs.Inner.SystemDrops.{reports_drops, text_of_rows}

-- no element of these passes
abbrev none_passes : (ℕ → Bool) → List ℕ → Type 0
none_passes p = All (λ x. p x ≡ false)

-- no part of a split has an element at which it was split
in_front : (p : ℕ → Bool) (x : ℕ) (parts : List (List ℕ)) → p x ≡ false → All (none_passes p) parts
    → All (none_passes p) (onto_first x parts)
in_front p x [] is all =
    let alone = All-cons (λ y. p y ≡ false) x [] is (All-nil (λ y. p y ≡ false)) in
    All-cons (none_passes p) (x ∷ []) [] alone (All-nil (none_passes p))
in_front p x (part ∷ parts) is all =
    let longer = All-cons (λ y. p y ≡ false) x part is (All-head (none_passes p) part parts all) in
    All-cons (none_passes p) (x ∷ part) parts longer (All-tail (none_passes p) part parts all)

by_test : (p : ℕ → Bool) (x : ℕ) (parts : List (List ℕ)) (b : Bool) → p x ≡ b → All (none_passes p) parts
    → All (none_passes p) (cond b ([] ∷ parts) (onto_first x parts))
by_test p x parts true is all = All-cons (none_passes p) [] parts (All-nil (λ y. p y ≡ false)) all
by_test p x parts false is all = in_front p x parts is all

parts_are_clean : (p : ℕ → Bool) (xs : List ℕ) → All (none_passes p) (slice_split p xs)
parts_are_clean p [] = All-cons (none_passes p) [] [] (All-nil (λ y. p y ≡ false)) (All-nil (none_passes p))
parts_are_clean p (x ∷ xs) = by_test p x (slice_split p xs) (p x) refl (parts_are_clean p xs)

abbrev is_end : ℕ → Bool
is_end c = eqb c 10

-- the rows of a text of rows are these, and an empty one
rows_of_rows : (rows : List Text) → All (none_passes is_end) rows → rows_of (text_of_rows rows) ≡ rows ++ [] ∷ []
rows_of_rows [] clean = refl
rows_of_rows (text ∷ rows) clean =
    slice_split_at is_end text 10 (text_of_rows rows) (All-head (none_passes is_end) text rows clean) refl
    ∙ ap (λ more. text ∷ more) (rows_of_rows rows (All-tail (none_passes is_end) text rows clean))

-- the greatest number of a row
abbrev most : Text → ℕ → List Text → ℕ
most local = fold (λ n row. max n (row_drops local row))

counts_nothing : (b : Bool) (n : ℕ) → not (eqb n 0) ≡ false → cond b n 0 ≡ 0
counts_nothing true n is = search rules
counts_nothing false n is = refl

-- a row that reports no drops counts for nothing
idle_row : (local row : Text) → reports_drops row ≡ false → row_drops local row ≡ 0
idle_row local row is =
    counts_nothing (names local (slice_get (words_of row) 1)) (count_of (slice_get (words_of row) 12)) is

by_report : (local row : Text) (rows : List Text) (n : ℕ) (b : Bool) → reports_drops row ≡ b
    → most local (max n (row_drops local row)) (filter reports_drops rows)
    ≡ most local (max n (row_drops local row)) rows
    → most local n (cond b (row ∷ filter reports_drops rows) (filter reports_drops rows))
    ≡ most local (max n (row_drops local row)) rows
by_report local row rows n true is same = same
by_report local row rows n false is same =
    let none : max n (row_drops local row) ≡ n = ap (max n) (idle_row local row is) ∙ search rules in
    ap (λ m. most local m (filter reports_drops rows)) (sym none) ∙ same

reports_suffice : (local : Text) (rows : List Text) (n : ℕ)
    → most local n (filter reports_drops rows) ≡ most local n rows
reports_suffice local [] n = refl
reports_suffice local (row ∷ rows) n =
    by_report local row rows n (reports_drops row) refl (reports_suffice local rows (max n (row_drops local row)))

pub same_drops : (at : Endpoint) (text : Text)
    → dropped_at (text_of_rows (filter reports_drops (rows_of text))) at ≡ dropped_at text at
same_drops at text =
    let local = local_text at in
    let reported = filter reports_drops (rows_of text) in
    let clean = All-filter reports_drops (none_passes is_end) (rows_of text) (parts_are_clean is_end text) in
    ap (most local 0) (rows_of_rows reported clean)
    ∙ fold-append (λ n row. max n (row_drops local row)) 0 reported ([] ∷ [])
    ∙ search rules ∙ reports_suffice local (rows_of text) 0
