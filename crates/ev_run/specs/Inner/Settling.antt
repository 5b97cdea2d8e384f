-- The number of a process's threads, as Linux reports it in `/proc/self/status`.
use Rattle.std.specs.Prelude.{ℕ, max, if◌then◌else◌, ◌==◌, List, codes}
use Rattle.std.specs.List.{fold, slice_split, slice_get}
use Rattle.ev_report.specs.Originators.{Text}
use Rattle.ev_run.specs.SystemDrops.{rows_of, names, count_of}

-- the words of a row, which tabs separate
abbrev pub fields_of : Text → List Text
fields_of row = slice_split (λ c. c == 9) row

-- the number that a row reports: its second word, if its first one is `Threads:`
abbrev pub row_threads : Text → ℕ
row_threads row =
    if names (codes "Threads:") (slice_get (fields_of row) 0) then count_of (slice_get (fields_of row) 1) else 0

-- the number that the text reports; 0 if it reports none
abbrev pub threads_in : Text → ℕ
threads_in text = fold (λ most row. max most (row_threads row)) 0 (rows_of text)
