-- The records of updates, one after the other, and a stream's answers.
use Rattle.std.proofs.Common.{◌≡◌, ℕ, List, [], ◌∷◌, ◌++◌, drop, Result}
use Rattle.std.proofs.lemmas.List.{append-nil, map_push}
use Rattle.std.proofs.lemmas.List.Folds.{concat-append}
use Rattle.route_wire.specs.Fields.{Fields}
use Rattle.route_wire.specs.Record.{ReadsUpTo}
use Rattle.route_wire.specs.Encode.{spelling_of}
use Rattle.route_wire.specs.Records.{records_of}

-- answers, and then the answers of the rest
pub reads_on : (newest : ℕ) (s : List ℕ) (xs ys : List (Result Fields ℕ)) (r t : List ℕ) → ReadsUpTo newest s xs r
    → ReadsUpTo newest r ys t → ReadsUpTo newest s (xs ++ ys) t
reads_on newest s [] ys r t h k = rw h k
reads_on newest s (x ∷ xs) ys r t h k = (h.0, h.1, h.2, reads_on newest (drop h.0 s) xs ys r t h.3 k)

-- one record more
pub records-push : (us : List Fields) (u : Fields) → records_of (us ++ u ∷ []) ≡ records_of us ++ spelling_of u
records-push us u = simp (map_push, concat-append, append-nil)
