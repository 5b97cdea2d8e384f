-- Records that were written are read again.
use Rattle.std.proofs.Common.{◌≡◌, ℕ, List, [], ◌∷◌, ◌++◌, Result, Ok, refl, ap, sym, subst, ◌∙◌}
use Rattle.std.proofs.Common.{append_assoc}
use Rattle.std.proofs.lemmas.List.{append-nil, map_push}
use Rattle.route_wire.specs.Fields.{Fields}
use Rattle.route_wire.specs.Record.{Reads, Answers}
use Rattle.route_wire.specs.Encode.{spelling_of}
use Rattle.route_wire.specs.Records.{records_of, all_ok}
use Rattle.route_wire.proofs.Records.{reads_on, records-push}

-- the records of these updates are read as them, whatever follows
abbrev pub ReadAgain : List Fields → Type 0
ReadAgain us = (rest : List ℕ) → Reads (records_of us ++ rest) (all_ok us) rest

pub reads_more : (us : List Fields) (u : Fields) → ReadAgain us
    → ((rest : List ℕ) → Reads (spelling_of u ++ rest) (Ok u ∷ []) rest) → ReadAgain (us ++ u ∷ [])
reads_more us u before last rest =
    let first = before (spelling_of u ++ rest) in
    let whole : records_of us ++ (spelling_of u ++ rest) ≡ records_of (us ++ u ∷ []) ++ rest =
    sym (append_assoc (records_of us) (spelling_of u) rest)
    ∙ ap (λ (z : List ℕ). z ++ rest) (sym (records-push us u)) in
    let all : Reads (records_of us ++ (spelling_of u ++ rest)) (all_ok us ++ Ok u ∷ []) rest =
    reads_on 3 (records_of us ++ (spelling_of u ++ rest)) (all_ok us) (Ok u ∷ []) (spelling_of u ++ rest) rest first
    (last rest) in
    subst (λ (z : List ℕ). Reads z (all_ok (us ++ u ∷ [])) rest) whole
    (subst (λ (z : List (Result Fields ℕ)). Reads (records_of us ++ (spelling_of u ++ rest)) z rest)
    (sym (map_push (λ v. Ok v) us u)) all)

pub answered : (us : List Fields) → ReadAgain us → Answers (records_of us) (all_ok us) []
answered us h = record {
  reads = subst (λ (z : List ℕ). Reads z (all_ok us) []) (append-nil (records_of us)) (h []);
  ended = refl;
}
