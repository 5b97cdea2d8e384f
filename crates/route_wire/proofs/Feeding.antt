-- Octets that are taken from a piece, and the answers of a stream that continues.
use Rattle.std.proofs.Common.{◌≡◌, inl, inr, ℕ, ◌+◌, ◌-◌, ◌<◌, ◌≤◌, Bool, true, false, List, [], ◌∷◌, ◌++◌, length}
use Rattle.std.proofs.Common.{take, drop, Result, Ok, Err, refl, sym, ap, subst, ◌∙◌, arith, length-append}
use Rattle.std.proofs.Common.{append_assoc, append-nil}
use Rattle.std.proofs.Math.Seq.{take-add, take-length, drop-length, take-append-add}
use Rattle.std.proofs.lemmas.Bool.{cases_Bool, cases_lt}
use Rattle.std.proofs.lemmas.List.{take-append-le, take-append-drop, take-take, drop-append-le, length-take}
use Rattle.std.proofs.lemmas.List.{length-take-le}
use Rattle.route_wire.specs.declared.stream.Whole.TheVariants.{Rest, Length}
use Rattle.route_wire.specs.declared.stream.Next.{Next}
use Rattle.route_wire.specs.Fields.{Fields}
use Rattle.route_wire.specs.Stream.{whole_up_to}
use Rattle.route_wire.specs.Record.{reading, ReadsUpTo}
use Rattle.route_wire.specs.Feed.{Held, is_rest, is_fault, shown, IsHeld, TakesNext, HasRead}
use Rattle.route_wire.specs.Feed.{added, answer_of}
use Rattle.route_wire.proofs.Wholes.{found_long}
use Rattle.route_wire.proofs.Records.{reads_on}
use Rattle.route_wire.proofs.Prefixes.{settled, whole_followed, whole_front}

-- ---- pieces
-- before each of the next n octets of a piece no record and no fault was whole
abbrev pub IsUnfinished : ℕ → List ℕ → List ℕ → ℕ → Type 0
IsUnfinished newest held piece n = (k : ℕ) → k < n → is_rest (whole_up_to newest (held ++ take k piece)) ≡ true

pub take_both : (held piece : List ℕ) (a b : ℕ)
    → (held ++ take a piece) ++ take b (drop a piece) ≡ held ++ take (a + b) piece
take_both held piece a b = simp (take-add, append_assoc)

-- a fact about the octets below a, and about those from a on
pub first_then : (P : ℕ → Type 0) (a b : ℕ) → ((k : ℕ) → k < a → P k) → ((j : ℕ) → j < b → P (a + j)) → (k : ℕ)
    → k < a + b → P k
first_then P a b first later k less = elim (cases_lt k a) [
  | inl below ↦ first k below
  | inr le ↦ let same : a + (k - a) ≡ k = omega arith in subst P same (later (k - a) (omega arith))
]

-- the octets that are held after octets were taken
pub held_more : (newest : ℕ) (held piece : List ℕ) (n : ℕ) → n ≤ length piece → IsHeld newest held
    → IsUnfinished newest held piece n → IsHeld newest (held ++ take n piece)
held_more newest held piece n le old new k less =
    first_then (λ i. is_rest (whole_up_to newest (take i (held ++ take n piece))) ≡ true) (length held) n
    (λ i lt. rw (take-append-le i held (take n piece) (omega arith)) (old i lt))
    (λ j lt. rw (take-append-add, take-take j n piece (omega arith)) (new j lt)) k
    (omega (arith, length-append held (take n piece), length-take-le n piece le))

-- ---- answers
reads_more : (newest : ℕ) (s : List ℕ) (xs : List (Result Fields ℕ)) (r more : List ℕ) → ReadsUpTo newest s xs r
    → ReadsUpTo newest (s ++ more) xs (r ++ more)
reads_more newest s [] r more h = ap (λ (t : List ℕ). t ++ more) h
reads_more newest s (x ∷ xs) r more h =
    let l = found_long newest s h.0 h.1 in (
      h.0,
      whole_followed newest s more h.0 h.1,
      ap reading (take-append-le h.0 s more l.3) ∙ h.2,
      rw (drop-append-le h.0 s more l.3) (reads_more newest (drop h.0 s) xs r more h.3),
    )

pub never : {b : Bool} → b ≡ true → b ≡ false → ⊥
never e g = cc

-- octets after a fault change nothing
pub read_skipping : (h : Held) (stream piece : List ℕ) (answers : List (Result Fields ℕ)) → is_fault (shown h) ≡ true
    → HasRead h stream answers → HasRead h (stream ++ take (length piece) piece) answers
read_skipping h stream piece answers f r = record {
  skipped = r.skipped ++ piece;
  reads = rw (take-length, ← append_assoc)
      (reads_more h.newest stream answers (h.rest ++ r.skipped) piece r.reads);
  faulty = λ e. absurd (never f e);
}

abbrev held_as : ℕ → List ℕ → Held
held_as newest rest = record { newest = newest; rest = rest }

-- octets that are taken are held
pub read_taking : (newest : ℕ) (rest more stream : List ℕ) (answers : List (Result Fields ℕ))
    → whole_up_to newest rest ≡ Rest → HasRead (held_as newest rest) stream answers
    → HasRead (held_as newest (rest ++ more)) (stream ++ more) answers
read_taking newest rest more stream answers e r = record {
  skipped = [];
  reads = rw append-nil (rw (r.faulty (ap is_fault e), append-nil) at
      (reads_more newest stream answers (rest ++ r.skipped) more r.reads));
  faulty = λ e. refl;
}

added_answer : (x : Result Fields ℕ) → added (answer_of x) ≡ x ∷ []
added_answer (Ok u) = refl
added_answer (Err refusal) = refl

-- the answer to a whole record that was held
pub read_answer : (newest : ℕ) (rest stream : List ℕ) (answers : List (Result Fields ℕ)) (told : Next)
    → whole_up_to newest rest ≡ Length (length rest) → told ≡ answer_of (reading rest)
    → HasRead (held_as newest rest) stream answers → HasRead (held_as newest []) stream (answers ++ added told)
read_answer newest rest stream answers told whole is r = record {
  skipped = [];
  reads = rw (is, added_answer) (reads_on newest stream answers (reading rest ∷ []) rest []
      (rw (r.faulty (ap is_fault whole), append-nil) at r.reads)
      (length rest, whole, ap reading (take-length rest), drop-length rest));
  faulty = λ e. refl;
}

-- ---- a record that lies whole in a piece
beginning : (newest : ℕ) (s more : List ℕ) (n : ℕ) → whole_up_to newest (s ++ more) ≡ Length n → length s < n
    → is_rest (whole_up_to newest s) ≡ true
beginning newest s more n h less = elim (cases_Bool (is_rest (whole_up_to newest s))) [
  | inl e ↦ e
  | inr e ↦ absurd (omega (arith, (found_long newest s n (sym (settled newest s more e) ∙ h)).3))
]

module _ (newest n : ℕ) (piece : List ℕ) (told : Next) (found : whole_up_to newest piece ≡ Length n)
    (is : told ≡ answer_of (reading (take n piece))) where
  pub takes_whole : TakesNext (held_as newest []) (held_as newest []) piece n told
  takes_whole =
      let alone = whole_front newest piece n found in record {
        mid = held_as newest (take n piece);
        feeds = (
          tt,
          record {
            version = refl;
            fits = (found_long newest piece n found).3;
            taken = refl;
            unfinished = λ k less. beginning newest (take k piece) (drop k piece) n (rw take-append-drop found)
                (omega (arith, length-take k piece));
            ended = λ e. absurd (never e (ap is_rest alone));
          },
        );
        next = rw alone is;
        after = rw alone refl;
      }

  pub read_lying : (stream : List ℕ) (answers : List (Result Fields ℕ)) → HasRead (held_as newest []) stream answers
      → HasRead (held_as newest []) (stream ++ take n piece) (answers ++ added told)
  read_lying stream answers r =
      read_answer newest (take n piece) (stream ++ take n piece) answers told (whole_front newest piece n found) is
      (read_taking newest [] (take n piece) stream answers refl r)
