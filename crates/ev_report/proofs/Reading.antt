-- The octets of a reader, read after read.
use Rattle.std.proofs.Common.{◌≡◌, ℕ, ◌<◌, List, [], ◌∷◌, ◌++◌, take, length, length-append, length-take-le}
use Rattle.std.proofs.Common.{Option, Some, None, Ok, refl, sym, ap, ◌∙◌, append_assoc, arith}
use Rattle.std.proofs.lemmas.List.{append-nil}
use Rattle.std.specs.Prelude.{IfSome}
use Rattle.std.specs.List.{concat}
use Rattle.std.specs.Io.KnownBytes.{prepend_known, IsAtEnd}
use Rattle.ether_wire.specs.Ends.{Source, Gets}
use Rattle.ev_report.specs.Ends.{AreSome, Gives}

prepend_known_twice : (k : Option (List ℕ)) (a b : List ℕ)
    → prepend_known a (prepend_known b k) ≡ prepend_known (a ++ b) k
prepend_known_twice None a b = refl
prepend_known_twice (Some xs) a b = ap Some (sym (append_assoc a b xs))

pub prepend_known_none : (k : Option (List ℕ)) → prepend_known [] k ≡ k
prepend_known_none None = refl
prepend_known_none (Some xs) = refl

pub at_end : (k : Option (List ℕ)) → IfSome k (λ xs. xs ≡ []) → IsAtEnd k
at_end None h = tt
at_end (Some xs) h = h

pub same_source : (a b : Source) → a.octets ≡ b.octets → a.failures ≡ b.failures → a.reads ≡ b.reads → a ≡ b
same_source a b o f r = rw (o, f, r) refl

-- ---- pieces
pub concat_more : (ps : List (List ℕ)) (p : List ℕ) → concat (ps ++ p ∷ []) ≡ concat ps ++ p
concat_more [] p = append-nil p
concat_more (q ∷ ps) p = ap (λ x. q ++ x) (concat_more ps p) ∙ sym (append_assoc q (concat ps) p)

all_more : (ps : List (List ℕ)) (p : List ℕ) → AreSome ps → 0 < length p → AreSome (ps ++ p ∷ [])
all_more [] p h k = (k, tt)
all_more (q ∷ ps) p h k = (h.0, all_more ps p h.1 k)

pub gives_none : (s : Source) → Gives s s []
gives_none s = record { given = sym (prepend_known_none s.octets); some = tt; reads = grind arith; unfailed = refl }

pub gives_one : (s t : Source) (buffer : List ℕ) (n : ℕ) → Gets s t buffer (Ok n) → 0 < n
    → Gives s t (take n buffer ∷ [])
gives_one s t buffer n g some = record {
  given = g.takes.next ∙ ap (λ x. prepend_known x t.octets) (sym (append-nil (take n buffer)));
  some = (
    let k : length (take n buffer) ≡ n = length-take-le n buffer g.takes.fits in
        let x : 0 < length (take n buffer) = omega arith in x,
    tt,
  );
  reads = g.reads;
  unfailed = g.failures ∙ grind arith;
}

pub gives_more : (s t u : Source) (ps : List (List ℕ)) (p : List ℕ) → Gives s t ps → Gives t u (p ∷ [])
    → Gives s u (ps ++ p ∷ [])
gives_more s t u ps p h k = record {
  given = h.given ∙ ap (prepend_known (concat ps)) k.given ∙ prepend_known_twice u.octets (concat ps) (p ++ [])
      ∙ ap (λ x. prepend_known x u.octets) (ap (λ x. concat ps ++ x) (append-nil p) ∙ sym (concat_more ps p));
  some = all_more ps p h.some k.some.0;
  reads = let a = h.reads in let b = k.reads in let l = length-append ps (p ∷ []) in omega arith;
  unfailed = k.unfailed ∙ h.unfailed;
}
