-- The requests and the text of a line that makes no request, or one to each edge.
use Rattle.std.proofs.Common.{◌≡◌, ℕ, ◌+◌, Bool, true, false, List, [], ◌∷◌, ◌++◌, length, length-append}
use Rattle.std.proofs.Common.{Option, Result, Ok, Err, refl, sym, ap, subst, ◌∙◌, arith, append-nil}
use Rattle.ether_wire.specs.declared.ends.Device.{Device}
use Rattle.ether_wire.specs.Ends.{End, Puts}
use Rattle.ev_report.specs.Ends.{Tells}
use Rattle.ev_report.proofs.Taking.{tells_more, tells_none}
use Rattle.ev_links.specs.Coming.{behind}
use Rattle.ev_links.proofs.Behind.{behind_none, behind_twice}
use Rattle.ev_view.specs.EdgeViews.{each_from}
use Rattle.ev_view.proofs.Each.{each_both}
use Rattle.ev_console.specs.Asking.{Asked, ServedSeen, served_seen, served_from}
use Rattle.ev_console.specs.Answers.{Says, ShowsEdges, served_seen_text}
use Rattle.ev_console.specs.Inner.Answers.{Does}

pub says_put : (words : List ℕ) (before : Option (List Asked)) (old new : End) (r : Result (Unit {0}) Device)
    → Puts old new words r → Does (Says words) before before old new r
says_put words before old new r put = record {
  asked = [];
  text = words;
  said = (refl, refl);
  told = sym (behind_none before);
  written = put;
}

-- `n` edges were queried for their address, ports and VNIs, and their answers were written
pub record Showing (n : ℕ) (before after : Option (List Asked)) (old new : End) (is_told : Bool) : Type 0 where
  pub answers : List ServedSeen
  pub many : length answers ≡ n
  pub asked : after ≡ behind before (served_from 1 answers)
  pub told : Tells old new true is_told (each_from served_seen_text 1 answers)

served_more : (number : ℕ) (xs : List ServedSeen) (x : ServedSeen) → served_from number (xs ++ x ∷ [])
    ≡ served_from number xs ++ served_seen (number + length xs) x ∷ []
served_more number [] x = ap (λ n. served_seen n x ∷ []) (grind arith)
served_more number (y ∷ ys) x =
    ap (λ (t : List Asked). served_seen number y ∷ t) (served_more (number + 1) ys x
    ∙ ap (λ n. served_from (number + 1) ys ++ served_seen n x ∷ []) (grind arith))

texts_more : (number : ℕ) (xs : List ServedSeen) (x : ServedSeen) → each_from served_seen_text number (xs ++ x ∷ [])
    ≡ each_from served_seen_text number xs ++ served_seen_text (number + length xs) x
texts_more number xs x = each_both served_seen_text number xs (x ∷ [])
    ∙ ap (λ t. each_from served_seen_text number xs ++ t) (append-nil (served_seen_text (number + length xs) x))

pub showing_none : (before : Option (List Asked)) (e : End) → Showing 0 before before e e true
showing_none before e = record {
  answers = [];
  many = refl;
  asked = sym (behind_none before);
  told = tells_none e true;
}

module _ (n : ℕ) (before middle : Option (List Asked)) (old mid : End) (is_told : Bool)
    (s : Showing n before middle old mid is_told) where
  -- one edge more
  pub showing_more : (answer : ServedSeen) (after : Option (List Asked)) (new : End) (is_told' : Bool)
      → after ≡ behind middle (served_seen (n + 1) answer ∷ [])
      → Tells mid new is_told is_told' (served_seen_text (n + 1) answer)
      → Showing (n + 1) before after old new is_told'
  showing_more answer after new is_told' asked told =
      let place : n + 1 ≡ 1 + length s.answers = let m = s.many in omega arith in
      record {
        answers = s.answers ++ answer ∷ [];
        many = let l = length-append s.answers (answer ∷ []) in let m = s.many in omega arith;
        asked = asked ∙ ap (λ (k : Option (List Asked)). behind k (served_seen (n + 1) answer ∷ [])) s.asked
            ∙ behind_twice before (served_from 1 s.answers) (served_seen (n + 1) answer ∷ [])
            ∙ ap (λ m. behind before (served_from 1 s.answers ++ served_seen m answer ∷ [])) place
            ∙ ap (behind before) (sym (served_more 1 s.answers answer));
        told = subst (λ t. Tells old new true is_told' t) (sym (texts_more 1 s.answers answer))
            (tells_more old mid new true is_told is_told' (each_from served_seen_text 1 s.answers)
            (served_seen_text (1 + length s.answers) answer) s.told
            (subst (λ m. Tells mid new is_told is_told' (served_seen_text m answer)) place told));
      }

  pub shows_all : (count : ℕ) (done : Unit {0}) → n ≡ count → is_told ≡ true
      → Does (ShowsEdges count) before middle old mid (Ok done)
  shows_all count done all e = record {
    asked = served_from 1 s.answers;
    text = each_from served_seen_text 1 s.answers;
    said = (s.answers, s.many ∙ all, refl, refl);
    told = s.asked;
    written = s.told.written e;
  }

  pub shows_unwritten : (count : ℕ) (device : Device) → n ≡ count → is_told ≡ false
      → Does (ShowsEdges count) before middle old mid (Err device)
  shows_unwritten count device all e = record {
    asked = served_from 1 s.answers;
    text = each_from served_seen_text 1 s.answers;
    said = (s.answers, s.many ∙ all, refl, refl);
    told = s.asked;
    written = s.told.failed refl e;
  }

pub none_of : {X : Type 0} (us : List X) → length us ≡ 0 → us ≡ []
none_of [] h = refl
none_of (u ∷ us) h = absurd (omega (arith, h))
