-- A step that is entered at one edge after the other.
use Rattle.std.proofs.Common.{◌≡◌, ℕ, ◌+◌, Bool, true, false, ◌&&◌, List, [], ◌∷◌, ◌++◌, length, length-append}
use Rattle.std.proofs.Common.{Option, refl, sym, ap, ◌∙◌, arith}
use Rattle.std.specs.List.{list_all}
use Rattle.std.proofs.lemmas.List.Folds.{list_all-append}
use Rattle.ev_links.specs.Coming.{behind}
use Rattle.ev_links.proofs.Behind.{behind_none, behind_twice}
use Rattle.ev_mailboxes.specs.declared.request.OperatorCommand.{OperatorCommand as Step}
use Rattle.ev_console.specs.Asking.{Asked, Entered, entered}
use Rattle.ev_console.specs.Turns.{is_taken, entered_from, EntersAtEach}

entered_more : (number : ℕ) (step : Step) (xs : List Entered) (x : Entered) → entered_from number step (xs ++ x ∷ [])
    ≡ entered_from number step xs ++ entered (number + length xs) step x ∷ []
entered_more number step [] x = ap (λ n. entered n step x ∷ []) (grind arith)
entered_more number step (y ∷ ys) x =
    ap (λ (t : List Asked). entered number step y ∷ t) (entered_more (number + 1) step ys x
    ∙ ap (λ n. entered_from (number + 1) step ys ++ entered n step x ∷ []) (grind arith))

pub entering_none : (step : Step) (before : Option (List Asked)) → EntersAtEach 0 step before before true
entering_none step before = record {
  answers = [];
  many = refl;
  asked = sym (behind_none before);
  all = refl;
}

and_true : (b : Bool) → (b && true) ≡ b
and_true true = refl
and_true false = refl

-- one edge more
pub entering_more : (n : ℕ) (step : Step) (before middle after : Option (List Asked)) (taken : Bool) (answer : Entered)
    → EntersAtEach n step before middle taken → after ≡ behind middle (entered (n + 1) step answer ∷ [])
    → EntersAtEach (n + 1) step before after (taken && is_taken answer)
entering_more n step before middle after taken answer s asked =
    let place : n + 1 ≡ 1 + length s.answers = let m = s.many in omega arith in
    record {
      answers = s.answers ++ answer ∷ [];
      many = let l = length-append s.answers (answer ∷ []) in let m = s.many in omega arith;
      asked = asked ∙ ap (λ (k : Option (List Asked)). behind k (entered (n + 1) step answer ∷ [])) s.asked
          ∙ behind_twice before (entered_from 1 step s.answers) (entered (n + 1) step answer ∷ [])
          ∙ ap (λ m. behind before (entered_from 1 step s.answers ++ entered m step answer ∷ [])) place
          ∙ ap (behind before) (sym (entered_more 1 step s.answers answer));
      all = ap (λ b. b && is_taken answer) s.all
          ∙ ap (λ b. list_all is_taken s.answers && b) (sym (and_true (is_taken answer)))
          ∙ sym (list_all-append is_taken s.answers (answer ∷ []));
    }
