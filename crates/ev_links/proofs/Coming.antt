-- Things that came to a worker and were handled, one by one.
use Rattle.std.proofs.Common.{◌≡◌, List, [], ◌∷◌, Option, Some, map, ap, sym, ◌∙◌, reverse}
use Rattle.std.proofs.lemmas.List.{reverse-append}
use Rattle.ev_links.specs.Coming.{behind, after_these, DoesAll}
use Rattle.ev_links.specs.Inner.Coming.{DoesOne}
use Rattle.ev_links.proofs.Behind.{behind_twice}

pub one_more : {A : Type 0} (came came1 came2 : Option (List (Option A))) (before : List A) (a : A)
    → came1 ≡ after_these came before → came2 ≡ behind came1 (Some a ∷ []) → came2 ≡ after_these came (a ∷ before)
one_more {A} came came1 came2 before a known e =
    e ∙ ap (λ (k : Option (List (Option A))). behind k (Some a ∷ [])) known
    ∙ behind_twice came (reverse (map Some before)) (Some a ∷ [])
    ∙ ap (behind came) (sym (reverse-append (Some a ∷ []) (map Some before)))

-- one more thing came and was handled
pub goes_on : {A S : Type 0} (Does : S → A → S → Type 0) (came came1 came2 : Option (List (Option A))) (s s1 s2 : S)
    → DoesAll Does came s came1 s1 → DoesOne Does came1 s1 came2 s2 → DoesAll Does came s came2 s2
goes_on Does came came1 came2 s s1 s2 d one = record {
  things = one.thing ∷ d.things;
  told = one_more came came1 came2 d.things one.thing d.told one.told;
  done = (s1, d.done, one.done);
}
