-- The announcements of a worker, call by call.
use Rattle.std.proofs.Common.{◌≡◌, Bool, true, List, [], ◌∷◌, ◌++◌, Option, Some, None, refl, ap, ◌∙◌}
use Rattle.route_wire.specs.Fields.{Fields}
use Rattle.ev_book.specs.Book.{PassState}
use Rattle.ev_peers.specs.Passing.{Entered, Asked, AskedEach, Word, SaidOf, Said, said_of, says, sends, announced}
use Rattle.ev_peers.specs.Passing.{has_room, Stops, Announces}
use Rattle.ev_links.proofs.Behind.{behind_none, behind_twice}

-- words after words, and no words
pub says_twice : {U : Type 0} → (s : SaidOf U) (a b : List Word) → says (says s a) b ≡ says s (a ++ b)
says_twice s a b = ap (λ (k : Option (List Word)). said_of s.own s.sent k) (behind_twice s.words a b)

pub says_none : {U : Type 0} → (s : SaidOf U) → says s [] ≡ s
says_none s = ap (λ (k : Option (List Word)). said_of s.own s.sent k) (behind_none s.words)

-- the announcements that were requested and sent so far
pub record SoFar (p : PassState) (old : Said) (p' : PassState) (new : Said) : Type 0 where
  pub got : List Fields
  pub asked : AskedEach p got p'
  pub given : new ≡ announced old got

pub begins : (p : PassState) (old : Said) → SoFar p old p old
begins p old = record { got = []; asked = refl; given = refl }

-- one more announcement, for which there was room, and which was sent to the other edges
pub goes_on : (p : PassState) (old : Said) (p1 : PassState) (mid : Said) (room : Bool) (said : Said) (u : Fields)
    (p2 : PassState) (new : Said) → SoFar p old p1 mid → said ≡ says mid (has_room room ∷ []) → room ≡ true
    → Asked p1 (Some u) p2 → new ≡ sends said u → SoFar p old p2 new
goes_on p old p1 mid room said u p2 new s told there a e = record {
  got = u ∷ s.got;
  asked = (p1, s.asked, a);
  given = e ∙ ap (λ (k : Said). sends k u) (told ∙ ap (λ (r : Bool). says mid (has_room r ∷ [])) there
      ∙ ap (λ (k : Said). says k (has_room true ∷ [])) s.given);
}

-- and then there was no announcement, or no room
pub ends : (p : PassState) (old : Said) (p1 : PassState) (mid : Said) (room : Bool) (p2 : PassState) (new : Said)
    → SoFar p old p1 mid → new ≡ says mid (has_room room ∷ []) → Stops room p1 p2 → Announces p old p2 new
ends p old p1 mid room p2 new s told stops = record {
  middle = p1;
  got = s.got;
  asked = s.asked;
  had_room = room;
  last = stops;
  given = told ∙ ap (λ (k : Said). says k (has_room room ∷ [])) s.given;
}

-- there was room, and then there was no announcement
pub none_left : (p : PassState) (old : Said) (p1 : PassState) (mid : Said) (room : Bool) (p2 : PassState) (new : Said)
    → SoFar p old p1 mid → new ≡ says mid (has_room room ∷ []) → room ≡ true → Asked p1 None p2
    → Announces p old p2 new
none_left p old p1 mid room p2 new s told there a =
    ends p old p1 mid true p2 new s (told ∙ ap (λ (r : Bool). says mid (has_room r ∷ [])) there) a
