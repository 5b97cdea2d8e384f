-- Adverts in the order in which they are preferred, one more told.
use Rattle.std.proofs.Common.{◌≡◌, ℕ, zero, suc, List, [], ◌∷◌, ◌++◌, Option, Some, None, refl, sym, ap, ◌∙◌}
use Rattle.std.proofs.Common.{Bool, true, false, if◌then◌else◌, map}
use Rattle.std.specs.Option.{option_map}
use Rattle.ether_wire.specs.Ends.{End, with_text}
use Rattle.ether_wire.proofs.Appending.{with_text_twice, with_text_none}
use Rattle.route_wire.specs.Fields.{Fields}
use Rattle.std.specs.FinMap.{entries}
use Rattle.route_wire.specs.declared.update.Register.{Register}
use Rattle.route_wire.specs.declared.update.Value.{Value}
use Rattle.route_join.specs.Updates.{update_from, about, updates_of}
use Rattle.route_join.specs.Owner.{advert_in, better_of, is_about, best_among}
use Rattle.ev_view.specs.Owners.{Offer, best_but, with_others, ranked, offer_line, offer_lines, leader, OwnerLeads}

-- a search among these updates finds the best of them
pub found_among : (ts told : List ℕ) (vs us : List Fields) (found : Option Offer) → ts ≡ told → vs ≡ us
    → found ≡ best_but ts vs None → best_but told us None ≡ found
found_among ts told vs us found same all is = sym (is ∙ (λ i. best_but (same i) (all i) None))

ranked_some : (us : List Fields) (told : List ℕ) (n m : ℕ) (best : Offer) → n ≡ suc m
    → best_but told us None ≡ Some best
    → ranked n told us ≡ best ∷ ranked m (told ++ best.0.originator ∷ []) us
unfolding ranked
ranked_some us told n m best is found = ap (λ k. ranked k told us) is
    ∙ ap (with_others (λ (b : Offer). ranked m (told ++ b.0.originator ∷ []) us)) found

ranked_none : (us : List Fields) (told : List ℕ) (n : ℕ) → best_but told us None ≡ None → ranked n told us ≡ []
unfolding ranked
ranked_none us told zero none = refl
ranked_none us told (suc n) none =
    ap (with_others (λ (b : Offer). ranked n (told ++ b.0.originator ∷ []) us)) none

ranked_zero : (us : List Fields) (told : List ℕ) → ranked 0 told us ≡ []
unfolding ranked
ranked_zero us told = refl

-- the line of the best one was written after e
pub offer_told : (us : List Fields) (told : List ℕ) (n m number : ℕ) (best : Offer) (e f : End) → n ≡ suc m
    → best_but told us None ≡ Some best → f ≡ with_text e (offer_line number best)
    → with_text e (offer_lines number (ranked n told us))
    ≡ with_text f (offer_lines number (ranked m (told ++ best.0.originator ∷ []) us))
offer_told us told n m number best e f is found put =
    let rest = offer_lines number (ranked m (told ++ best.0.originator ∷ []) us) in
    ap (λ (os : List Offer). with_text e (offer_lines number os)) (ranked_some us told n m best is found)
    ∙ sym (with_text_twice e (offer_line number best) rest) ∙ ap (λ (x : End). with_text x rest) (sym put)

-- no other originator remains
pub none_told : (us : List Fields) (told : List ℕ) (n number : ℕ) (e : End) → best_but told us None ≡ None
    → with_text e (offer_lines number (ranked n told us)) ≡ e
none_told us told n number e none =
    ap (λ (os : List Offer). with_text e (offer_lines number os)) (ranked_none us told n none) ∙ with_text_none e

pub all_told : (us : List Fields) (told : List ℕ) (n number : ℕ) (e : End) → n ≡ 0
    → with_text e (offer_lines number (ranked n told us)) ≡ e
all_told us told n number e is =
    ap (λ k. with_text e (offer_lines number (ranked k told us))) is
    ∙ ap (λ (os : List Offer). with_text e (offer_lines number os)) (ranked_zero us told) ∙ with_text_none e

-- ---- the first one is the owner's

-- a search among the updates of an address finds what one among all registers finds
best_of_all : (vni mac : ℕ) (es : List (Register × Value)) (best : Option Offer)
    → best_but [] (map update_from (about vni mac es)) best ≡ best_among vni mac es best
best_of_all vni mac [] best = refl
best_of_all vni mac (e ∷ es) best = step (λ next. best_of_all vni mac es next) (is_about vni mac e.0.key)
  where
    step : ((next : Option Offer) → best_but [] (map update_from (about vni mac es)) next ≡ best_among vni mac es next)
        → (b : Bool)
        → best_but [] (map update_from (if b then e ∷ about vni mac es else about vni mac es)) best
        ≡ best_among vni mac es (better_of e.0 (if b then advert_in e.1.content else None) best)
    step rest true = rest (better_of e.0 (advert_in e.1.content) best)
    step rest false = rest best

leads : (us : List Fields) (n : ℕ) (told : List ℕ)
    → leader (ranked (suc n) told us) ≡ option_map (λ (best : Offer). best.0.originator) (best_but told us None)
unfolding ranked
leads us n told = go (best_but told us None)
  where
    go : (best : Option Offer)
        → leader (with_others (λ (b : Offer). ranked n (told ++ b.0.originator ∷ []) us) best)
        ≡ option_map (λ (b : Offer). b.0.originator) best
    go None = refl
    go (Some best) = refl

pub owner_leads : OwnerLeads
owner_leads t vni mac = leads (updates_of t vni mac) 63 []
    ∙ ap (option_map (λ (best : Offer). best.0.originator)) (best_of_all vni mac (entries t.registers) None)
