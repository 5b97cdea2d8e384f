-- A winner tree: the best update of the first place is the best of all places.
use Rattle.std.proofs.Common.{◌≡◌, ◌≢◌, ◌⊎◌, inl, inr, ℕ, zero, suc, ◌+◌, ◌-◌, ◌*◌, ◌/◌, ◌<◌, ◌≤◌, true, false, Option}
use Rattle.std.proofs.Common.{Some, None, List, [], ◌∷◌, ◌++◌, length, set, get_or, refl, sym, ap, ◌∙◌, arith}
use Rattle.std.specs.List.{slice_get}
use Rattle.std.proofs.lemmas.Bool.{cases_order, cases_eq}
use Rattle.std.proofs.Math.Logic.{⊎_elim, ⊎_map}
use Rattle.std.proofs.Math.Seq.{map-set_same}
use Rattle.std.proofs.lemmas.List.{map-set}
use Rattle.std.proofs.lemmas.Option.{slice_get_past, slice_get_read}
use Rattle.route_wire.specs.declared.update.Advert.{Advert}
use Rattle.route_wire.specs.Fields.{Fields}
use Rattle.route_join.specs.declared.winner_tree.WinnerNode.{WinnerNode}
use Rattle.route_join.specs.Owner.{advert_in}
use Rattle.route_join.specs.Inner.Group.{candidate_in, wins}
use Rattle.route_join.specs.Inner.WinnerTree.{owns, said_at, better_of, best_in, best_below, best_at, IsSettledAt}
use Rattle.route_join.specs.Inner.WinnerTree.{AreSettled, IsSettledBut, IsBestOf}
use Rattle.route_join.proofs.Owners.{Candidate, better_ranks}

-- ---- lists
pub set_here : {X : Type 0} (xs : List X) (i : ℕ) (x : X) → i < length xs → slice_get (set xs i x) i ≡ Some x
set_here [] i x h = absurd (omega arith)
set_here (y ∷ ys) zero x h = refl
set_here (y ∷ ys) (suc i) x h = set_here ys i x (omega arith)

pub set_there : {X : Type 0} (xs : List X) (i j : ℕ) (x : X) → j ≢ i → slice_get (set xs i x) j ≡ slice_get xs j
set_there [] i j x ne = refl
set_there (y ∷ ys) zero zero x ne = absurd (ne refl)
set_there (y ∷ ys) (suc i) (suc j) x ne = set_there ys i j x (omega arith)
set_there (y ∷ ys) _ _ x ne = refl

pub last : {X : Type 0} (xs : List X) (x : X) → slice_get (xs ++ x ∷ []) (length xs) ≡ Some x
last [] x = refl
last (y ∷ ys) x = last ys x

pub either : {X : Type 0} (xs : List X) (x : X) (i : ℕ) (y : X) → slice_get (xs ++ x ∷ []) i ≡ Some y
    → (slice_get xs i ≡ Some y) ⊎ ((length xs ≡ i) × (x ≡ y))
either [] x zero y h = inr (refl, cc)
either [] x (suc i) y h = cc
either (z ∷ zs) x zero y h = inl h
either (z ∷ zs) x (suc i) y h = ⊎_map (λ a. a) (λ b. (ap suc b.0, b.1)) (either zs x i y h)

pub half : (n : ℕ) → n ≢ 0 → (n ≡ 2 * ((n - 1) / 2) + 1) ⊎ (n ≡ 2 * ((n - 1) / 2) + 2)
half n h = grind arith

-- ---- candidates that don't win
not_beaten : (c d e : Candidate) → wins d c ≡ false → wins e d ≡ false → wins e c ≡ false
not_beaten c d e a b = grind (arith, better_ranks.chain)

not_back : (c d : Candidate) → wins c d ≡ true → wins d c ≡ false
not_back c d e = grind (arith, better_ranks.one_way)

not_itself : (c : Candidate) → wins c c ≡ false
not_itself c = grind (arith, not_back)

-- ---- updates that advertise
silent : (u : Fields) → wins (candidate_in (Some u)) None ≡ false → advert_in u.value.content ≡ None
silent u e = grind arith

says : (o : Option Fields) → candidate_in o ≢ None
    → (u : Fields) × (o ≡ Some u) × ((a : Advert) × (advert_in u.value.content ≡ Some a))
says o h = grind arith

-- ---- the better of two
first_loses : (us : List Fields) (w o : Option ℕ)
    → wins (candidate_in (said_at us w)) (candidate_in (said_at us (better_of us w o))) ≡ false
first_loses us w o = grind (arith, not_back, not_itself)

module _ (bs : List WinnerNode) where
  abbrev said : Option ℕ → Candidate
  said w = candidate_in (said_at (owns bs) w)

  abbrev better : Option ℕ → Option ℕ → Option ℕ
  better w o = better_of (owns bs) w o

  still_loses : (w o : Option ℕ) (c : Candidate) → wins c (said w) ≡ false → wins c (said (better w o)) ≡ false
  still_loses w o c = not_beaten (said (better w o)) (said w) c (first_loses (owns bs) w o)

  other_loses : (w o : Option ℕ) → wins (said o) (said (better w o)) ≡ false
  other_loses w o = grind (arith, not_itself)

  chosen : (w o : Option ℕ) (x : ℕ) → better w o ≡ Some x → (o ≡ Some x) ⊎ (w ≡ Some x)
  chosen w o x e = grind arith

  -- it advertises
  says_still : (w o : Option ℕ) → (said w ≡ None → w ≡ None) → said (better w o) ≡ None → better w o ≡ None
  says_still w o h none = grind arith

  -- ---- the best of a place
  module _ (p : ℕ) where
    abbrev left : Option ℕ
    left = best_below bs (2 * p + 1)

    abbrev right : Option ℕ
    right = best_below bs (2 * p + 2)

    abbrev one : Option ℕ
    one = better None (Some p)

    abbrev two : Option ℕ
    two = better one left

    best_says : said (best_at bs p) ≡ None → best_at bs p ≡ None
    best_says = says_still two right (says_still one left (says_still None (Some p) (λ none. refl)))

    -- it is that of the place or of one below it
    comes_from : (x : ℕ) → best_at bs p ≡ Some x → (p ≡ x) ⊎ ((left ≡ Some x) ⊎ (right ≡ Some x))
    comes_from x e = grind (arith, chosen two right x e, chosen one left x, chosen None (Some p) x)

  module _ (s : AreSettled bs) where
    abbrev best : ℕ → Candidate
    best p = said (best_below bs p)

    own_loses : (p : ℕ) → wins (said (Some p)) (best p) ≡ false
    own_loses p = rw (s p) (still_loses (two p) (right p) (said (Some p))
        (still_loses (one p) (left p) (said (Some p)) (other_loses None (Some p))))

    left_loses : (p : ℕ) → wins (best (2 * p + 1)) (best p) ≡ false
    left_loses p = rw (s p) (still_loses (two p) (right p) (said (left p)) (other_loses (one p) (left p)))

    right_loses : (p : ℕ) → wins (best (2 * p + 2)) (best p) ≡ false
    right_loses p = rw (s p) (other_loses (two p) (right p))

    all_lose : (n p : ℕ) → p < n → wins (best p) (best 0) ≡ false
    all_lose zero p l = absurd (omega arith)
    all_lose (suc n) zero l = not_itself (best 0)
    all_lose (suc n) (suc m) l =
        let q = (suc m - 1) / 2 in
        not_beaten (best 0) (best q) (best (suc m)) (all_lose n q (omega arith))
        (⊎_elim (λ e. rw (← e) at (left_loses q)) (λ e. rw (← e) at (right_loses q)) (half (suc m) (omega arith)))

    pub best_of : IsBestOf (owns bs) (said_at (owns bs) (best_below bs 0))
    best_of = go (best_below bs 0)
        (λ p. not_beaten (best 0) (best p) (said (Some p)) (all_lose (suc p) p (omega arith)) (own_loses p))
        (rw (s 0) (best_says 0))
      where
        go : (w : Option ℕ) → ((p : ℕ) → wins (said (Some p)) (said w) ≡ false) → (said w ≡ None → w ≡ None)
            → IsBestOf (owns bs) (said_at (owns bs) w)
        go None lost real = λ p u is. silent u (rw is at (lost p))
        go (Some x) lost real =
            let h = says (slice_get (owns bs) x) (λ none. cc (real none)) in rw h.1 record {
              place = x;
              stands = h.1;
              advert = h.2.0;
              advertises = h.2.1;
              best = λ p u is. rw (is, h.1) at (lost p);
            }

-- ---- another update at a place
module _ (bs cs : List WinnerNode) (x : ℕ) (s : AreSettled bs)
    (bests : (p : ℕ) → best_below cs p ≡ best_below bs p)
    (others : (p : ℕ) → p ≢ x → slice_get (owns cs) p ≡ slice_get (owns bs) p) where
  same_said : (w : Option ℕ) → w ≢ Some x → said_at (owns cs) w ≡ said_at (owns bs) w
  same_said w ne = grind arith

  same_better : (w o : Option ℕ) → w ≢ Some x → o ≢ Some x
      → (better_of (owns cs) w o ≡ better_of (owns bs) w o) × (better_of (owns bs) w o ≢ Some x)
  same_better w o a b = (rw (same_said o b, same_said w a), λ e. ⊎_elim b a (chosen bs w o x e))

  -- a contest without the update has the same winner
  stays : (p : ℕ) → p ≢ x → left bs p ≢ Some x → right bs p ≢ Some x → IsSettledAt cs p
  stays p ne l r =
      let first = same_better None (Some p) (λ e. cc) (λ e. ne (cc)) in
      let second = same_better (one bs p) (left bs p) first.1 l in
      bests p ∙ s p ∙ sym (rw (bests (2 * p + 1), bests (2 * p + 2), first.0, second.0)
      (same_better (two bs p) (right bs p) second.1 r).0)

  -- the best of a place is at that place or at a later one
  upward : (n p : ℕ) → length bs ≤ p + n → best_below bs p ≡ Some x → p ≤ x
  upward zero p l e = grind (arith, slice_get_past)
  upward (suc n) p l e = grind (arith, comes_from bs p x (sym (s p) ∙ e), upward n)

  not_behind : (p : ℕ) → x < p → best_below bs p ≢ Some x
  not_behind p l e = omega (arith, upward (length bs) p (omega arith) e)

  changed : IsSettledBut cs x x
  changed = record {
    behind = λ p l. stays p (omega arith) (not_behind (2 * p + 1) (omega arith))
        (not_behind (2 * p + 2) (omega arith));
    before = λ p l a b. stays p (omega arith) (λ e. a (bests (2 * p + 1) ∙ e)) (λ e. b (bests (2 * p + 2) ∙ e));
    told = λ p l e. ⊎_elim (λ same. absurd (omega arith))
        (⊎_map (λ h. bests (2 * p + 1) ∙ h) (λ h. bests (2 * p + 2) ∙ h))
        (comes_from bs p x (sym (s p) ∙ sym (bests p) ∙ e));
    beside = λ p l m e. not_behind p l (sym (bests p) ∙ e);
  }

-- an update is replaced, and none of the bests
pub replaced : (bs : List WinnerNode) (at : ℕ) (b : WinnerNode) (u : Fields) → at < length bs → b ≡ get_or bs at b
    → AreSettled bs → IsSettledBut (set bs at (record { own = u; best = b.best })) at at
replaced bs at b u within is s =
    let c : WinnerNode = record { own = u; best = b.best } in
    changed bs (set bs at c) at s
    (λ p. ⊎_elim (λ same. rw same (rw (set_here bs at c within, slice_get_read bs (length bs) at b refl within is)))
    (λ ne. ap best_in (set_there bs at p c ne)) (cases_eq p at))
    (λ p ne. rw (map-set (λ (x : WinnerNode). x.own) bs at c) (set_there (owns bs) at p u ne))

-- one node more
module _ (u : Fields) where
  abbrev node : WinnerNode
  node = record { own = u; best = None }

  best_pushed : (bs : List WinnerNode) (p : ℕ) → best_below (bs ++ node ∷ []) p ≡ best_below bs p
  best_pushed [] zero = refl
  best_pushed (b ∷ bs) (suc p) = best_pushed bs p
  best_pushed _ _ = refl

  own_pushed : (bs : List WinnerNode) (p : ℕ) → p ≢ length bs
      → slice_get (owns (bs ++ node ∷ [])) p ≡ slice_get (owns bs) p
  own_pushed [] zero ne = absurd (ne refl)
  own_pushed (b ∷ bs) (suc p) ne = own_pushed bs p (omega arith)
  own_pushed _ _ ne = refl

  pub pushed : (bs : List WinnerNode) → AreSettled bs → IsSettledBut (bs ++ node ∷ []) (length bs) (length bs)
  pushed bs s = changed bs (bs ++ node ∷ []) (length bs) s (best_pushed bs) (own_pushed bs)

-- ---- the best of a place is computed again
pub record IsRenewed (bs cs : List WinnerNode) (at : ℕ) (best : Option ℕ) : Type 0 where
  pub own : owns cs ≡ owns bs
  others : (p : ℕ) → p ≢ at → best_below cs p ≡ best_below bs p
  new : best_below cs at ≡ best
  found : best ≡ best_at bs at

pub renewed : (bs : List WinnerNode) (at : ℕ) (b : WinnerNode) (best : Option ℕ) → at < length bs → b ≡ get_or bs at b
    → best ≡ best_at bs at → IsRenewed bs (set bs at (record { own = b.own; best = best })) at best
renewed bs at b best within is found =
    let c : WinnerNode = record { own = b.own; best = best } in record {
      own = map-set_same (λ (x : WinnerNode). x.own) bs at c b (ap (λ (x : WinnerNode). x.own) is);
      others = λ p ne. ap best_in (set_there bs at p c ne);
      new = ap best_in (set_here bs at c within);
      found = found;
    }

module _ {bs cs : List WinnerNode} {x at : ℕ} {best : Option ℕ} (k : IsSettledBut bs x at)
    (r : IsRenewed bs cs at best) where
  kept : (p : ℕ) → (2 * p + 1 ≢ at) × (2 * p + 2 ≢ at)
      → (left cs p ≡ left bs p) × (right cs p ≡ right bs p)
  kept p ne = (r.others (2 * p + 1) ne.0, r.others (2 * p + 2) ne.1)

  settled_at : (p : ℕ) → (left cs p ≡ left bs p)
      × (right cs p ≡ right bs p)
      → (p < at → (left bs p ≢ Some x) × (right bs p ≢ Some x)) → IsSettledAt cs p
  settled_at p h free = before ∙ sym (rw (r.own, h.0, h.1))
    where
      before : best_below cs p ≡ best_at bs p
      before = ⊎_elim (λ same. rw same (r.new ∙ r.found))
          (⊎_elim (λ l. r.others p (omega arith) ∙ k.before p l (free l).0 (free l).1)
          (λ l. r.others p (omega arith) ∙ k.behind p l)) (cases_order p at)

  pub first_settled : at ≡ 0 → AreSettled cs
  first_settled e p = settled_at p (kept p (omega arith)) (λ l. absurd (omega arith))

  pub above_next : (q : ℕ) → (at ≡ 2 * q + 1) ⊎ (at ≡ 2 * q + 2) → IsSettledBut cs x q
  above_next q side = record {
    behind = λ p l. settled_at p (kept p (omega arith)) (λ m. grind (arith, k.beside));
    before = λ p l a b. let h = kept p (omega arith) in settled_at p h (λ m. (rw h.0 at a, rw h.1 at b));
    told = λ p l e. let h = kept p (omega arith) in ⊎_map (λ t. h.0 ∙ t) (λ t. h.1 ∙ t)
        (k.told p (omega arith) (sym (r.others p (omega arith)) ∙ e));
    beside = λ p l m e. ⊎_elim (k.beside (2 * p + 1) (omega arith) (omega arith))
        (k.beside (2 * p + 2) (omega arith) (omega arith))
        (k.told p (omega arith) (sym (r.others p (omega arith)) ∙ e));
  }

  -- the best that is computed is the stored one, and not the update that changed
  module _ (same : best ≡ best_below bs at) (ne : best ≢ Some x) where
    told_nowhere : (n p : ℕ) → p ≤ 2 * at → 2 * at < p + n → best_below bs p ≢ Some x
    told_nowhere zero p l m e = omega arith
    told_nowhere (suc n) p l m e = ⊎_elim (λ here. ne (same ∙ rw here at e))
        (⊎_elim (λ before. ⊎_elim (told_nowhere n (2 * p + 1) (omega arith) (omega arith))
        (told_nowhere n (2 * p + 2) (omega arith) (omega arith)) (k.told p before e))
        (λ after. k.beside p after l e)) (cases_order p at)

    all_same : (p : ℕ) → best_below cs p ≡ best_below bs p
    all_same p = ⊎_elim (λ here. rw here (r.new ∙ same)) (r.others p) (cases_eq p at)

    pub all_settled : AreSettled cs
    all_settled p = settled_at p (all_same (2 * p + 1), all_same (2 * p + 2))
        (λ l. (
          told_nowhere (suc (2 * at)) (2 * p + 1) (omega arith) (omega arith),
          told_nowhere (suc (2 * at)) (2 * p + 2) (omega arith) (omega arith),
        ))
