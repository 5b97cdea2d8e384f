-- Registers in a tree, each with the place of its update: look-ups and edits.
use Rattle.std.proofs.Common.{◌≡◌, ◌≢◌, ℕ, suc, ◌+◌, ◌<◌, Bool, true, false, cond, Option, Some, None, List, [], ◌∷◌}
use Rattle.std.proofs.Common.{◌++◌, map, length, get_or, set, take, drop, refl, sym, ap, ◌∙◌, arith}
use Rattle.std.specs.Prelude.{IfSome}
use Rattle.std.specs.declared.cmp.Ordering.TheVariants.{Less}
use Rattle.std.specs.Ordering.{is_eq, eq_by_cmp}
use Rattle.std.specs.List.{slice_get, All, AllByRecursion}
use Rattle.std.specs.List.Sorted.{IsStrictlySortedBy}
use Rattle.std.specs.Option.{option_map}
use Rattle.std.specs.Map.{keys_of}
use Rattle.std.specs.BTreeMap.{is_at}
use Rattle.std.specs.FinMap.Entries.{find, put, find-put, same_entries, below_all, is_sorted, is_sorted-put}
use Rattle.std.proofs.lemmas.Bool.{cases_eq, and_parts as both}
use Rattle.std.proofs.Math.Logic.{⊎_elim}
use Rattle.std.proofs.lemmas.List.{length-map}
use Rattle.std.proofs.lemmas.Option.{slice_get_within}
use Rattle.route_wire.specs.declared.update.Register.{Register}
use Rattle.route_wire.specs.declared.update.Advert.{Advert}
use Rattle.route_wire.specs.declared.update.Value.{Value}
use Rattle.route_wire.specs.Fields.{Fields}
use Rattle.route_wire.specs.Order.{register_cmp, is_newer}
use Rattle.route_wire.specs.Inner.Totals.{register_total, register_exact}
use Rattle.route_join.specs.declared.winner_tree.WinnerNode.{WinnerNode}
use Rattle.route_join.specs.Table.{entries_of, IsOrdered}
use Rattle.route_join.specs.Updates.{update_from}
use Rattle.route_join.specs.Owner.{advert_in, advert_of}
use Rattle.route_join.specs.Inner.Group.{told, update_among, IsLeader, IsSilent}
use Rattle.route_join.specs.Inner.WinnerTree.{owns, AreSettled, said_at, Wins, IsBestOf}
use Rattle.route_join.specs.Inner.LargeGroup.{place_at, value_in, update_at, updates_along, large_updates, register_at}
use Rattle.route_join.specs.Inner.LargeGroup.{ArePlaced, IsLargeGroup}
use Rattle.route_join.proofs.Orders.{to_T}
use Rattle.route_join.proofs.Tables.{itself_register, other_register, same_or_other}
use Rattle.route_join.proofs.Owners.{not_better_is, below_last}
use Rattle.route_join.proofs.Leaders.{first_more, split}
use Rattle.route_join.proofs.WinnerTrees.{last, either, set_here, set_there}
use Rattle.route_join.proofs.Merging.{updates_back, get_before}

abbrev Places : Type 0
Places = List (Register × ℕ)

-- equal entries are of equal updates
pub same_updates : (us vs : List Fields) → entries_of us ≡ entries_of vs → us ≡ vs
same_updates us vs e = sym (updates_back us) ∙ ap (map update_from) e ∙ updates_back vs

-- ---- an update after all others
put_last : (es fs : List (Register × Value)) (r : Register) (v : Value)
    → is_sorted register_cmp (es ++ (r, v) ∷ fs) ≡ true → put register_cmp r v es ≡ es ++ (r, v) ∷ []
put_last [] fs r v s = refl
put_last (e ∷ es) fs r v s =
    let parts = both (below_all register_cmp e.0 (es ++ (r, v) ∷ fs)) (is_sorted register_cmp (es ++ (r, v) ∷ fs)) s in
    rw (register_total.antisymm r e.0, below_last e.0 es fs (r, v) parts.0, put_last es fs r v parts.1)

-- the first updates, and one more
pub filled_more : (us : List Fields) (at : ℕ) (s : IsOrdered us) (h : at < length us) (d : Fields)
    → put register_cmp (get_or us at d).register (get_or us at d).value (entries_of (take at us))
    ≡ entries_of (take (at + 1) us)
filled_more us at s h d = rw (first_more us at s h d) (put_last (entries_of (take at us))
    (entries_of (drop (suc at) us)) (get_or us at d).register (get_or us at d).value (rw (split us at s h d) s))

-- ---- look-ups
-- the value of the update at a place
abbrev value_at : List Fields → Option ℕ → Option Value
value_at us o = option_map (λ p. value_in (slice_get us p)) o

-- an update is at the place of its register
at_place : (us : List Fields) (q : Register) (p : ℕ) → register_at us p ≡ Some q
    → slice_get us p ≡ Some (update_at us (q, p))
at_place us q p h = grind arith

module _ (us : List Fields) where
  found_along : (es : Places) (q : Register) → find register_cmp q (entries_of (updates_along us es))
      ≡ value_at us (place_at es q)
  found_along [] q = refl
  found_along (e ∷ es) q =
      elim (is_eq (register_cmp q e.0)) as (λ b. cond b (Some (value_in (slice_get us e.1)))
      (find register_cmp q (entries_of (updates_along us es)))
      ≡ value_at us (cond b (Some e.1) (place_at es q))) [
        | true ↦ refl
        | false ↦ found_along es q
      ]

  -- the order of the registers is that of their updates
  below_along : (es : Places) (r : Register) → AllByRecursion (λ q. register_cmp r q ≡ Less) (keys_of es)
      → below_all register_cmp r (entries_of (updates_along us es)) ≡ true
  below_along [] r a = refl
  below_along (e ∷ es) r a = rw a.0 (below_along es r a.1)

  pub ordered_along : (es : Places) → IsStrictlySortedBy register_cmp (keys_of es) → IsOrdered (updates_along us es)
  unfolding IsStrictlySortedBy
  ordered_along [] a = refl
  ordered_along (e ∷ es) a = rw (below_along es e.0 a.0) (ordered_along es a.1)

  module _ (es : Places) (placed : (r : Register) (p : ℕ) → place_at es r ≡ Some p → register_at us p ≡ Some r) where
    pub among : (q : Register) (o : Option ℕ) → place_at es q ≡ o
        → said_at us o ≡ update_among (updates_along us es) q
    among q None e = rw (found_along es q, e)
    among q (Some p) e = rw (found_along es q, e) (at_place us q p (placed q p e))

    -- the entries that a walk visits
    pub all_placed : (fs : Places) → All (λ (e : Register × ℕ). place_at es e.0 ≡ Some e.1) fs → ArePlaced us fs
    all_placed [] a = tt
    all_placed (f ∷ fs) a = (placed f.0 f.1 (a 0 f (omega arith)), all_placed fs (λ k d l. a (suc k) d (omega arith)))

-- the value of a register in a group with the view `now`, by the register's place
module _ {es : Places} {bs : List WinnerNode} {now : List Fields} (m : IsLargeGroup es bs)
    (view : large_updates es bs ≡ now) {q r : Register} (same : r ≡ q) where
  pub found_now : {o : Option ℕ} → o ≡ place_at es r
      → find register_cmp q (entries_of now) ≡ option_map (λ p. value_in (slice_get (owns bs) p)) o
  found_now e = rw (← view, found_along (owns bs) es q, ← same, ← e)

  module _ {p : ℕ} (e : Some p ≡ place_at es r) where
    pub has_place : place_at es q ≡ Some p
    has_place = rw (← same) (sym e)

    stands : slice_get (owns bs) p ≡ Some (update_at (owns bs) (q, p))
    stands = at_place (owns bs) q p (m.placed q p has_place)

    pub compared : (b : Bool) (v : Value) {cs : List WinnerNode} → cs ≡ bs
        → IfSome (slice_get (owns cs) p) (λ was. b ≡ is_newer v was.value)
        → b ≡ is_newer v (value_in (slice_get (owns bs) p))
    compared b v is h = rw stands at (rw is at h)

    pub within : p < length bs
    within = rw length-map at (slice_get_within (owns bs) p (update_at (owns bs) (q, p)) stands)

-- ---- edits
module _ (es : Places) (bs cs : List WinnerNode) (u : Fields) (m : IsLargeGroup es bs) (s : AreSettled cs) where
  abbrev us : List Fields
  us = owns bs

  abbrev vs : List Fields
  vs = owns cs

  -- the register has its update now, and the others have theirs
  put_along : (fs : Places) (p : ℕ) → IsStrictlySortedBy register_cmp (keys_of fs) → place_at fs u.register ≡ Some p
      → slice_get vs p ≡ Some u → ((q : Register) → q ≢ u.register → place_at fs q ≡ place_at es q)
      → ((q : Register) (n : ℕ) → q ≢ u.register → place_at es q ≡ Some n → slice_get vs n ≡ slice_get us n)
      → entries_of (updates_along vs fs) ≡ put register_cmp u.register u.value (entries_of (updates_along us es))
  put_along fs p ordered there own kept same =
      let all = entries_of (updates_along us es) in
      same_entries register_cmp register_total register_exact (entries_of (updates_along vs fs))
      (put register_cmp u.register u.value all) (to_T _ (ordered_along vs fs ordered))
      (is_sorted-put register_cmp register_total u.register u.value all (to_T _ (ordered_along us es m.ordered)))
      (λ q. found_along vs fs q ∙ finds q ∙ sym (find-put register_cmp register_total q u.register u.value all))
    where
      others : (q : Register) → q ≢ u.register → (o : Option ℕ) → place_at es q ≡ o → value_at vs o ≡ value_at us o
      others q ne None e = refl
      others q ne (Some n) e = rw (same q n ne e)

      finds : (q : Register) → value_at vs (place_at fs q) ≡ cond (eq_by_cmp register_cmp q u.register) (Some u.value)
          (find register_cmp q (entries_of (updates_along us es)))
      finds q = ⊎_elim (λ same. rw same (rw (there, own, itself_register)))
          (λ ne. rw (kept q ne, others q ne (place_at es q) refl, other_register q u.register ne)
          (sym (found_along us es q)))
          (same_or_other q u.register)

  -- another update of a register
  module _ {p : ℕ} (there : place_at es u.register ≡ Some p) (own : vs ≡ set us p u) where
    own_here : slice_get vs p ≡ Some u
    own_here = rw own (set_here us p u (slice_get_within us p (update_at us (u.register, p))
        (at_place us u.register p (m.placed u.register p there))))

    own_other : (n : ℕ) → n ≢ p → slice_get vs n ≡ slice_get us n
    own_other n ne = rw own (set_there us p n u ne)

    same_registers : (n : ℕ) → register_at vs n ≡ register_at us n
    same_registers n = ⊎_elim (λ same. rw same (rw own_here (sym (m.placed u.register p there))))
        (λ ne. rw (own_other n ne)) (cases_eq n p)

    pub replaced_group : IsLargeGroup es cs
    replaced_group = record {
      ordered = m.ordered;
      placed = λ r n e. same_registers n ∙ m.placed r n e;
      known = λ r n e. m.known r n (sym (same_registers n) ∙ e);
      settled = s;
    }

    pub replaced_put : entries_of (large_updates es cs)
        ≡ put register_cmp u.register u.value (entries_of (large_updates es bs))
    replaced_put = put_along es p m.ordered there own_here (λ q ne. refl)
        (λ q n ne e. own_other n (λ same. ne (cc (m.placed q n e, m.placed u.register p there))))

  -- a register more
  module _ (fs : Places) (ordered : IsStrictlySortedBy register_cmp (keys_of fs))
      (updated : (q : Register) → place_at fs q
      ≡ cond (is_at (register_cmp u.register) q) (Some (length us)) (place_at es q))
      (absent : place_at es u.register ≡ None) (own : vs ≡ us ++ u ∷ []) where
    place_here : place_at fs u.register ≡ Some (length us)
    place_here = rw (updated, itself_register)

    place_other : (q : Register) → q ≢ u.register → place_at fs q ≡ place_at es q
    place_other q ne = rw (updated q, other_register u.register q (λ e. ne (sym e)))

    own_last : slice_get vs (length us) ≡ Some u
    own_last = rw own (last us u)

    own_before : (n : ℕ) (v : Fields) → slice_get us n ≡ Some v → slice_get vs n ≡ Some v
    own_before n v e = rw own (get_before us (u ∷ []) n v e)

    pub entered_group : IsLargeGroup fs cs
    entered_group = record {
      ordered = ordered;
      placed = λ r n e. ⊎_elim (λ (same : r ≡ u.register).
          let end : n ≡ length us = cc (place_here) in rw (end, own_last, same))
          (λ ne. rw (own_before n (update_at us (r, n)) (at_place us r n (m.placed r n (sym (place_other r ne) ∙ e)))))
          (same_or_other r u.register);
      known = λ r n e.
          let v : Fields = update_at vs (r, n) in
          ⊎_elim (λ (old : slice_get us n ≡ Some v).
          let there = m.known r n (rw old) in
          place_other r (λ same. cc) ∙ there)
          (λ new. cc (place_here))
          (either us u n v (rw (← own) (at_place vs r n e)));
      settled = s;
    }

    pub entered_put : entries_of (large_updates fs cs)
        ≡ put register_cmp u.register u.value (entries_of (large_updates es bs))
    entered_put = put_along fs (length us) ordered place_here own_last place_other (λ q n ne e.
        let there = at_place us q n (m.placed q n e) in
        own_before n (update_at us (q, n)) there ∙ sym there)

-- ---- the originator of the best advert at the places is the owner
module _ (es : Places) (bs : List WinnerNode) (m : IsLargeGroup es bs) where
  told_as : (q : Register) (o : Option ℕ) → place_at es q ≡ o → told (large_updates es bs) q
      ≡ advert_of (value_at (owns bs) o)
  told_as q o e = rw (found_along (owns bs) es q, e)

  -- the advert of a register is that of its update at its place
  told_at : (q : Register) (b : Advert) (o : Option ℕ) → place_at es q ≡ o → told (large_updates es bs) q ≡ Some b
      → (p : ℕ) × (slice_get (owns bs) p ≡ Some (update_at (owns bs) (q, p)))
      × (advert_in (value_in (slice_get (owns bs) p)).content ≡ Some b)
  told_at q b None e h = cc (told_as q None e)
  told_at q b (Some p) e h = (p, at_place (owns bs) q p (m.placed q p e), sym (told_as q (Some p) e) ∙ h)

  pub silent : IsBestOf (owns bs) None → IsSilent (large_updates es bs)
  silent h q = go (told (large_updates es bs) q) refl
    where
      go : (o : Option Advert) → told (large_updates es bs) q ≡ o → o ≡ None
      go None e = refl
      go (Some b) e = let t = told_at q b (place_at es q) refl e in cc (h t.0 (update_at (owns bs) (q, t.0)) t.1, t.2)

  pub leads : (w : Fields) → Wins (owns bs) w → IsLeader (large_updates es bs) w.register.originator
  leads w l = record {
    register = w.register;
    advert = l.advert;
    named = refl;
    own = rw (told_as w.register (Some l.place) (m.known w.register l.place (rw l.stands)), l.stands, l.advertises);
    best = λ q b ne is.
        let t = told_at q b (place_at es q) refl is in
        not_better_is b q l.advert w.register ne
        (rw (t.2, l.advertises) at (l.best t.0 (update_at (owns bs) (q, t.0)) t.1));
  }
