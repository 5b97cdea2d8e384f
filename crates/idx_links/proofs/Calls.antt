-- the proof obligations of the calls, in the numbers that they read
use Rattle.std.proofs.Common.{suc, ℕ, ◌+◌, ◌-◌, ◌<◌, ◌≤◌, ◌≡◌, ◌≢◌, true, inl, inr, Option, Some, None, List, [], ◌∷◌}
use Rattle.std.proofs.Common.{◌++◌, length, map, replicate, cond, eqb, get_or, set, slice_get, refl, ap, sym, ◌∙◌}
use Rattle.std.proofs.Common.{arith}
use Rattle.std.proofs.Common.{append-nil}
use Rattle.std.specs.Option.{IfSome, IfNone, option_map, is_none}
use Rattle.std.specs.List.{range_with_len}
use Rattle.std.proofs.lemmas.List.FromFn.{length-range_with_len, get_or-range_with_len}
use Rattle.std.proofs.lemmas.List.Folds.{sum_by-replicate}
use Rattle.std.proofs.lemmas.List.{length-replicate}
use Rattle.std.proofs.lemmas.Option.{slice_get-map}
use Rattle.std.proofs.lemmas.Bool.{eqb-true, eq-eqb, ne_eqb, cases_lt, or_right}
use Rattle.idx_links.specs.Links.{Links, has, without, Apart, list_at, IsFree, IsLinked}
use Rattle.idx_links.specs.Inner.Ring.{follow, ring_of, nodes_of, links_of, is_at, IsGood}
use Rattle.idx_links.proofs.Paths.{after-at, has-at, first_on, first-path, after-path, after-map, all_same}
use Rattle.idx_links.proofs.Rings.{range_is, has-list, length-list, pushed_good, pushed_lists, unlinked_good}
use Rattle.idx_links.proofs.Rings.{unlinked_lists, free_place, linked_place, len_below, listed, owned_len, is_at-self}
use Rattle.idx_links.proofs.Rings.{length-lists, list_at-links, apart-list, more_links, length-more, grown_good}
use Rattle.idx_links.proofs.Rings.{grown_lists, loop_of, loop_distinct, above, node_only, on_ring, on_loop, next_on}

-- which list a node is on
pub record Tells (v : Links) (n : ℕ) (o : Option ℕ) : Type 0 where
  pub on : IfSome o (λ l. has (list_at v.lists l) n ≡ true)
  pub only : IfSome o (λ l. (k : ℕ) → has (list_at v.lists k) n ≡ true → k ≡ l)
  pub within : IfSome o (λ l. l < length v.lists)
  pub off : IfNone o (IsFree v.lists n)

-- growing keeps these, and gives this number of nodes
pub record IsGrown (nodes : ℕ) (v : Links) (next prev : List ℕ) (owner : List (Option ℕ)) (lens : List ℕ) : Type 0 where
  pub good : IsGood next prev owner lens
  pub lists : (links_of next lens).lists ≡ v.lists
  pub enough : nodes ≤ (links_of next lens).nodes
  pub kept : v.nodes ≤ (links_of next lens).nodes

tells : {next prev : List ℕ} {owner : List (Option ℕ)} {lens : List ℕ} (good : IsGood next prev owner lens) (n : ℕ)
    (o : Option ℕ) → o ≡ get_or owner (length lens + n) None → Tells (links_of next lens) n o
tells good n None is = record { on = tt; only = tt; within = tt; off = λ l. has-list good l n ∙ rw (← is) }
tells {next} {prev} {owner} {lens} good n (Some l) is = record {
  on = has-list good l n ∙ rw (← is) (is_at-self l);
  only = λ k e. sym (eqb-true l k (ap (λ o. is_at o k) is ∙ sym (has-list good k n) ∙ e));
  within = rw (length-lists next lens) (good.listed (length lens + n) l (sym is));
  off = tt;
}

-- the node at a place past the sentinels
abbrev pub node_of : ℕ → ℕ → ℕ → Option ℕ
node_of count b f = option_map (λ x. x - count) (cond (eqb f b) None (Some f))

-- a link leads to the sentinel, below the number of lists, or to a node
node_is : {next prev : List ℕ} {owner : List (Option ℕ)} {lens : List ℕ} (good : IsGood next prev owner lens) (l f : ℕ)
    → l < length lens → has (loop_of next lens l) f ≡ true → (f < length lens → None ≡ node_of (length lens) l f)
    × (length lens ≤ f → Some (f - length lens) ≡ node_of (length lens) l f)
node_is {next} {prev} {owner} {lens} good l f lb on = (
  λ low. elim (on_loop good l f lb on) [
    | inl e ↦ rw (eq-eqb f l (sym e))
    | inr e ↦ absurd (omega (arith, above good l lb f (on_ring good l f lb e)))
  ],
  λ high. (let ne : f ≢ l = λ e. omega arith in rw (ne_eqb f l ne)),
)

no_more : (links : List ℕ) (places : ℕ) → places ≤ length links → more_links links places ≡ links
no_more links places h = (let none : places - length links ≡ 0 = omega arith in rw none (append-nil links))

-- at the start of a call: good places, seen as v, with the number of lists
module _ {next prev : List ℕ} {owner : List (Option ℕ)} {lens : List ℕ} {v : Links} {count : ℕ}
    (good : IsGood next prev owner lens) (seen : links_of next lens ≡ v) (count_is : count ≡ length lens) where
  pub list_place : {l : ℕ} → l < length v.lists → (l < length lens) × (l < length next)
  list_place {l} h =
      let low : l < length lens = omega (arith, ap (λ w. length w.lists) seen, length-lists next lens) in
      (low, omega (arith, good.few))

  -- the place of a node
  pub node_place : {n : ℕ} → n < v.nodes → count + n < length next
  node_place h = rw count_is (omega (arith, ap (λ w. w.nodes) seen))

  pub push_owes : {l n t : ℕ} → l < length v.lists → n < v.nodes → IsFree v.lists n → t ≡ get_or prev l 0
      → (get_or lens l 0 ≤ length next) × IsGood (set (set next t (count + n)) (count + n) l)
      (set (set prev (count + n) t) l (count + n)) (set owner (count + n) (Some l)) (set lens l (get_or lens l 0 + 1))
      × ((links_of (set (set next t (count + n)) (count + n) l) (set lens l (get_or lens l 0 + 1))).lists
      ≡ set v.lists l (list_at v.lists l ++ n ∷ []))
  push_owes {l} {n} lb nb free t_is =
      let list = (list_place lb).0 in
      let low = rw count_is at (node_place nb) in
      let free' = free_place good n (rw (← seen) at free) in
      rw (t_is, count_is, ← seen) (
        len_below good l list,
        pushed_good good l n list low free',
        pushed_lists good l n list low free',
      )

  pub linked_is : (n : ℕ) {o : Option ℕ} → IsLinked v.lists n → o ≡ get_or owner (count + n) None
      → (l : ℕ) × (o ≡ Some l)
  linked_is n on is = (on.0, is ∙ rw count_is (linked_place good on.0 n (rw (← seen) at on.1)))

  pub unlink_owes : (n : ℕ) {l p q : ℕ} {o : Option ℕ} → o ≡ get_or owner (count + n) None → o ≡ Some l
      → p ≡ get_or prev (count + n) 0 → q ≡ get_or next (count + n) 0
      → (l < length lens) × (0 < get_or lens l 0) × IsGood (set (set next p q) (count + n) (count + n))
      (set (set prev q p) (count + n) (count + n)) (set owner (count + n) None) (set lens l (get_or lens l 0 - 1))
      × ((links_of (set (set next p q) (count + n) (count + n)) (set lens l (get_or lens l 0 - 1))).lists
      ≡ map (without n) v.lists)
  unlink_owes n {l} o_is is_l p_is q_is =
      let mine : get_or owner (length lens + n) None ≡ Some l = rw (← count_is) (sym o_is ∙ is_l) in
      rw (p_is, q_is, count_is, ← seen) (
        listed good l n mine,
        owned_len good l n mine,
        unlinked_good good l n mine,
        unlinked_lists good l n mine,
      )

  pub list_of_owes : (n : ℕ) {o : Option ℕ} → o ≡ get_or owner (count + n) None → Tells v n o
  list_of_owes n {o} is = rw (← seen) (tells good n o (is ∙ rw count_is))

  pub len_owes : {l k : ℕ} → l < length v.lists → k ≡ get_or lens l 0 → k ≡ length (list_at v.lists l)
  len_owes {l} lb is = rw (is, ← seen) (sym (length-list next lens l (list_place lb).0))

  pub front_owes : {l f : ℕ} → l < length v.lists → f ≡ get_or next l 0
      → (f < count → None ≡ slice_get (list_at v.lists l) 0)
      × (count ≤ f → Some (f - count) ≡ slice_get (list_at v.lists l) 0)
  front_owes {l} lb is =
      let low = (list_place lb).0 in
      let xs = ring_of next lens l in
      rw (
        is,
        count_is,
        ← seen,
        list_at-links next lens l low,
        slice_get-map (λ x. x - length lens) xs 0,
        first-path (follow next) l l xs (good.rings l low).path (loop_distinct good l low).0,
      )
      (node_is good l (follow next l) low (next_on good l l low (first_on l xs)))

  pub apart_owes : (l : ℕ) → Apart (list_at v.lists l)
  apart_owes l = rw (← seen) (apart-list good l)

  -- the next node, by place
  pub next_at_owes : {n f : ℕ} (l i : ℕ) → slice_get (list_at v.lists l) i ≡ Some n → f ≡ get_or next (count + n) 0
      → (f < count → None ≡ slice_get (list_at v.lists l) (i + 1))
      × (count ≤ f → Some (f - count) ≡ slice_get (list_at v.lists l) (i + 1))
  next_at_owes {n} l i here is =
      let mine = linked_place good l n (rw (← seen) at (has-at (list_at v.lists l) i n here)) in
      let lb = listed good l n mine in
      let place = length lens + n in
      let xs = ring_of next lens l in
      let there = on_ring good l place lb mine in
      let later : i + 1 ≡ suc i = omega arith in
      let behind : slice_get (list_at v.lists l) (i + 1) ≡ node_of (length lens) l (follow next place) =
      rw (later, ← after-at (list_at v.lists l) i n (apart_owes l) here, ← seen, list_at-links next lens l lb)
      (after-map (λ x. x - length lens) n place (omega arith) xs (node_only good l lb n)
      ∙ ap (option_map (λ x. x - length lens)) (after-path (follow next) l l xs place (good.rings l lb).path there
      (loop_distinct good l lb).0)) in
      rw (behind, is, count_is) (node_is good l (follow next place) lb (next_on good l place lb
      (or_right (eqb l place) (has xs place) there)))

  pub grow_owes : (nodes : ℕ) {places : ℕ} {next' prev' : List ℕ} {owner' : List (Option ℕ)} {lens' : List ℕ}
      → places ≡ count + nodes → next' ≡ more_links next places → prev' ≡ more_links prev places
      → owner' ≡ owner ++ replicate (places - length owner) None → lens' ≡ lens
      → IsGrown nodes v next' prev' owner' lens'
  grow_owes nodes {places} places_is next_is prev_is owner_is lens_is =
      let owners = good.owners in
      let prevs = good.inverse.same in
      let few = good.few in
      let lists : (links_of next lens).lists ≡ v.lists = ap (λ w. w.lists) seen in
      let had : length next - length lens ≡ v.nodes = ap (λ w. w.nodes) seen in
      rw (next_is, prev_is, owner_is, lens_is) (elim (cases_lt places (length next)) [
        | inl low ↦
            let none : places - length owner ≡ 0 = omega arith in
            rw (no_more next places (omega arith), no_more prev places (omega arith), none, append-nil owner) (record {
              good = good;
              lists = lists;
              enough = omega (arith, count_is, few);
              kept = omega (arith, had);
            })
        | inr high ↦
            let len = length-more next places high in
            record {
              good = grown_good good places (places - length owner) high (omega arith);
              lists = grown_lists good places ∙ lists;
              enough = omega (arith, len, count_is);
              kept = omega (arith, len, had);
            }
      ])

-- ---- no links

self_link : (places x : ℕ) → x < places → get_or (range_with_len 0 places) x 0 ≡ x
self_link places x h = get_or-range_with_len 0 places x 0 h ∙ omega arith

empty_ring : (places lists l : ℕ) → ring_of (range_with_len 0 places) (replicate lists 0) l ≡ []
empty_ring places lists l = rw (all_same {X = ℕ} lists l 0)

pub new_good : (lists nodes : ℕ) → IsGood (range_with_len 0 (lists + nodes)) (range_with_len 0 (lists + nodes))
    (replicate (lists + nodes) None) (replicate lists 0)
new_good lists nodes =
    let places = lists + nodes in
    let links = range_with_len 0 places in
    let lens : List ℕ = replicate lists 0 in
    let len : length links ≡ places = length-range_with_len 0 places in
    let lists_is : length lens ≡ lists = length-replicate lists 0 in
    let itself : (x : ℕ) → x < length links → (get_or links x 0 < length links)
    × (get_or links (get_or links x 0) 0 ≡ x) = λ x h. (let same = self_link places x (rw len at h) in
    rw (same, same) (h, refl)) in
    record {
      inverse = record { same = refl; forth = itself; back = itself };
      owners = length-replicate places None ∙ sym len;
      few = rw (len, lists_is) (omega arith);
      sentinels = λ l h. all_same places l None;
      listed = λ x l h. absurd (cc (all_same {X = Option ℕ} places x None));
      alone = λ x high low free. self_link places x (rw len at low);
      rings = λ l h. (let low = rw lists_is at h in record {
        path = rw (empty_ring places lists l) (self_link places l (omega arith));
        apart = rw (empty_ring places lists l) tt;
        owned = rw (empty_ring places lists l) (λ x. rw (all_same {X = Option ℕ} places x None));
      });
      counted = omega (
        arith,
        sum_by-replicate (λ (x : ℕ). x) lists 0,
        sum_by-replicate (λ (x : Option ℕ).
            cond (is_none x) 1 0) places None,
        len,
      );
    }

module _ (lists nodes : ℕ) where
  pub new_lists : (links_of (range_with_len 0 (lists + nodes)) (replicate lists 0)).lists ≡ replicate lists []
  new_lists =
      let lens : List ℕ = replicate lists 0 in
      range_is (nodes_of (range_with_len 0 (lists + nodes)) lens) (length lens) [] (replicate lists [])
      (length-replicate lists [] ∙ sym (length-replicate {A = ℕ} lists 0))
      (λ l h. rw (empty_ring (lists + nodes) lists l, all_same {X = List ℕ} lists l []))

  pub new_nodes : (links_of (range_with_len 0 (lists + nodes)) (replicate lists 0)).nodes ≡ nodes
  new_nodes = rw (length-range_with_len 0 (lists + nodes), length-replicate {A = ℕ} lists 0) (omega arith)
