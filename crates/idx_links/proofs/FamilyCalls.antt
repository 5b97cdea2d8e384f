-- families that stand side by side in one set of lists, as callers see them
use Rattle.std.proofs.Common.{ℕ, ◌<◌, ◌≤◌, ◌+◌, ◌-◌, ◌*◌, ◌/◌, ◌%◌, ◌^◌, ◌≡◌, ◌≢◌, ◌⊎◌, inl, inr, true, false, eqb}
use Rattle.std.proofs.Common.{Option, Some, List, [], ◌∷◌, ◌++◌, length, map, replicate, get_or, set, slice_get, ap}
use Rattle.std.proofs.Common.{sym}
use Rattle.std.proofs.Common.{◌∙◌, arith, zero, suc, add-zero, refl}
use Rattle.std.specs.List.{range_with_len}
use Rattle.std.specs.Option.{option_map}
use Rattle.std.proofs.lemmas.List.{length-set, get_or-set_same, get_or-set_other, get_or-map, get_or_default}
use Rattle.std.proofs.lemmas.List.{get_or_past, length-map, length-replicate, map-append}
use Rattle.std.proofs.lemmas.List.FromFn.{length-map-range_with_len, get_or-map-range_with_len}
use Rattle.std.proofs.lemmas.Bool.{cases_lt, cases_eq, false≢true, false_from_ne_true, or_cases, eqb-true}
use Rattle.std.proofs.lemmas.Nat.{div-mul-add, mod-mul-add, div-add-mod', mul-add-lt}
use Rattle.std.proofs.lemmas.Option.{slice_get-map}
use Rattle.std.proofs.Math.Nat.{mod-lt, mul_comm, mul-le-mul_left}
use Rattle.std.proofs.Math.ListN.{get_or-map as get_or-map_same}
use Rattle.idx_links.specs.Links.{Links, has, without, Apart, list_at, IsFree, IsLinked}
use Rattle.idx_links.specs.Families.{Families, lists_of, AreNodes, start, nodes_in, family_in, families_of, IsFamily}
use Rattle.idx_links.specs.Inner.Families.{AreStarts}
use Rattle.idx_links.proofs.Paths.{has-at, has-append, has-left, has-map, without-map, without-absent, apart-map}
use Rattle.idx_links.proofs.Paths.{at-map, all_same}
use Rattle.idx_links.proofs.Rings.{range_is}

-- how many lists a family has
abbrev pub count_in : List ℕ → ℕ → ℕ
count_in starts k = start starts (k + 1) - start starts k

-- which node a number is
number_is : (count k n m : ℕ) → m % count ≡ k → m / count ≡ n → m ≡ n * count + k
number_is count k n m rest whole = rw (← rest, ← whole) (sym (div-add-mod' m count))

-- the content of the lists after a node is put at the end of one
pushed_on : (lists : List (List ℕ)) (place m j x : ℕ) → place < length lists
    → has (list_at (set lists place (list_at lists place ++ m ∷ [])) j) x ≡ true
    → (has (list_at lists j) x ≡ true) ⊎ ((j ≡ place) × (m ≡ x))
pushed_on lists place m j x low on =
    let xs = list_at lists place in
    elim (cases_eq j place) [
      | inl e ↦ elim (or_cases (has xs x) (has (m ∷ []) x) (rw (
        e,
        get_or-set_same lists place (xs ++ m ∷ []) [] low,
        has-append xs (m ∷ []) x,
      ) at on)) [
        | inl s ↦ inl (rw e s)
        | inr s ↦ inr (e, one_is m x s)
      ]
      | inr ne ↦ inl (rw (get_or-set_other lists place j (xs ++ m ∷ []) [] ne) at on)
    ]
  where
    one_is : (a b : ℕ) → has (a ∷ []) b ≡ true → a ≡ b
    one_is a b e = elim (or_cases (eqb a b) false e) [ inl s ↦ eqb-true a b s | inr s ↦ absurd (false≢true s) ]

module _ {count nodes : ℕ} {starts : List ℕ} {links : Links} (good : IsFamily count nodes starts links) where
  -- ---- where lists and nodes stand

  later_by : (j d : ℕ) → j + d ≤ count → start starts j ≤ start starts (j + d)
  later_by j zero h = rw (add-zero j) (omega arith)
  later_by j (suc d) h =
      let before = later_by j d (omega arith) in
      let step = good.rises (j + d) (omega arith) in
      let e : j + suc d ≡ j + d + 1 = omega arith in rw e (omega (arith, before, step))

  later : (j k : ℕ) → j ≤ k → k ≤ count → start starts j ≤ start starts k
  later j k h low = (let e : j + (k - j) ≡ k = omega arith in rw e at (later_by j (k - j) (omega arith)))

  list_within : (k l : ℕ) → k < count → l < count_in starts k → (start starts k + l < start starts (k + 1))
      × (start starts k + l < length links.lists) × (start starts k + l < 2 ^ 64)
  list_within k l low h =
      let step = good.rises k low in
      let all = later (k + 1) count (omega arith) (omega arith) in
      (omega (arith, step), omega (arith, step, all, good.whole), omega (arith, step, all, good.few))

  -- the families don't overlap
  family_is : (j k x : ℕ) → j < count → k < count → start starts j ≤ x → x < start starts (j + 1) → start starts k ≤ x
      → x < start starts (k + 1) → j ≡ k
  family_is j k x hj hk lj uj lk uk = elim (cases_lt j k) [
    | inl s ↦ absurd (omega (arith, later (j + 1) k (omega arith) (omega arith)))
    | inr s ↦ elim (cases_eq j k) [
      | inl e ↦ e
      | inr ne ↦ absurd (omega (arith, later (k + 1) j (omega arith) (omega arith)))
    ]
  ]

  -- on a family's list are its own nodes
  own_in : (k l m : ℕ) → k < count → l < count_in starts k
      → has (list_at links.lists (start starts k + l)) m ≡ true → m % count ≡ k
  own_in k l m low h on =
      let some : 0 < count = omega arith in
      let own = good.own (start starts k + l) m on in
      family_is (m % count) k (start starts k + l) (mod-lt m some) low own.0 own.1 (omega arith)
      (list_within k l low h).0

  only_in : (k l n : ℕ) → k < count → l < count_in starts k → (x : ℕ)
      → has (list_at links.lists (start starts k + l)) x ≡ true → x / count ≡ n → x ≡ n * count + k
  only_in k l n low h x on is = number_is count k n x (own_in k l x low h on) is

  start_found : {k s : ℕ} → k < count → s ≡ get_or starts k s → s ≡ start starts k
  start_found {k} {s} low is = is ∙ get_or_default starts k s 0 (omega (arith, good.counted))

  pub unlinked_family : (m : ℕ) {new : Links} → new.nodes ≡ links.nodes → new.lists ≡ map (without m) links.lists
      → IsFamily count nodes starts new
  unlinked_family m {new} nodes_is is =
      let before : (j x : ℕ) → has (list_at new.lists j) x ≡ true → has (list_at links.lists j) x ≡ true =
      λ j x on. has-left (list_at links.lists j) m x (rw (is, get_or-map_same (without m) links.lists j []) at on) in
      record {
        counted = good.counted;
        rises = good.rises;
        whole = rw (is, length-map) good.whole;
        few = good.few;
        enough = omega (arith, nodes_is, good.enough);
        small = good.small;
        own = λ j x on. good.own j x (before j x on);
        below = λ j x on. good.below j x (before j x on);
      }

-- ---- what callers see, v, of a family, k

module _ {count nodes : ℕ} {starts : List ℕ} {links : Links} {v : Families} (good : IsFamily count nodes starts links)
    (seen : families_of count nodes starts links ≡ v) where
  lists_are : (k : ℕ) → k < count → lists_of v k ≡ family_in count starts links.lists k
  lists_are k low = rw (← seen) (get_or-map-range_with_len (family_in count starts links.lists) 0 count k k [] low
      (omega arith))

  length-family : (k : ℕ) → k < count → length (lists_of v k) ≡ count_in starts k
  length-family k low = rw (lists_are k low) (length-map-range_with_len (nodes_in count starts links.lists k) 0
      (count_in starts k))

  list-family : (k l : ℕ) → k < count → l < count_in starts k
      → list_at (lists_of v k) l ≡ nodes_in count starts links.lists k l
  list-family k l low h = rw (lists_are k low) (get_or-map-range_with_len (nodes_in count starts links.lists k) 0
      (count_in starts k) l l [] h (omega arith))

  changed_families : (k : ℕ) (lists' new : List (List ℕ)) → k < count
      → ((j l : ℕ) → j < count → j ≢ k → l < count_in starts j
      → nodes_in count starts lists' j l ≡ nodes_in count starts links.lists j l)
      → length new ≡ count_in starts k
      → ((l : ℕ) → l < count_in starts k → nodes_in count starts lists' k l ≡ list_at new l)
      → map (family_in count starts lists') (range_with_len 0 count) ≡ set v.families k new
  changed_families k lists' new low others len changed =
      let lens : length v.families ≡ count = rw (← seen)
      (length-map-range_with_len (family_in count starts links.lists) 0 count) in
      range_is (family_in count starts lists') count [] (set v.families k new) (length-set v.families k new
      ∙ lens) (λ j h.
      range_is (nodes_in count starts lists' j) (count_in starts j) [] (get_or (set v.families k new) j [])
      (elim (cases_eq j k) [
        | inl e ↦ rw (e, get_or-set_same v.families k new [] (rw lens low)) len
        | inr e ↦ rw (get_or-set_other v.families k j new [] e) (length-family j h)
      ])
      (λ l b. elim (cases_eq j k) [
        | inl e ↦ rw (e, get_or-set_same v.families k new [] (rw lens low)) (changed l (rw e at b))
        | inr e ↦ rw (get_or-set_other v.families k j new [] e) (others j l h e b ∙ sym (list-family j l h b))
      ]))

  module _ {k : ℕ} (low : k < count) where
    list_number : {l : ℕ} → l < length (lists_of v k) → (l < count_in starts k)
        × (start starts k + l < start starts (k + 1)) × (start starts k + l < length links.lists)
        × (start starts k + l < 2 ^ 64)
    list_number {l} h =
        let h' = rw (length-family k low) at h in
        let within = list_within good k l low h' in
        (h', within.0, within.1, within.2)

    -- the number of a list by what was read as the family's start
    pub index_owes : {l s : ℕ} → l < length (lists_of v k) → s ≡ get_or starts k s
        → (s + l < length links.lists) × (s + l < 2 ^ 64)
    index_owes h s_is = (let number = list_number h in rw (start_found good low s_is) (number.2, number.3))

    list-none : (l : ℕ) → count_in starts k ≤ l → list_at (lists_of v k) l ≡ []
    list-none l h = get_or_past (lists_of v k) l [] (rw (length-family k low) h)

    number_below : (n : ℕ) → n < v.nodes → n * count + k < nodes * count
    number_below n h = rw (mul_comm nodes count) (mul-add-lt n count k nodes (rw (ap (λ w. w.nodes) seen) h) low)

    has-family : (l n : ℕ) → l < count_in starts k
        → has (list_at (lists_of v k) l) n ≡ has (list_at links.lists (start starts k + l)) (n * count + k)
    has-family l n h = rw (list-family k l low h) (has-map (λ m. m / count) n (n * count + k)
        (div-mul-add n count k low)
        (list_at links.lists (start starts k + l)) (only_in good k l n low h))

    -- a list of the family with the node
    list_with : (l n : ℕ) → has (list_at (lists_of v k) l) n ≡ true
        → (l < count_in starts k) × (has (list_at links.lists (start starts k + l)) (n * count + k) ≡ true)
    list_with l n on =
        let h : l < count_in starts k = elim (cases_lt l (count_in starts k)) [
          | inl s ↦ s
          | inr s ↦ absurd (false≢true (rw (list-none l s) at on))
        ] in
        (h, rw (has-family l n h) at on)

    -- a list with the family's node is one of the family's
    list_of_node : (j n : ℕ) → has (list_at links.lists j) (n * count + k) ≡ true
        → (start starts k ≤ j) × (j - start starts k < count_in starts k)
        × (has (list_at (lists_of v k) (j - start starts k)) n ≡ true)
    list_of_node j n on =
        let own = rw (mod-mul-add n count k low) at (good.own j (n * count + k) on) in
        let from = own.0 in
        let to = own.1 in
        let within : j - start starts k < count_in starts k = omega arith in
        let back : start starts k + (j - start starts k) ≡ j = omega arith in
        (from, within, has-family (j - start starts k) n within ∙ rw back on)

    pub free_number : (n : ℕ) → IsFree (lists_of v k) n → IsFree links.lists (n * count + k)
    free_number n free j = false_from_ne_true (has (list_at links.lists j) (n * count + k))
        (λ on. false≢true (sym (free (j - start starts k)) ∙ (list_of_node j n on).2))

    pub linked_number : (n : ℕ) → IsLinked (lists_of v k) n → IsLinked links.lists (n * count + k)
    linked_number n on = (start starts k + on.0, (list_with on.0 n on.1).1)

    -- ---- a node at the end

    pub pushed_families : (n : ℕ) {l s : ℕ} {lists' : List (List ℕ)} → l < length (lists_of v k)
        → s ≡ get_or starts k s
        → lists' ≡ set links.lists (s + l) (list_at links.lists (s + l) ++ (n * count + k) ∷ [])
        → map (family_in count starts lists') (range_with_len 0 count)
        ≡ set v.families k (set (lists_of v k) l (list_at (lists_of v k) l ++ n ∷ []))
    pushed_families n {l} {lists' = lists'} h s_is lists_is =
        let is = rw (start_found good low s_is) at lists_is in
        let place = start starts k + l in
        let m = n * count + k in
        let xs = list_at links.lists place in
        let number = list_number h in
        let old = lists_of v k in
        let end = list_at old l ++ n ∷ [] in
        let other : (j i : ℕ) → start starts j + i ≢ place → nodes_in count starts lists' j i
        ≡ nodes_in count starts links.lists j i = λ j i ne. rw (
          is,
          get_or-set_other links.lists place (start starts j + i) (xs ++ m ∷ []) [] ne,
        ) in
        changed_families k lists' (set old l end) low
        (λ j i jb ne b. other j i (λ e. (let w = list_within good j i jb b in
        ne (family_is good j k (start starts j + i) jb low (omega arith) w.0 (omega (arith, e))
        (omega (arith, e, number.1))))))
        (length-set old l end ∙ length-family k low)
        (λ i b. elim (cases_eq i l) [
          | inl e ↦ rw (
            e,
            is,
            get_or-set_same links.lists place (xs ++ m ∷ []) [] number.2,
            map-append,
            div-mul-add n count k low,
            get_or-set_same old l end [] h,
            list-family k l low number.0,
          )
          | inr ne ↦ rw (get_or-set_other old l i end [] ne, list-family k i low b) (other k i (λ e. ne (omega
              (arith, e))))
        ])

    pub pushed_family : {n l s : ℕ} {new : Links} → l < length (lists_of v k) → n < v.nodes → s ≡ get_or starts k s
        → new.nodes ≡ links.nodes
        → new.lists ≡ set links.lists (s + l) (list_at links.lists (s + l) ++ (n * count + k) ∷ [])
        → IsFamily count nodes starts new
    pushed_family {n} {l} {new = new} h in_nodes s_is nodes_is lists_is =
        let is = rw (start_found good low s_is) at lists_is in
        let place = start starts k + l in
        let m = n * count + k in
        let number = list_number h in
        let before : (j x : ℕ) → has (list_at new.lists j) x ≡ true
        → (has (list_at links.lists j) x ≡ true) ⊎ ((j ≡ place) × (m ≡ x)) =
        λ j x on. pushed_on links.lists place m j x number.2 (rw is at on) in
        record {
          counted = good.counted;
          rises = good.rises;
          whole = rw (is, length-set) good.whole;
          few = good.few;
          enough = omega (arith, nodes_is, good.enough);
          small = good.small;
          own = λ j x on. elim (before j x on) [
            | inl s ↦ good.own j x s
            | inr s ↦ rw (s.0, ← s.1, mod-mul-add n count k low) (omega arith, number.1)
          ];
          below = λ j x on. elim (before j x on) [
            | inl s ↦ good.below j x s
            | inr s ↦ rw (← s.1) (number_below n in_nodes)
          ];
        }

    -- ---- a node taken out

    pub unlinked_families : (n : ℕ) {lists' : List (List ℕ)} → lists' ≡ map (without (n * count + k)) links.lists
        → map (family_in count starts lists') (range_with_len 0 count)
        ≡ set v.families k (map (without n) (lists_of v k))
    unlinked_families n {lists'} is =
        let m = n * count + k in
        let old = lists_of v k in
        let left = λ (i : ℕ). get_or-map_same (without m) links.lists i [] in
        changed_families k lists' (map (without n) old) low
        (λ j i jb ne b. let off : has (list_at links.lists (start starts j + i)) m ≡ false =
        false_from_ne_true (has (list_at links.lists (start starts j + i)) m)
        (λ on. ne (sym (own_in good j i m jb b on) ∙ mod-mul-add n count k low)) in
        rw (is, left (start starts j + i), without-absent (list_at links.lists (start starts j + i)) m off))
        (length-map old (without n) ∙ length-family k low)
        (λ i b. rw (is, left (start starts k + i), get_or-map_same (without n) old i [], list-family k i low b)
        (without-map (λ x. x / count) n m (div-mul-add n count k low) (list_at links.lists (start starts k + i))
        (only_in good k i n low b)))

    -- ---- the results of the calls

    pub front_tells : {l s : ℕ} {r : Option ℕ} → l < length (lists_of v k) → s ≡ get_or starts k s
        → r ≡ slice_get (list_at links.lists (s + l)) 0
        → option_map (λ m. m / count) r ≡ slice_get (list_at (lists_of v k) l) 0
    front_tells {l} h s_is is = rw (is, start_found good low s_is, list-family k l low (list_number h).0)
        (sym (slice_get-map (λ m. m / count) (list_at links.lists (start starts k + l)) 0))

    pub next_tells : (n : ℕ) {r : Option ℕ}
        → ((j i : ℕ) → slice_get (list_at links.lists j) i ≡ Some (n * count + k)
        → r ≡ slice_get (list_at links.lists j) (i + 1))
        → (l i : ℕ) → slice_get (list_at (lists_of v k) l) i ≡ Some n
        → option_map (λ m. m / count) r ≡ slice_get (list_at (lists_of v k) l) (i + 1)
    next_tells n next l i here =
        let h = (list_with l n (has-at (list_at (lists_of v k) l) i n here)).0 in
        let xs = list_at links.lists (start starts k + l) in
        let same = list-family k l low h in
        let from = at-map (λ m. m / count) xs i n (rw same at here) in
        let is = only_in good k l n low h from.0 (has-at xs i from.0 from.1) from.2 in
        rw (next (start starts k + l) i (from.1 ∙ ap Some is), same) (sym (slice_get-map (λ m. m / count) xs (i + 1)))

    pub len_tells : {l s r : ℕ} → l < length (lists_of v k) → s ≡ get_or starts k s
        → r ≡ length (list_at links.lists (s + l)) → r ≡ length (list_at (lists_of v k) l)
    len_tells {l} h s_is is =
        rw (list-family k l low (list_number h).0, length-map) (rw (start_found good low s_is) at is)

    pub apart_tells : ((j : ℕ) → Apart (list_at links.lists j)) → (l : ℕ) → Apart (list_at (lists_of v k) l)
    apart_tells apart l = elim (cases_lt l (count_in starts k)) [
      | inl s ↦ rw (list-family k l low s) (apart-map (λ m. m / count) (list_at links.lists (start starts k + l))
          (λ x y ex ey e. only_in good k l (y / count) low s x ex e ∙ sym (only_in good k l
          (y / count) low s y ey refl))
          (apart (start starts k + l)))
      | inr s ↦ rw (list-none l s) tt
    ]

    -- a node of the family's lists is below the number of nodes
    pub below_tells : AreNodes v k
    below_tells l n on =
        let same = ap (λ w. w.nodes) seen in
        let below = good.below (start starts k + l) (n * count + k) (list_with l n on).1 in
        elim (cases_lt n nodes) [
          | inl s ↦ omega (arith, same)
          | inr s ↦ absurd (omega (arith, below, mul-le-mul_left count s, mul_comm count nodes, mul_comm count n))
        ]

    -- which of the family's lists has the node
    pub list_of_tells : (n l : ℕ) {s : ℕ} → s ≡ get_or starts k s
        → has (list_at links.lists l) (n * count + k) ≡ true
        → ((j : ℕ) → has (list_at links.lists j) (n * count + k) ≡ true → j ≡ l)
        → (s ≤ l) × (has (list_at (lists_of v k) (l - s)) n ≡ true)
        × ((j : ℕ) → has (list_at (lists_of v k) j) n ≡ true → j ≡ l - s) × (l - s < length (lists_of v k))
    list_of_tells n l s_is on only =
        let own = list_of_node l n on in
        rw (start_found good low s_is) (
          own.0,
          own.2,
          λ j e. omega (arith, only (start starts k + j) (list_with j n e).1),
          rw (length-family k low) own.1,
        )

    pub off_tells : (n : ℕ) → IsFree links.lists (n * count + k) → IsFree (lists_of v k) n
    off_tells n free l = false_from_ne_true (has (list_at (lists_of v k) l) n)
        (λ on. false≢true (sym (free (start starts k + l)) ∙ (list_with l n on).1))

-- ---- no node on any list, and more nodes

module _ {counts starts : List ℕ} {count n : ℕ} (links : Links) (len : length counts ≡ count)
    (are : AreStarts counts starts) (found : n ≡ get_or starts count n) (is : links.lists ≡ replicate n []) where
  n_is : n ≡ start starts count
  n_is = found ∙ get_or_default starts count n 0 (omega (arith, are.counted, len))

  pub new_family : (nodes : ℕ) → links.nodes ≡ nodes * count → nodes * count < 2 ^ 64
      → IsFamily count nodes starts links
  new_family nodes nodes_is small =
      let none : (l m : ℕ) → has (list_at links.lists l) m ≡ true → ⊥ = λ l m on. false≢true (rw (
        is,
        all_same {X = List ℕ} n l [],
      ) at on) in
      record {
        counted = rw (← len) are.counted;
        rises = λ k h. omega (arith, are.ends k (rw len h));
        whole = rw (is, length-replicate) (omega (arith, n_is));
        few = rw (← len) are.few;
        enough = omega (arith, nodes_is);
        small = small;
        own = λ l m on. absurd (none l m on);
        below = λ l m on. absurd (none l m on);
      }

  pub new_families : map (family_in count starts links.lists) (range_with_len 0 count)
      ≡ map (λ m. replicate m []) counts
  new_families =
      let empty : ℕ → List (List ℕ) = λ m. replicate m [] in
      range_is (family_in count starts links.lists) count [] (map empty counts) (length-map counts empty ∙ len) (λ j h.
      let jc : j < length counts = rw len h in
      let c = get_or counts j 0 in
      let size : count_in starts j ≡ c = omega (arith, are.ends j jc) in
      rw (get_or-map empty counts j 0 [] jc) (range_is (nodes_in count starts links.lists j) (count_in starts j) []
      (empty c) (length-replicate c [] ∙ sym size)
      (λ l b. rw (is, all_same {X = List ℕ} n (start starts j + l) [], all_same {X = List ℕ} c l []))))

-- how many lists a family has, after a change of one family that keeps its number
pub lengths_kept : (f g : Families) (k : ℕ) (lists : List (List ℕ)) → g.families ≡ set f.families k lists
    → length lists ≡ length (lists_of f k) → (j : ℕ) → length (lists_of g j) ≡ length (lists_of f j)
lengths_kept f g k lists is same j = rw is (elim (cases_eq j k) [
  | inl e ↦ rw e (elim (cases_lt k (length f.families)) [
    | inl h ↦ rw (get_or-set_same f.families k lists [] h) same
    | inr h ↦ rw (get_or_past (set f.families k lists) k [] (rw length-set h), get_or_past f.families k [] h)
  ])
  | inr e ↦ rw (get_or-set_other f.families k j lists [] e)
])

pub lengths_new : (f : Families) → f.families ≡ replicate 3 [] ∷ replicate 3 [] ∷ [] → (k : ℕ) → k < 2
    → length (lists_of f k) ≡ 3
lengths_new f is zero h = rw is
lengths_new f is (suc zero) h = rw is
lengths_new f is (suc (suc k)) h = absurd (omega arith)
