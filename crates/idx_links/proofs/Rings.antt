-- the rings of the places, as callers see them
use Rattle.std.proofs.Common.{ℕ, zero, suc, ◌+◌, ◌-◌, ◌<◌, ◌≤◌, ◌≡◌, ◌≢◌, ◌⊎◌, inl, inr, Bool, true, false, cond, ◌||◌}
use Rattle.std.proofs.Common.{eqb, Option, Some, None, List, [], ◌∷◌, ◌++◌, length, map, replicate, get_or, set, refl}
use Rattle.std.proofs.Common.{ap, sym, ◌∙◌, arith, length-append}
use Rattle.std.specs.List.{range_with_len}
use Rattle.std.specs.Option.{is_none}
use Rattle.std.proofs.lemmas.List.Folds.{sum_by-replicate}
use Rattle.std.proofs.lemmas.Bool.{cases_eq, cases_lt, eq-eqb, ne_eqb, eqb-true, false≢true, or_cases, or_right}
use Rattle.std.proofs.lemmas.Bool.{false_from_ne_true}
use Rattle.std.proofs.Math.Bool.{or-false}
use Rattle.std.proofs.Math.ListN.{get_or-map as get_or-map_same}
use Rattle.std.proofs.lemmas.List.{get_or_past, get_or_append_left, get_or-append_right, length-replicate, length-set}
use Rattle.std.proofs.lemmas.List.{get_or-set_same, get_or-set_other, length-map, map-append, ext_get_or}
use Rattle.std.proofs.lemmas.List.FromFn.{length-range_with_len, get_or-range_with_len, length-map-range_with_len}
use Rattle.std.proofs.lemmas.List.FromFn.{get_or-map-range_with_len}
use Rattle.std.proofs.lemmas.List.Sums.{sum_by-append, sum_by-set, get_or-le-sum_by}
use Rattle.idx_links.specs.Links.{has, without, Apart, list_at, IsFree}
use Rattle.idx_links.specs.Inner.Ring.{walk, Path, follow, ring_of, nodes_of, links_of, is_at, IsRing, AreInverse}
use Rattle.idx_links.specs.Inner.Ring.{IsGood}
use Rattle.idx_links.proofs.Paths.{has-map, without-map, apart-map, has-append, has-without, length-without}
use Rattle.idx_links.proofs.Paths.{apart-without, apart-push, without-absent, walk-path, first_on, link_on, never}
use Rattle.idx_links.proofs.Paths.{path_jump, path_push, path_without, all_same}

length-walk : (n : ℕ) (f : ℕ → ℕ) (s : ℕ) → length (walk n f s) ≡ n
length-walk zero f s = refl
length-walk (suc n) f s = ap suc (length-walk n f (f s))

pub is_at-self : (l : ℕ) → is_at (Some l) l ≡ true
is_at-self l = eq-eqb l l refl

pub is_at-true : (o : Option ℕ) (l : ℕ) → is_at o l ≡ true → o ≡ Some l
is_at-true None l h = absurd (false≢true h)
is_at-true (Some k) l h = ap Some (eqb-true k l h)

-- an element of no other list than l is not on list k
not_at : (o : Option ℕ) (k l : ℕ) → ((j : ℕ) → o ≡ Some j → j ≡ l) → k ≢ l → is_at o k ≡ false
not_at o k l only k_l = false_from_ne_true (is_at o k) (λ e. k_l (only k (is_at-true o k e)))

-- numbers in order, each changed, are a list if its elements are
pub range_is : {X : Type 0} (f : ℕ → X) (n : ℕ) (d : X) (xs : List X) → length xs ≡ n
    → ((k : ℕ) → k < n → f k ≡ get_or xs k d) → map f (range_with_len 0 n) ≡ xs
range_is f n d xs len same =
    ext_get_or d (map f (range_with_len 0 n)) xs (length-map-range_with_len f 0 n ∙ sym len) (λ k h.
    let b = rw (length-map-range_with_len f 0 n) at h in
    get_or-map-range_with_len f 0 n k k d b (omega arith) ∙ same k b)

module _ (next lens : List ℕ) where
  pub length-lists : length (links_of next lens).lists ≡ length lens
  length-lists = length-map-range_with_len (nodes_of next lens) 0 (length lens)

  pub list_at-links : (l : ℕ) → l < length lens → list_at (links_of next lens).lists l ≡ nodes_of next lens l
  list_at-links l h = get_or-map-range_with_len (nodes_of next lens) 0 (length lens) l l [] h (omega arith)

  pub list_at-past : (l : ℕ) → length lens ≤ l → list_at (links_of next lens).lists l ≡ []
  list_at-past l h = get_or_past (links_of next lens).lists l [] (rw length-lists h)

  pub length-list : (l : ℕ) → l < length lens → length (list_at (links_of next lens).lists l) ≡ get_or lens l 0
  length-list l h = rw (list_at-links l h, length-map, length-walk)

-- a ring from its path
ring_from : (next : List ℕ) (owner : List (Option ℕ)) (lens : List ℕ) (l : ℕ) (xs : List ℕ)
    → Path (follow next) l xs l → get_or lens l 0 ≡ length xs → Apart xs
    → ((x : ℕ) → has xs x ≡ is_at (get_or owner x None) l)
    → (ring_of next lens l ≡ xs) × IsRing next owner lens l
ring_from next owner lens l xs path len apart owned =
    let is : ring_of next lens l ≡ xs = rw len (walk-path (follow next) l l xs path) in
    (is, record { path = rw is path; apart = rw is apart; owned = rw is owned })

-- the places of a ring with its sentinel
abbrev pub loop_of : List ℕ → List ℕ → ℕ → List ℕ
loop_of next lens l = l ∷ ring_of next lens l

-- two writes: the later one, the earlier one, and each other place
module _ (xs : List ℕ) (i j v w : ℕ) where
  second_write : j < length xs → get_or (set (set xs i v) j w) j 0 ≡ w
  second_write h = get_or-set_same (set xs i v) j w 0 (rw length-set h)

  first_write : i < length xs → i ≢ j → get_or (set (set xs i v) j w) i 0 ≡ v
  first_write h ne = get_or-set_other (set xs i v) j i w 0 ne ∙ get_or-set_same xs i v 0 h

  no_write : (y : ℕ) → y ≢ i → y ≢ j → get_or (set (set xs i v) j w) y 0 ≡ get_or xs y 0
  no_write y ni nj = get_or-set_other (set xs i v) j y w 0 nj ∙ get_or-set_other xs i y v 0 ni

  length-writes : length (set (set xs i v) j w) ≡ length xs
  length-writes = length-set (set xs i v) j w ∙ length-set xs i v

-- ---- two links exchanged

-- where each of n places leads, the other list leads back
abbrev LeadsBack : ℕ → List ℕ → List ℕ → Type 0
LeadsBack n next prev = (x : ℕ) → x < n → (get_or next x 0 < n) × (get_or prev (get_or next x 0) 0 ≡ x)

swapped_back : (n : ℕ) (next prev : List ℕ) (a b c d : ℕ) → length next ≡ n → length prev ≡ n → LeadsBack n next prev
    → get_or prev c 0 ≡ a → get_or prev d 0 ≡ b → a < n → b < n → c < n → d < n → a ≢ b → d ≢ c
    → LeadsBack n (set (set next a d) b c) (set (set prev d a) c b)
swapped_back n next prev a b c d len len' leads to_a to_b ab bb cb db a_b d_c x xb = elim (cases_eq x b) [
  | inl e ↦ rw (e, second_write next a b d c (rw len bb)) (cb, second_write prev d c a b (rw len' cb))
  | inr x_b ↦ elim (cases_eq x a) [
    | inl e ↦ rw (e, first_write next a b d c (rw len ab) a_b) (db, first_write prev d c a b (rw len' db) d_c)
    | inr x_a ↦ (let back = (leads x xb).1 in rw (no_write next a b d c x x_a x_b) (
      (leads x xb).0,
      no_write prev d c a b (get_or next x 0) (λ e. x_b (cc)) (λ e. x_a (cc)) ∙ back,
    ))
  ]
]

-- places a and b exchange their next places, c and d
swapped_inverse : (next prev : List ℕ) (a b c d : ℕ) → AreInverse next prev → get_or next a 0 ≡ c → get_or next b 0 ≡ d
    → a < length next → b < length next → a ≢ b → AreInverse (set (set next a d) b c) (set (set prev d a) c b)
swapped_inverse next prev a b c d inverse to_c to_d ab bb a_b =
    let n = length next in
    let same = inverse.same in
    let at_c : (c < n) × (get_or prev c 0 ≡ a) = rw (← to_c) (inverse.forth a ab) in
    let at_d : (d < n) × (get_or prev d 0 ≡ b) = rw (← to_d) (inverse.forth b bb) in
    let d_c : d ≢ c = λ e. a_b (cc (at_c.1, at_d.1)) in
    record {
      same = length-writes prev d c a b ∙ same ∙ sym (length-writes next a b d c);
      forth = rw (length-writes next a b d c) (swapped_back n next prev a b c d refl same inverse.forth at_c.1 at_d.1
          ab bb at_c.0 at_d.0 a_b d_c);
      back = rw (length-writes next a b d c) (swapped_back n prev next d c b a same refl inverse.back to_d to_c
          at_d.0 at_c.0 bb ab d_c a_b);
    }

-- node n and place a of list l exchange their next places, c and d; n gets another owner, and l another length
record IsMove (next : List ℕ) (owner : List (Option ℕ)) (lens : List ℕ) (l a n c d : ℕ) (now : Option ℕ)
    (len : ℕ) : Type 0 where
  list : l < length lens
  high : length lens ≤ n
  low : n < length next
  before : a < length next
  apart : a ≢ n
  to : get_or next a 0 ≡ c
  from : get_or next n 0 ≡ d
  ends : (c ≡ l) ⊎ (c ≡ n)
  was : (k : ℕ) → get_or owner n None ≡ Some k → k ≡ l
  is : (k : ℕ) → now ≡ Some k → k ≡ l
  rest : now ≡ None → c ≡ n
  count : len + cond (is_none now) 1 0 ≡ get_or lens l 0 + cond (is_none (get_or owner n None)) 1 0

-- who owns a place after a change of n's owner
set_owner : (owner : List (Option ℕ)) (n : ℕ) (o : Option ℕ) (x k : ℕ) (b : Bool) → n < length owner
    → (x ≡ n → b ≡ is_at o k) → (x ≢ n → b ≡ is_at (get_or owner x None) k)
    → b ≡ is_at (get_or (set owner n o) x None) k
set_owner owner n o x k b nb here there = elim (cases_eq x n) [
  | inl e ↦ here e ∙ rw (e, get_or-set_same owner n o None nb)
  | inr e ↦ there e ∙ rw (get_or-set_other owner n x o None e)
]

module _ {next prev : List ℕ} {owner : List (Option ℕ)} {lens : List ℕ} (good : IsGood next prev owner lens) where
  -- an owned place is a node
  is_node : (x l : ℕ) → get_or owner x None ≡ Some l → (length lens ≤ x) × (x < length next)
  is_node x l is = (
    elim (cases_lt x (length lens)) [ inl s ↦ absurd (cc (good.sentinels x s)) | inr s ↦ s ],
    rw (← good.owners) (elim (cases_lt x (length owner)) [
      | inl s ↦ s
      | inr s ↦ absurd (cc (get_or_past owner x None s))
    ]),
  )

  owned_by : (l x : ℕ) → l < length lens → has (ring_of next lens l) x ≡ true → get_or owner x None ≡ Some l
  owned_by l x h on = is_at-true (get_or owner x None) l (sym ((good.rings l h).owned x) ∙ on)

  pub on_ring : (l n : ℕ) → l < length lens → get_or owner n None ≡ Some l → has (ring_of next lens l) n ≡ true
  on_ring l n b is = (good.rings l b).owned n ∙ rw is (is_at-self l)

  -- each place past the sentinels is a node
  pub above : (l : ℕ) → l < length lens → (x : ℕ) → has (ring_of next lens l) x ≡ true → length lens ≤ x
  above l h x e = (is_node x l (owned_by l x h e)).0

  -- each is one node
  pub node_only : (l : ℕ) → l < length lens → (n x : ℕ) → has (ring_of next lens l) x ≡ true → x - length lens ≡ n
      → x ≡ length lens + n
  node_only l h n x e is = (let high = above l h x e in omega arith)

  -- a node is on the list that owns its place
  pub has-list : (l n : ℕ) → has (list_at (links_of next lens).lists l) n ≡ is_at (get_or owner
      (length lens + n) None) l
  has-list l n = elim (cases_lt l (length lens)) [
    | inl s ↦
        rw (list_at-links next lens l s) (has-map (λ x. x - length lens) n (length lens + n) (omega arith)
        (ring_of next lens l) (node_only l s n) ∙ (good.rings l s).owned (length lens + n))
    | inr s ↦
        let o = get_or owner (length lens + n) None in
        rw (list_at-past next lens l s) (sym (false_from_ne_true (is_at o l) (λ e. let low =
        good.listed (length lens + n) l (is_at-true o l e) in omega arith)))
  ]

  pub on_loop : (l x : ℕ) → l < length lens → has (loop_of next lens l) x ≡ true
      → (l ≡ x) ⊎ (get_or owner x None ≡ Some l)
  on_loop l x h e = elim (or_cases (eqb l x) (has (ring_of next lens l) x) e) [
    | inl s ↦ inl (eqb-true l x s)
    | inr s ↦ inr (owned_by l x h s)
  ]

  loop_below : (l x : ℕ) → l < length lens → has (loop_of next lens l) x ≡ true → x < length next
  loop_below l x h e = elim (on_loop l x h e) [
    | inl s ↦ omega (arith, good.few)
    | inr s ↦ (is_node x l s).1
  ]

  -- a link of a loop stays on it
  pub next_on : (l x : ℕ) → l < length lens → has (loop_of next lens l) x ≡ true
      → has (loop_of next lens l) (follow next x) ≡ true
  next_on l x h e = link_on (follow next) l l (ring_of next lens l) x (good.rings l h).path e

  -- a loop has a sentinel and its nodes once each
  pub loop_distinct : (l : ℕ) → l < length lens → Apart (loop_of next lens l)
  loop_distinct l h = ((good.rings l h).owned l ∙ rw (good.sentinels l h), (good.rings l h).apart)

  -- the place before y leads to y
  back_is : (l x y : ℕ) → l < length lens → has (loop_of next lens l) x ≡ true → follow next x ≡ y → x ≡ get_or prev y 0
  back_is l x y h e is = rw (← is) (sym (good.inverse.forth x (loop_below l x h e)).1)

  -- the rings that a change of links and owner does not touch
  kept_ring : (k : ℕ) (next' : List ℕ) (owner' : List (Option ℕ)) (lens' : List ℕ) → k < length lens
      → ((y : ℕ) → has (loop_of next lens k) y ≡ true → get_or next' y 0 ≡ get_or next y 0)
      → ((y : ℕ) → is_at (get_or owner y None) k ≡ is_at (get_or owner' y None) k)
      → get_or lens' k 0 ≡ get_or lens k 0
      → (ring_of next' lens' k ≡ ring_of next lens k) × IsRing next' owner' lens' k
  kept_ring k next' owner' lens' h links owns len =
      let ring = good.rings k h in
      let xs = ring_of next lens k in
      ring_from next' owner' lens' k xs
      (path_jump (follow next) k (follow next') k k xs ring.path (links k (first_on k xs))
      (λ y e. links y (or_right (eqb k y) (has xs y) e)))
      (rw length-walk len)
      ring.apart
      (λ y. ring.owned y ∙ owns y)

  -- ---- a move of a node

  module _ (l a n c d : ℕ) (now : Option ℕ) (len : ℕ) (move : IsMove next owner lens l a n c d now len) where
    abbrev next' : List ℕ
    next' = set (set next a d) n c

    abbrev owner' : List (Option ℕ)
    owner' = set owner n now

    abbrev lens' : List ℕ
    lens' = set lens l len

    owned_node : n < length owner
    owned_node = rw good.owners move.low

    -- the other rings stay as they are
    moved_other : (k : ℕ) → k < length lens → k ≢ l
        → (ring_of next' lens' k ≡ ring_of next lens k) × IsRing next' owner' lens' k
    moved_other k h k_l =
        let not_n : (y : ℕ) → has (loop_of next lens k) y ≡ true → y ≢ n = λ y on s. elim (on_loop k y h on) [
          | inl t ↦ omega (arith, move.high)
          | inr t ↦ k_l (move.was k (rw s at t))
        ] in
        let not_c : has (loop_of next lens k) c ≡ true → ⊥ = λ on. elim move.ends [
          | inl s ↦ elim (on_loop k c h on) [
            | inl t ↦ k_l (t ∙ s)
            | inr t ↦ cc (good.sentinels l move.list, rw s at t)
          ]
          | inr s ↦ not_n c on s
        ] in
        kept_ring k next' owner' lens' h
        (λ y on. no_write next a n d c y (λ s. not_c (rw (s, move.to) at (next_on k y h on))) (not_n y on))
        (λ y. set_owner owner n now y k (is_at (get_or owner y None) k) owned_node
        (λ e. rw e (not_at (get_or owner n None) k l move.was k_l ∙ sym (not_at now k l move.is k_l))) (λ e. refl))
        (get_or-set_other lens l k len 0 k_l)

    -- the invariant after the move, if the list's ring is one
    moved_good : IsRing next' owner' lens' l → IsGood next' (set (set prev d a) c n) owner' lens'
    moved_good ring =
        let same = length-writes next a n d c in
        let as_many = length-set lens l len in
        record {
          inverse = swapped_inverse next prev a n c d good.inverse move.to move.from move.before move.low move.apart;
          owners = length-set owner n now ∙ good.owners ∙ sym same;
          few = rw (as_many, same) good.few;
          sentinels = λ k h. (let kb = rw as_many at h in
              get_or-set_other owner n k now None (λ e. omega (arith, kb, move.high)) ∙ good.sentinels k kb);
          listed = λ x k h. rw as_many (elim (cases_eq x n) [
            | inl e ↦ (let is = move.is k (rw (e, get_or-set_same owner n now None owned_node) at h) in
                omega (arith, is, move.list))
            | inr e ↦ good.listed x k (rw (get_or-set_other owner n x now None e) at h)
          ]);
          alone = λ x high low free. elim (cases_eq x n) [
            | inl e ↦ rw (e, second_write next a n d c move.low) (move.rest (rw (
              e,
              get_or-set_same owner n now None owned_node,
            ) at free))
            | inr e ↦
                let high' = rw as_many at high in
                let stays = good.alone x high' (rw same at low) (rw (get_or-set_other owner n x now None e) at free) in
                let x_a : x ≢ a = λ s. (let at_c : x ≡ c = sym stays ∙ rw s move.to in elim move.ends [
                  | inl t ↦ omega (arith, at_c, t, high', move.list)
                  | inr t ↦ e (at_c ∙ t)
                ]) in
                no_write next a n d c x x_a e ∙ stays
          ];
          rings = λ k h. elim (cases_eq k l) [
            | inl e ↦ rw e ring
            | inr e ↦ (moved_other k (rw as_many at h) e).1
          ];
          counted = omega (
            arith,
            sum_by-set (λ x. x) lens l len 0 move.list,
            sum_by-set (λ x. cond (is_none x) 1 0) owner n now None owned_node,
            move.count,
            good.counted,
            same,
          );
        }

    -- the lists that callers see, if list l is as it is to be
    moved_lists : (lists : List (List ℕ)) → length lists ≡ length lens
        → map (λ x. x - length lens) (ring_of next' lens' l) ≡ list_at lists l
        → ((k : ℕ) → k < length lens → k ≢ l → nodes_of next lens k ≡ list_at lists k)
        → (links_of next' lens').lists ≡ lists
    moved_lists lists size mine others =
        let as_many = length-set lens l len in
        range_is (nodes_of next' lens') (length lens') [] lists (size ∙ sym as_many) (λ k h. rw as_many
        (elim (cases_eq k l) [
          | inl e ↦ rw e mine
          | inr e ↦ (let kb = rw as_many at h in rw (moved_other k kb e).0 (others k kb e))
        ]))

  -- ---- node n put at the end of list l

  module _ (l n : ℕ) (list : l < length lens) (low : length lens + n < length next)
      (free : get_or owner (length lens + n) None ≡ None) where
    abbrev last : ℕ
    last = get_or prev l 0

    push : IsMove next owner lens l last (length lens + n) l (length lens + n) (Some l) (get_or lens l 0 + 1)
    push =
        let back = good.inverse.back l (omega (arith, good.few)) in
        let alone = good.alone (length lens + n) (omega arith) low free in
        record {
          list = list;
          high = omega arith;
          low = low;
          before = back.0;
          apart = λ e. (let same : l ≡ length lens + n = sym back.1 ∙ rw e alone in omega arith);
          to = back.1;
          from = alone;
          ends = inl refl;
          was = λ k is. cc;
          is = λ k is. cc;
          rest = λ is. cc;
          count = rw free (omega arith);
        }

    pushed_ring : (ring_of (set (set next last (length lens + n)) (length lens + n) l)
        (set lens l (get_or lens l 0 + 1)) l ≡ ring_of next lens l ++ (length lens + n) ∷ [])
        × IsRing (set (set next last (length lens + n)) (length lens + n) l) (set owner (length lens + n) (Some l))
        (set lens l (get_or lens l 0 + 1)) l
    pushed_ring =
        let place = length lens + n in
        let next' = set (set next last place) place l in
        let ring = good.rings l list in
        let xs = ring_of next lens l in
        let off : has xs place ≡ false = ring.owned place ∙ rw free in
        let l_place : l ≢ place = λ e. omega arith in
        ring_from next' (set owner place (Some l)) (set lens l (get_or lens l 0 + 1)) l (xs ++ place ∷ [])
        (path_push (follow next) l (follow next') last place (no_write next last place place l) l xs ring.path
        (loop_distinct l list).0 (rw (ne_eqb l place l_place) off) push.to
        (first_write next last place place l push.before push.apart) (second_write next last place place l low)
        (λ y e is. back_is l y l list e is))
        (get_or-set_same lens l (get_or lens l 0 + 1) 0 list ∙ rw (length-append, length-walk))
        (apart-push xs place ring.apart off)
        (λ x. has-append xs (place ∷ []) x ∙ set_owner owner place (Some l) x l (has xs x || has (place ∷ []) x)
        (rw good.owners low) (λ e. rw (e, off, eq-eqb place place refl) (sym (is_at-self l)))
        (λ e. rw (ne_eqb place x (λ s. e (sym s)), or-false) (ring.owned x)))

    -- the invariant after a node was added
    pub pushed_good : IsGood (set (set next last (length lens + n)) (length lens + n) l)
        (set (set prev (length lens + n) last) l (length lens + n)) (set owner (length lens + n) (Some l))
        (set lens l (get_or lens l 0 + 1))
    pushed_good = moved_good l last (length lens + n) l (length lens + n) (Some l) (get_or lens l 0 + 1) push
        pushed_ring.1

    pub pushed_lists : (links_of (set (set next last (length lens + n)) (length lens + n) l)
        (set lens l (get_or lens l 0 + 1))).lists
        ≡ set (links_of next lens).lists l (list_at (links_of next lens).lists l ++ n ∷ [])
    pushed_lists =
        let place = length lens + n in
        let old = (links_of next lens).lists in
        let added = list_at old l ++ n ∷ [] in
        let same : place - length lens ≡ n = omega arith in
        moved_lists l last place l place (Some l) (get_or lens l 0 + 1) push (set old l added)
        (length-set old l added ∙ length-lists next lens)
        (rw (
          pushed_ring.0,
          map-append,
          same,
          get_or-set_same old l added [] (rw (length-lists next lens) list),
          list_at-links next lens l list,
        ))
        (λ k h k_l. rw (get_or-set_other old l k added [] k_l, list_at-links next lens k h))

  -- ---- node n of list l taken out

  module _ (l n : ℕ) (mine : get_or owner (length lens + n) None ≡ Some l) where
    abbrev before : ℕ
    before = get_or prev (length lens + n) 0

    abbrev behind : ℕ
    behind = get_or next (length lens + n) 0

    pub listed : l < length lens
    listed = good.listed (length lens + n) l mine

    shorter : length (without (length lens + n) (ring_of next lens l)) + 1 ≡ get_or lens l 0
    shorter = length-without (ring_of next lens l) (length lens + n) (on_ring l (length lens + n) listed mine)
        ∙ length-walk (get_or lens l 0) (follow next) (follow next l)

    pub owned_len : 0 < get_or lens l 0
    owned_len = omega (arith, shorter)

    leave : IsMove next owner lens l before (length lens + n) (length lens + n) behind None (get_or lens l 0 - 1)
    leave =
        let low = (is_node (length lens + n) l mine).1 in
        let back = good.inverse.back (length lens + n) low in
        record {
          list = listed;
          high = omega arith;
          low = low;
          before = back.0;
          apart = λ e. false≢true (sym (never (follow next) l l (ring_of next lens l) (length lens + n)
              (good.rings l listed).path (λ s. omega (arith, listed)) (λ y on is.
              back_is l y (length lens + n) listed on is ∙ e)) ∙ on_ring l (length lens + n) listed mine);
          to = back.1;
          from = refl;
          ends = inr refl;
          was = λ k is. cc;
          is = λ k is. cc;
          rest = λ is. refl;
          count = rw mine (omega (arith, owned_len));
        }

    unlinked_ring : (ring_of (set (set next before behind) (length lens + n) (length lens + n))
        (set lens l (get_or lens l 0 - 1)) l ≡ without (length lens + n) (ring_of next lens l))
        × IsRing (set (set next before behind) (length lens + n) (length lens + n))
        (set owner (length lens + n) None) (set lens l (get_or lens l 0 - 1)) l
    unlinked_ring =
        let place = length lens + n in
        let next' = set (set next before behind) place place in
        let ring = good.rings l listed in
        let xs = ring_of next lens l in
        let l_place : l ≢ place = λ e. omega (arith, listed) in
        ring_from next' (set owner place None) (set lens l (get_or lens l 0 - 1)) l (without place xs)
        (path_without (follow next) l (follow next') before place
        (no_write next before place behind place) l xs ring.path
        (loop_distinct l listed) l_place l_place leave.to (first_write next before place behind place leave.before
        leave.apart) (λ y e is. back_is l y place listed e is))
        (get_or-set_same lens l (get_or lens l 0 - 1) 0 listed ∙ omega (arith, shorter))
        (apart-without xs place ring.apart)
        (λ x. has-without xs place x ring.apart ∙ set_owner owner place None x l (cond (eqb x place) false (has xs x))
        (rw good.owners leave.low) (λ e. rw (eq-eqb x place e)) (λ e. rw (ne_eqb x place e) (ring.owned x)))

    -- the invariant after a node was taken out
    pub unlinked_good : IsGood (set (set next before behind) (length lens + n) (length lens + n))
        (set (set prev behind before) (length lens + n) (length lens + n)) (set owner (length lens + n) None)
        (set lens l (get_or lens l 0 - 1))
    unlinked_good = moved_good l before (length lens + n) (length lens + n) behind None (get_or lens l 0 - 1) leave
        unlinked_ring.1

    pub unlinked_lists : (links_of (set (set next before behind) (length lens + n) (length lens + n))
        (set lens l (get_or lens l 0 - 1))).lists ≡ map (without n) (links_of next lens).lists
    unlinked_lists =
        let place = length lens + n in
        let old = (links_of next lens).lists in
        let left = λ (k : ℕ). get_or-map_same (without n) old k [] in
        moved_lists l before place place behind None (get_or lens l 0 - 1) leave (map (without n) old)
        (length-map old (without n) ∙ length-lists next lens)
        (rw (unlinked_ring.0, left l, list_at-links next lens l listed) (without-map (λ x. x - length lens) n place
        (omega arith) (ring_of next lens l) (node_only l listed n)))
        (λ k h k_l. rw (
          left k,
          without-absent (list_at old k) n (has-list k n ∙ rw mine (ne_eqb l k (λ s. k_l (sym s)))),
          list_at-links next lens k h,
        ))

  -- ---- consequences of the conditions of the calls

  pub free_place : (n : ℕ) → IsFree (links_of next lens).lists n → get_or owner (length lens + n) None ≡ None
  free_place n free = none_from (get_or owner (length lens + n) None) (λ l is. false≢true (sym (free l) ∙ has-list l n
      ∙ rw is (is_at-self l)))
    where
      none_from : (o : Option ℕ) → ((l : ℕ) → o ≡ Some l → ⊥) → o ≡ None
      none_from None h = refl
      none_from (Some l) h = absurd (h l refl)

  pub linked_place : (l n : ℕ) → has (list_at (links_of next lens).lists l) n ≡ true
      → get_or owner (length lens + n) None ≡ Some l
  linked_place l n on = is_at-true (get_or owner (length lens + n) None) l (sym (has-list l n) ∙ on)

  -- a list is shorter than there are places
  pub len_below : (l : ℕ) → l < length lens → get_or lens l 0 ≤ length next
  len_below l h = omega (arith, get_or-le-sum_by (λ x. x) lens l 0 h, good.counted)

  -- each list has its nodes once
  pub apart-list : (l : ℕ) → Apart (list_at (links_of next lens).lists l)
  apart-list l = elim (cases_lt l (length lens)) [
    | inl s ↦ rw (list_at-links next lens l s) (apart-map (λ x. x - length lens) (ring_of next lens l) (λ x y ex ey e.
        node_only l s (y - length lens) x ex e ∙ sym (node_only l s (y - length lens) y ey refl))
        (good.rings l s).apart)
    | inr s ↦ rw (list_at-past next lens l s) tt
  ]

-- ---- more nodes

abbrev pub more_links : List ℕ → ℕ → List ℕ
more_links links places = links ++ range_with_len (length links) (places - length links)

module _ (links : List ℕ) (places : ℕ) where
  more_before : (x : ℕ) → x < length links → get_or (more_links links places) x 0 ≡ get_or links x 0
  more_before x h = get_or_append_left links (range_with_len (length links) (places - length links)) 0 x h

  more_behind : (x : ℕ) → length links ≤ x → x < places → get_or (more_links links places) x 0 ≡ x
  more_behind x low high =
      get_or-append_right links (range_with_len (length links) (places - length links)) (length links) x 0 refl low
      ∙ get_or-range_with_len (length links) (places - length links) (x - length links) 0 (omega arith) ∙ omega arith

  pub length-more : length links ≤ places → length (more_links links places) ≡ places
  length-more h = rw (length-append, length-range_with_len) (omega arith)

more_back : (n : ℕ) (next prev : List ℕ) (places : ℕ) → length next ≡ n → length prev ≡ n → n ≤ places
    → LeadsBack n next prev → LeadsBack places (more_links next places) (more_links prev places)
more_back n next prev places len len' h leads x b = elim (cases_lt x n) [
  | inl s ↦ (let to = leads x s in rw (more_before next places x (rw len s)) (
    omega (arith, to.0),
    more_before prev places (get_or next x 0) (rw len' to.0) ∙ to.1,
  ))
  | inr s ↦ rw (more_behind next places x (rw len s) b) (b, more_behind prev places x (rw len' s) b)
]

more_owners : (owner : List (Option ℕ)) (n x : ℕ) → get_or (owner ++ replicate n None) x None ≡ get_or owner x None
more_owners owner n x = elim (cases_lt x (length owner)) [
  | inl s ↦ get_or_append_left owner (replicate n None) None x s
  | inr s ↦ get_or-append_right owner (replicate n None) (length owner) x None refl s
      ∙ all_same n (x - length owner) None ∙ sym (get_or_past owner x None s)
]

module _ {next prev : List ℕ} {owner : List (Option ℕ)} {lens : List ℕ} (good : IsGood next prev owner lens)
    (places : ℕ) where
  more_rings : (n k : ℕ) → k < length lens → (ring_of (more_links next places) lens k ≡ ring_of next lens k)
      × IsRing (more_links next places) (owner ++ replicate n None) lens k
  more_rings n k h = kept_ring good k (more_links next places) (owner ++ replicate n None) lens h
      (λ y e. more_before next places y (loop_below good k y h e)) (λ y. rw (more_owners owner n y)) refl

  -- the invariant, with more nodes
  pub grown_good : (n : ℕ) → length next ≤ places → length owner + n ≡ places
      → IsGood (more_links next places) (more_links prev places) (owner ++ replicate n None) lens
  grown_good n h count =
      let same = good.inverse.same in
      let len = length-more next places h in
      let len' = length-more prev places (rw same h) in
      record {
        inverse = record {
          same = len' ∙ sym len;
          forth = rw len (more_back (length next) next prev places refl same h good.inverse.forth);
          back = rw len (more_back (length next) prev next places same refl h good.inverse.back);
        };
        owners = rw (len, length-append, length-replicate) count;
        few = omega (arith, len, good.few);
        sentinels = λ l b. more_owners owner n l ∙ good.sentinels l b;
        listed = λ x l is. good.listed x l (rw (more_owners owner n x) at is);
        alone = λ x high low free. elim (cases_lt x (length next)) [
          | inl s ↦ more_before next places x s ∙ good.alone x high s (rw (more_owners owner n x) at free)
          | inr s ↦ more_behind next places x s (rw len at low)
        ];
        rings = λ k b. (more_rings n k b).1;
        counted =
            (let none = sum_by-replicate (λ (x : Option ℕ). cond (is_none x) 1 0) n None in
            let parts = sum_by-append (λ (x : Option ℕ). cond (is_none x) 1 0) owner (replicate n None) in
            omega (arith, good.counted, good.owners, none, parts, len, count));
      }

  pub grown_lists : (links_of (more_links next places) lens).lists ≡ (links_of next lens).lists
  grown_lists = range_is (nodes_of (more_links next places) lens) (length lens) [] (links_of next lens).lists
      (length-lists next lens) (λ k h. rw (list_at-links next lens k h, (more_rings 0 k h).0))
