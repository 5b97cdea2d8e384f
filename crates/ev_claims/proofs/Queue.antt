-- the list of those that wait, by nodes and by registers
use Rattle.std.proofs.Common.{◌≡◌, ◌⊎◌, inl, inr, ℕ, zero, suc, ◌<◌, ◌^◌, Bool, true, false, cond, eqb, Option, Some}
use Rattle.std.proofs.Common.{None, List, [], ◌∷◌, ◌++◌, length, map, refl, sym, ap, ◌∙◌, arith}
use Rattle.std.specs.Option.{IfSome, IfNone, is_some}
use Rattle.std.specs.Prelude.{Contains, ◌||◌, ◌==◌, slice_get, slice_set, drop}
use Rattle.std.specs.List.{list_any}
use Rattle.std.specs.Ordering.{eq_by_cmp}
use Rattle.std.proofs.lemmas.Bool.{eq-eqb, ne_eqb, eqb-true, or_left, or_right, or_cases, cond-true}
use Rattle.std.proofs.lemmas.List.{map-append, length-append, get_or_append_left}
use Rattle.std.proofs.lemmas.Option.{slice_get_within, slice_get-get_or, get_or_from_slice_get, same_Some}
use Rattle.idx_links.specs.Links.{has, without, list_at, IsFree}
use Rattle.idx_links.specs.Families.{Families, lists_of}
use Rattle.idx_links.proofs.Paths.{has-append, has-left}
use Rattle.route_wire.specs.declared.update.Register.{Register}
use Rattle.route_wire.specs.Order.{register_cmp}
use Rattle.route_wire.specs.contracts.update.RegisterPartialEq.TheImpl as register
use Rattle.route_wire.specs.Inner.Ties.{tied_registers}
use Rattle.route_join.proofs.Tables.{same_register, itself_register}
use Rattle.ev_claims.specs.Pending.{marked}
use Rattle.ev_claims.specs.Inner.Pending.{no_register, register_at, queue, node_of, IsPending}

-- ---- one family of one list
pub now_queue : (f : Families) {q : List ℕ} → f.families ≡ (q ∷ []) ∷ [] → queue f ≡ q
now_queue f is = rw is

pub pushed : (f f' : Families) (n : ℕ) → f.families ≡ (queue f ∷ []) ∷ []
    → f'.families ≡ slice_set f.families 0 (slice_set (lists_of f 0) 0 (queue f ++ n ∷ []))
    → f'.families ≡ ((queue f ++ n ∷ []) ∷ []) ∷ []
pushed f f' n one is = is ∙ rw one

pub unlinked : (f f' : Families) (n : ℕ) → f.families ≡ (queue f ∷ []) ∷ []
    → f'.families ≡ slice_set f.families 0 (map (without n) (lists_of f 0))
    → f'.families ≡ (without n (queue f) ∷ []) ∷ []
unlinked f f' n one is = is ∙ rw one

-- ---- nodes on a list
has_first : (x : ℕ) (xs : List ℕ) → has (x ∷ xs) x ≡ true
has_first x xs = or_left (eqb x x) (has xs x) (eq-eqb x x refl)

has_pushed : (xs : List ℕ) {n m : ℕ} → has (xs ++ n ∷ []) m ≡ true → (has xs m ≡ true) ⊎ (n ≡ m)
has_pushed xs {n} {m} h = elim (or_cases (has xs m) (has (n ∷ []) m) (sym (has-append xs (n ∷ []) m) ∙ h)) [
  | inl e ↦ inl e
  | inr e ↦ inr (eqb-true n m (elim (or_cases (eqb n m) false e) [ inl is ↦ is | inr off ↦ cc ]))
]

pub front_out : (xs : List ℕ) (n : ℕ) → slice_get xs 0 ≡ Some n → without n xs ≡ drop 1 xs
front_out [] n e = cc
front_out (x ∷ xs) n e = cond-true (eqb x n) xs (x ∷ without n xs) (eq-eqb x n (cc))

-- ---- nodes and their registers
pub same_names : (rs : List Register) (r : Register) (xs : List ℕ) → ((n : ℕ) → has xs n ≡ true → n < length rs)
    → map (register_at (rs ++ r ∷ [])) xs ≡ map (register_at rs) xs
same_names rs r [] h = refl
same_names rs r (x ∷ xs) h = λ i. get_or_append_left rs (r ∷ []) no_register x (h x (has_first x xs)) i
    ∷ same_names rs r xs (λ n t. h n (or_right (eqb x n) (has xs n) t)) i

-- true if the register is pending: its node is on the list
waits_by : (rs : List Register) (r : Register) (node : ℕ) (xs : List ℕ)
    → ((m : ℕ) → has xs m ≡ true → eq_by_cmp register_cmp r (register_at rs m) ≡ (m == node))
    → list_any (eq_by_cmp register_cmp r) (map (register_at rs) xs) ≡ has xs node
waits_by rs r node [] h = refl
waits_by rs r node (x ∷ xs) h = λ i. h x (has_first x xs) i || waits_by rs r node xs
    (λ m t. h m (or_right (eqb x m) (has xs m) t)) i

marked_waiting : (rs : List Register) (xs : List ℕ) (node : ℕ) {r : Register} → register_at rs node ≡ r
    → list_any (eq_by_cmp register_cmp r) (map (register_at rs) xs) ≡ false
    → map (register_at rs) (xs ++ node ∷ []) ≡ marked (map (register_at rs) xs) r
marked_waiting rs xs node is absent = rw (map-append, is, absent)

pub drop_map : (rs : List Register) (xs : List ℕ) → map (register_at rs) (drop 1 xs) ≡ drop 1 (map (register_at rs) xs)
drop_map rs [] = refl
drop_map rs (x ∷ xs) = refl

pub front_map : (rs : List Register) (xs : List ℕ) (n : ℕ) → slice_get xs 0 ≡ Some n
    → slice_get (map (register_at rs) xs) 0 ≡ Some (register_at rs n)
front_map rs [] n e = cc
front_map rs (x ∷ xs) n e = let same : x ≡ n = cc in rw same

pub on_queue : (f : Families) (n : ℕ) (r : Option ℕ) → length (lists_of f 0) ≡ 1 → is_some r ≡ true
    → IfSome r (λ l. has (list_at (lists_of f 0) l) n ≡ true) → IfSome r (λ l. l < length (lists_of f 0))
    → has (queue f) n ≡ true
on_queue f n None one e on within = cc
on_queue f n (Some l) one e on within = let zero_is : l ≡ 0 = omega (arith, one, within) in
    rw zero_is at on

pub off_lists : (f : Families) (n : ℕ) (r : Option ℕ) → is_some r ≡ false → IfNone r (IsFree (lists_of f 0) n)
    → IsFree (lists_of f 0) n
off_lists f n None e free = free
off_lists f n (Some k) e free = cc

at_before : (rs : List Register) (r q : Register) (n : ℕ) → slice_get rs n ≡ Some q
    → slice_get (rs ++ r ∷ []) n ≡ Some q
at_before [] r q n e = cc
at_before (x ∷ rs) r q zero e = e
at_before (x ∷ rs) r q (suc n) e = at_before rs r q n e

at_end : (rs : List Register) (r : Register) → slice_get (rs ++ r ∷ []) (length rs) ≡ Some r
at_end [] r = refl
at_end (x ∷ rs) r = at_end rs r

pushed_parts : (rs : List Register) (r q : Register) (n : ℕ) → slice_get (rs ++ r ∷ []) n ≡ Some q
    → (slice_get rs n ≡ Some q) ⊎ ((n ≡ length rs) × (r ≡ q))
pushed_parts [] r q zero e = inr (refl, (cc))
pushed_parts [] r q (suc n) e = cc
pushed_parts (x ∷ rs) r q zero e = inl e
pushed_parts (x ∷ rs) r q (suc n) e = elim (pushed_parts rs r q n e) [ inl h ↦ inl h | inr h ↦ inr (rw h.0, h.1) ]

module _ {f : Families} {rs : List Register} {nodes : List (Register × ℕ)} {room : ℕ} (p : IsPending f rs nodes room)
  where
    pub waits : (r : Register) {node : ℕ} → node_of nodes r ≡ Some node
        → list_any (eq_by_cmp register_cmp r) (map (register_at rs) (queue f)) ≡ has (queue f) node
    waits r {node} at = waits_by rs r node (queue f)
        (λ m t. go m (p.within m t) (eq_by_cmp register_cmp r (register_at rs m)) refl)
      where
        go : (m : ℕ) → m < length rs → (b : Bool) → eq_by_cmp register_cmp r (register_at rs m) ≡ b
            → eq_by_cmp register_cmp r (register_at rs m) ≡ (m == node)
        go m l true e =
            let same = same_register r (register_at rs m) e in
            e ∙ sym (eq-eqb m node (same_Some m node (sym (p.there m (register_at rs m)
            (slice_get-get_or rs m no_register l)) ∙ rw (← same) at)))
        go m l false e = e ∙ sym (ne_eqb m node (λ same.
            cc (itself_register r, rw (same, get_or_from_slice_get rs node r no_register (p.back r node at)) at e)))

    -- ---- a register is marked
    pub marked_is : (r : Register) {node : ℕ} {q : List ℕ} → node_of nodes r ≡ Some node → has (queue f) node ≡ false
        → q ≡ queue f ++ node ∷ [] → map (register_at rs) q ≡ marked (map (register_at rs) (queue f)) r
    marked_is r {node} at free is = rw is (marked_waiting rs (queue f) node
        (get_or_from_slice_get rs node r no_register (p.back r node at)) (waits r at ∙ free))

    pub marked_pending : {f' : Families} (r : Register) {node : ℕ} → node_of nodes r ≡ Some node → f'.nodes ≡ f.nodes
        → f'.families ≡ ((queue f ++ node ∷ []) ∷ []) ∷ [] → IsPending f' rs nodes room
    marked_pending {f'} r {node} at same is =
        let now = now_queue f' is in
        record {
          one = rw now is;
          counted = same ∙ p.counted;
          fits = p.fits;
          small = p.small;
          within = λ m t. elim (has_pushed (queue f) (rw now at t)) [
            | inl e ↦ p.within m e
            | inr e ↦ rw (← e) (slice_get_within rs node r (p.back r node at))
          ];
          there = p.there;
          back = p.back;
        }

    pub left_pending : {f' : Families} (node : ℕ) → f'.nodes ≡ f.nodes
        → f'.families ≡ (without node (queue f) ∷ []) ∷ [] → IsPending f' rs nodes room
    left_pending {f'} node same is =
        let now = now_queue f' is in
        record {
          one = rw now is;
          counted = same ∙ p.counted;
          fits = p.fits;
          small = p.small;
          within = λ m t. p.within m (has-left (queue f) node m (rw now at t));
          there = p.there;
          back = p.back;
        }

    -- ---- a register gets a node
    pub get_contains : {n : ℕ} (r : Register) → node_of nodes r ≡ Some n → Contains rs r
    get_contains {n} r at = (let e = p.back r n at in (n, slice_get_within rs n r e, get_or_from_slice_get rs n r r e))

    pub not_known : (r : Register) → node_of nodes r ≡ None → Contains rs r → ⊥
    not_known r none h = cc (none, p.there h.0 r (slice_get-get_or rs h.0 r h.1 ∙ ap Some h.2))

    pub room_pending : {f' : Families} {nodes' : List (Register × ℕ)} {room' : ℕ} (r : Register)
        → f'.families ≡ f.families → f'.nodes ≡ room' → room' < 2 ^ 32 → length rs < room' → node_of nodes r ≡ None
        → ((q : Register) → node_of nodes' q ≡ cond (register.eq-value.it r q) (Some (length rs)) (node_of nodes q))
        → IsPending f' (rs ++ r ∷ []) nodes' room'
    room_pending {f'} {nodes'} r same counted small more absent updates = record {
      one = rw same p.one;
      counted = counted;
      fits = omega (arith, length-append rs (r ∷ []), more);
      small = small;
      within = λ n t. omega (arith, p.within n (rw same at t), length-append rs (r ∷ []));
      there = λ n q at. elim (pushed_parts rs r q n at) [
        | inl old ↦ updates q ∙ kept q n (p.there n q old) (register.eq-value.it r q) refl
        | inr new ↦ rw (← new.1, new.0) (updates r ∙ rw (tied_registers r r, itself_register r))
      ];
      back = λ q n at. from q n (register.eq-value.it r q) refl (sym (updates q) ∙ at);
    }
      where
        kept : (q : Register) (n : ℕ) → node_of nodes q ≡ Some n → (b : Bool) → register.eq-value.it r q ≡ b
            → cond (register.eq-value.it r q) (Some (length rs)) (node_of nodes q) ≡ Some n
        kept q n is true e = absurd (cc (
          absent,
          is,
          ap (node_of nodes) (same_register r q (sym (tied_registers r q)
              ∙ e)),
        ))
        kept q n is false e = rw e is

        from : (q : Register) (n : ℕ) (b : Bool) → register.eq-value.it r q ≡ b
            → cond (register.eq-value.it r q) (Some (length rs)) (node_of nodes q) ≡ Some n
            → slice_get (rs ++ r ∷ []) n ≡ Some q
        from q n true e here =
            rw (
              ← (same_Some (length rs) n (rw e at here)),
              ← (same_register r q (sym (tied_registers r q)
                  ∙ e)),
            ) (at_end rs r)
        from q n false e here = at_before rs r q n (p.back q n (rw e at here))
