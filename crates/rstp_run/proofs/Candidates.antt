-- If candidates for the root leave that aren't the best one, the best one and the root stay.
use Rattle.rstp_run.proofs.Basics.{add-step, clash, Off, On, parts, Relations}
use Rattle.rstp_run.proofs.Each.{AtEach, each_as}
use Rattle.rstp_run.proofs.Names.{[], add-zero, ap, arith, Bool, best_path, both, cases_Bool, cond, enumerate_from}
use Rattle.rstp_run.proofs.Names.{eq-eqb, eqb-true, false, filter_map, inl, inr, is_through, List, least_is_best}
use Rattle.rstp_run.proofs.Names.{least_of_candidates, list_all, None, no, not, Option, option_map_or, Path, PortState}
use Rattle.rstp_run.proofs.Names.{path_at, refl, root_along, Settings, Some, same_Some, slice_get, subst, suc, sym}
use Rattle.rstp_run.proofs.Names.{times_beyond, true, zero, zero-add, ℕ, ◌+◌, ◌==◌, ◌∙◌, ◌∷◌, ◌≡◌, ◌≤◌, ◌⊎◌}
use Rattle.rstp_state.specs.Selection.{candidates, IsLeastOf, is_told, path_cmp, path_through}
use Rattle.rstp_state.specs.Start.{own_times}
use Rattle.std.proofs.Common.{Contains}
use Rattle.std.proofs.lemmas.Option.{none-some}
use Rattle.std.specs.List.{cons_option}
use Rattle.std.specs.Ordering.{is_lt}
use Rattle.std.specs.Prelude.{option_and_then}

-- the port is the candidate that it was, with its times, or neither a candidate nor the one of this path
abbrev pub Remains : Settings → Path → Relations
Remains s path n x y =
    ((path_at s (n, y) ≡ path_at s (n, x)) × (y.port_times ≡ x.port_times))
    ⊎ ((path_at s (n, y) ≡ None) × (Off (is_through path n)))

later : (q : Path) (qs : List Path) (path : Path) → Contains qs path → Contains (q ∷ qs) path
later q qs path (k, within, at) = (suc k, omega arith, at)

place_of : (s : Settings) (n : ℕ) (x : PortState) (q : Path) → path_at s (n, x) ≡ Some q → q.place ≡ Some n
place_of s n x q h = elim (cases_Bool (is_told s x)) [
  | inl t ↦ rw (← same_Some (path_through n x) q (rw t at h)) refl
  | inr t ↦ absurd (none-some q (rw t at h))
]

module _ (s : Settings) (path : Path) where
  -- the ports of both lists remain; the first place is n
  abbrev Remain : ℕ → List PortState → List PortState → Type 0
  Remain n [] [] = Unit {0}
  Remain n (x ∷ xs) (y ∷ ys) = Remains s path n x y × Remain (n + 1) xs ys
  Remain n _ _ = ⊥

  remain_at : (n : ℕ) (xs ys : List PortState) → AtEach (λ q. Remains s path (n + q)) xs ys → Remain n xs ys
  remain_at n [] [] h = tt
  remain_at n (x ∷ xs) (y ∷ ys) h = (
    rw (add-zero n) at h.0,
    remain_at (n + 1) xs ys (each_as (λ q. Remains s path (n + 1 + q)) xs ys h.1
        (λ q u v _ _ k. rw (← add-step n q) k)),
  )
  remain_at n _ _ h = absurd h

  all_remain : (xs ys : List PortState) → AtEach (Remains s path) xs ys → Remain 0 xs ys
  all_remain xs ys h =
      remain_at 0 xs ys (each_as (λ q. Remains s path (0 + q)) xs ys h (λ q u v _ _ k. rw (zero-add q) k))

  abbrev found : ℕ → List PortState → List Path
  found n ports = filter_map (path_at s) (enumerate_from n ports)

  kept_among : (o : Option Path) (qs rs : List Path) → (Contains qs path → Contains rs path)
      → Contains (cons_option o qs) path → Contains (cons_option o rs) path
  kept_among None qs rs rest c = rest c
  kept_among (Some q) qs rs rest (zero, within, at) = (0, omega arith, at)
  kept_among (Some q) qs rs rest (suc k, within, at) = later q rs path (rest (k, omega arith, at))

  gone_among : (n : ℕ) (o : Option Path) (qs : List Path) → ((q : Path) → o ≡ Some q → q.place ≡ Some n)
      → Off (is_through path n) → Contains (cons_option o qs) path → Contains qs path
  gone_among n None qs place off c = c
  gone_among n (Some q) qs place off (zero, within, at) =
      let here : path.place ≡ Some n = rw (← at) (place q refl) in clash off (rw here (eq-eqb n n refl))
  gone_among n (Some q) qs place off (suc k, within, at) = (k, omega arith, at)

  kept_all : (test : Path → Bool) (o : Option Path) (qs rs : List Path)
      → (On (list_all test qs) → On (list_all test rs))
      → On (list_all test (cons_option o qs)) → On (list_all test (cons_option o rs))
  kept_all test None qs rs rest h = rest h
  kept_all test (Some q) qs rs rest h = both (test q) (list_all test rs) (parts h).0 (rest (parts h).1)

  gone_all : (test : Path → Bool) (o : Option Path) (qs : List Path) → On (list_all test (cons_option o qs))
      → On (list_all test qs)
  gone_all test None qs h = h
  gone_all test (Some q) qs h = (parts h).1

  -- what a candidate that stays keeps, and one that leaves doesn't end, stays true of the candidates
  remains : (C : List Path → Type 0)
      → ((o : Option Path) (qs rs : List Path) → (C qs → C rs) → C (cons_option o qs) → C (cons_option o rs))
      → ((n : ℕ) (x : PortState) (qs : List Path) → Off (is_through path n) → C (cons_option (path_at s (n, x)) qs)
      → C qs)
      → (n : ℕ) (xs ys : List PortState) → Remain n xs ys → C (found n xs) → C (found n ys)
  remains C kept gone n [] [] h c = c
  remains C kept gone n (x ∷ xs) (y ∷ ys) h c =
      let rest = remains C kept gone (n + 1) xs ys h.1 in
      elim h.0 as (λ _. C (found n (y ∷ ys))) [
        | inl same ↦ rw same.0 (kept (path_at s (n, x)) (found (n + 1) xs) (found (n + 1) ys) rest c)
        | inr leaves ↦ rw leaves.0 (rest (gone n x (found (n + 1) xs) leaves.1 c))
      ]
  remains C kept gone n xs ys h c = absurd h

  among : (n : ℕ) (xs ys : List PortState) → Remain n xs ys → Contains (found n xs) path
      → Contains (found n ys) path
  among =
      remains (λ qs. Contains qs path) kept_among (λ n x qs. gone_among n (path_at s (n, x)) qs (place_of s n x))

  all : (test : Path → Bool) (n : ℕ) (xs ys : List PortState) → Remain n xs ys
      → On (list_all test (found n xs)) → On (list_all test (found n ys))
  all test =
      remains (λ qs. On (list_all test qs)) (kept_all test) (λ n x qs off. gone_all test (path_at s (n, x)) qs)

  -- a path found at a place has at least that place
  place_above : (n : ℕ) (xs : List PortState) → Contains (found n xs) path → (k : ℕ) → path.place ≡ Some k → n ≤ k
  place_above n [] (k, within, at) m h = absurd (omega arith)
  place_above n (x ∷ xs) c m h = from (path_at s (n, x)) (place_of s n x) (λ d. place_above (n + 1) xs d m h) c
    where
      from : (o : Option Path) → ((q : Path) → o ≡ Some q → q.place ≡ Some n)
          → (Contains (found (n + 1) xs) path → n + 1 ≤ m)
          → Contains (cons_option o (found (n + 1) xs)) path → n ≤ m
      from None place rest d = omega (arith, rest d)
      from (Some q) place rest (zero, within, at) =
          let here : n ≡ m = same_Some n m (sym (place q refl) ∙ rw at h) in omega arith
      from (Some q) place rest (suc k, within, at) = let more = rest (k, omega arith, at) in omega arith

  told_at : (n : ℕ) (xs : List PortState) → Contains (found n xs) path → (k : ℕ) (x : PortState)
      → path.place ≡ Some (n + k) → slice_get xs k ≡ Some x → On (is_told s x)
  told_at n [] (k, within, at) m x h here = absurd (omega arith)
  told_at n (y ∷ ys) c zero x h here =
      let same : y ≡ x = cc in
      ap (is_told s) (sym same) ∙ from (is_told s y) c
    where
      from : (b : Bool) → Contains (cons_option (cond b (Some (path_through n y)) None) (found (n + 1) ys)) path
          → On b
      from true d = refl
      from false d = absurd (omega (arith, place_above (n + 1) ys d (n + 0) h))
  told_at n (y ∷ ys) c (suc k) x h here =
      let next : n + suc k ≡ n + 1 + k = omega arith in
      let h' : path.place ≡ Some (n + 1 + k) = h ∙ ap Some next in
      from (path_at s (n, y)) (place_of s n y) h' (λ d. told_at (n + 1) ys d k x h' here) c
    where
      from : (o : Option Path) → ((q : Path) → o ≡ Some q → q.place ≡ Some n) → path.place ≡ Some (n + 1 + k)
          → (Contains (found (n + 1) ys) path → On (is_told s x))
          → Contains (cons_option o (found (n + 1) ys)) path → On (is_told s x)
      from None place e rest d = rest d
      from (Some q) place e rest (zero, within, at) =
          let same : n ≡ n + 1 + k = same_Some n (n + 1 + k) (sym (place q refl) ∙ rw at e) in absurd (omega arith)
      from (Some q) place e rest (suc j, within, at) = rest (j, omega arith, at)

  told_in : (xs : List PortState) → Contains (candidates s xs) path → (k : ℕ) (x : PortState) → path.place ≡ Some k
      → slice_get xs k ≡ Some x → On (is_told s x)
  told_in xs (zero, within, at) k x h here = absurd (none-some k (ap (λ (p : Path). p.place) at ∙ h))
  told_in xs (suc j, within, at) k x h here =
      let zeroth : k ≡ 0 + k = omega arith in
      told_at 0 xs (j, omega arith, at) k x (h ∙ ap Some zeroth) here

  among_candidates : (xs ys : List PortState) → Remain 0 xs ys → Contains (candidates s xs) path
      → Contains (candidates s ys) path
  among_candidates xs ys h (zero, within, at) = (0, omega arith, at)
  among_candidates xs ys h (suc k, within, at) = later _ (found 0 ys) path (among 0 xs ys h (k, omega arith, at))

  pub best_stays : (xs ys : List PortState) → best_path s xs ≡ path → AtEach (Remains s path) xs ys
      → best_path s ys ≡ path
  best_stays xs ys is remain =
      let h = all_remain xs ys remain in
      let found_least = least_of_candidates s xs in
      let least = subst (IsLeastOf (candidates s xs)) (least_is_best s xs _ found_least ∙ is) found_least in
      let test : Path → Bool = λ other. not (is_lt (path_cmp other path)) in
      sym (least_is_best s ys path (record {
        among = among_candidates xs ys h least.among;
        least = both _ (list_all test (found 0 ys)) (parts least.least).0 (all test 0 xs ys h (parts least.least).1);
      }))

  times_stay : (n : ℕ) (xs ys : List PortState) → Remain n xs ys → (k : ℕ)
      → On (is_through path (n + k))
      → option_map_or (λ (port : PortState). times_beyond port.port_times) (slice_get ys k) (own_times s)
      ≡ option_map_or (λ (port : PortState). times_beyond port.port_times) (slice_get xs k) (own_times s)
  times_stay n [] [] h k t = refl
  times_stay n (x ∷ xs) (y ∷ ys) h zero t =
      elim h.0 [
        | inl same ↦ ap times_beyond same.1
        | inr gone ↦ let here : n + 0 ≡ n = omega arith in clash gone.1 (rw here at t)
      ]
  times_stay n (x ∷ xs) (y ∷ ys) h (suc k) t =
      let next : n + suc k ≡ n + 1 + k = omega arith in times_stay (n + 1) xs ys h.1 k (rw next at t)
  times_stay n xs ys h k t = absurd h

  pub root_stays : (xs ys : List PortState) → AtEach (Remains s path) xs ys
      → root_along s ys path ≡ root_along s xs path
  root_stays xs ys h =
      let times = from path.place refl in λ i. record { priority = path.vector; times = times i }
    where
      from : (o : Option ℕ) → path.place ≡ o
          → option_map_or (λ (port : PortState). times_beyond port.port_times) (option_and_then (slice_get ys) o)
          (own_times s)
          ≡ option_map_or (λ (port : PortState). times_beyond port.port_times) (option_and_then (slice_get xs) o)
          (own_times s)
      from None e = refl
      from (Some k) e =
          let zeroth : 0 + k ≡ k =
          omega arith in times_stay 0 xs ys (all_remain xs ys h) k (rw (zeroth, e) (eq-eqb k k refl))

pub place_is : (o : Option ℕ) (k : ℕ) → On (option_map_or (λ at. at == k) o false) → o ≡ Some k
place_is None k h = no h
place_is (Some a) k h = ap Some (eqb-true a k h)

-- the best path goes through a port that received a root
pub best_told : (s : Settings) (xs : List PortState) (k : ℕ) (x : PortState) → slice_get xs k ≡ Some x
    → On (is_through (best_path s xs) k) → On (is_told s x)
best_told s xs k x at t =
    let found_least = least_of_candidates s xs in
    let least = subst (IsLeastOf (candidates s xs)) (least_is_best s xs _ found_least) found_least in
    told_in s (best_path s xs) xs least.among k x (place_is (best_path s xs).place k t) at
