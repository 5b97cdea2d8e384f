-- lists of nodes and their content after one node changes
use Rattle.std.proofs.Common.{ℕ, zero, suc, ◌+◌, ◌<◌, ◌≤◌, ◌≡◌, ◌≢◌, inl, inr, Bool, true, false, cond, eqb, ◌||◌, ◌&&◌}
use Rattle.std.proofs.Common.{Option, Some, None, List, [], ◌∷◌, ◌++◌, length, set, map, drop, slice_get, refl, ap, sym}
use Rattle.std.proofs.Common.{◌∙◌, arith}
use Rattle.std.specs.Prelude.{is_some, count_by, slice_index}
use Rattle.std.specs.Option.{option_map}
use Rattle.std.proofs.Math.ListN.{get_or-map as get_or-map_same}
use Rattle.std.proofs.lemmas.List.{length-map, map-set, map-append, length-set, set-set}
use Rattle.std.proofs.lemmas.List.Sums.{sum_by-set}
use Rattle.std.proofs.lemmas.Bool.{cases_eq, eq-eqb, ne_eqb, false≢true, or_right}
use Rattle.std.proofs.lemmas.Option.{none-some, same_Some}
use Rattle.idx_links.specs.Links.{has, without, Apart, list_at}
use Rattle.idx_links.proofs.Paths.{has-append, has-without, has-left, apart-push, apart-without}
use Rattle.mac_arena.specs.declared.station.Station.{Station}
use Rattle.mac_arena.specs.declared.station.Learned.{Learned}
use Rattle.mac_arena.specs.Inner.Orders.{joined}
use Rattle.mac_arena.specs.Learning.{left, joined_by, stations_at, place_of}
use Rattle.mac_arena.specs.Nodes.{slot_at, station_of, station_in, last_of, NeverFalls}
use Rattle.mac_arena.proofs.Entries.{Slots, AreAlone, IsOff, eq_same, ne_same, slot_here, slot_there, slot_below}
use Rattle.mac_arena.proofs.Entries.{at_each, first_alone}

-- ---- who is on a list

pub on_front : (x : ℕ) (xs : List ℕ) → has (x ∷ xs) x ≡ true
on_front x xs = rw (eq-eqb x x refl)

pub on_rest : (x : ℕ) (xs : List ℕ) (m : ℕ) → has xs m ≡ true → has (x ∷ xs) m ≡ true
on_rest x xs m on = or_right (eqb x m) (has xs m) on

pub has-end : (xs : List ℕ) (n m : ℕ) → has (xs ++ n ∷ []) m ≡ (eqb n m || has xs m)
has-end xs n m = rw (has-append xs (n ∷ []) m) (grind arith)

list-taken : (lists : List (List ℕ)) (n k : ℕ) → list_at (map (without n) lists) k ≡ without n (list_at lists k)
list-taken lists n k = get_or-map_same (without n) lists k []

has-joined : (lists : List (List ℕ)) (l n k m : ℕ) → l < length lists
    → has (list_at (joined l n lists) k) m ≡ ((eqb l k && eqb n m) || has (list_at lists k) m)
has-joined lists l n k m h =
    at_each (λ k xs. has xs m ≡ ((eqb l k && eqb n m) || has (list_at lists k) m)) lists l _ [] h
    (rw (eq-eqb l l refl) (has-end (list_at lists l) n m)) (λ k ne. rw (ne_eqb l k (λ s. ne (sym s)))) k

pub has-taken : (lists : List (List ℕ)) (n k m : ℕ) → Apart (list_at lists k)
    → has (list_at (map (without n) lists) k) m ≡ cond (eqb m n) false (has (list_at lists k) m)
has-taken lists n k m apart = rw (list-taken lists n k) (has-without (list_at lists k) n m apart)

pub not_twice : (lists : List (List ℕ)) (n : ℕ) → ((k : ℕ) → Apart (list_at lists k)) → (k : ℕ)
    → has (list_at (map (without n) lists) k) n ≡ false
not_twice lists n apart k = rw (has-taken lists n k n (apart k), eq-eqb n n refl)

pub apart-taken : (lists : List (List ℕ)) (n : ℕ) → ((k : ℕ) → Apart (list_at lists k)) → (k : ℕ)
    → Apart (list_at (map (without n) lists) k)
apart-taken lists n apart k = rw (list-taken lists n k) (apart-without (list_at lists k) n (apart k))

pub apart-joined : (lists : List (List ℕ)) (l n : ℕ) → l < length lists → ((k : ℕ) → Apart (list_at lists k))
    → has (list_at lists l) n ≡ false → (k : ℕ) → Apart (list_at (joined l n lists) k)
apart-joined lists l n h apart off =
    at_each (λ k xs. Apart xs) lists l _ [] h (apart-push (list_at lists l) n (apart l) off) (λ k ne. apart k)

-- ---- lists that say where each node belongs, after a node's slot changes

abbrev pub Where : Type 0
Where = Option Learned → ℕ → Bool

abbrev pub Name : Where → Slots → List (List ℕ) → Type 0
Name F slots lists = (k m : ℕ) → has (list_at lists k) m ≡ F (slot_at slots m) k

module _ (F : Where) (slots : Slots) (lists : List (List ℕ)) (n : ℕ) (v : Option Learned) (h : n < length slots)
    (names : Name F slots lists) where
  pub names_kept : ((k : ℕ) → F v k ≡ F (slot_at slots n) k) → Name F (set slots n v) lists
  names_kept same k = at_each (λ m w. has (list_at lists k) m ≡ F w k) slots n v None h (rw (same k) (names k n))
      (λ m ne. names k m)

  pub names_joined : (l : ℕ) → l < length lists → ((k : ℕ) → F (slot_at slots n) k ≡ false)
      → ((k : ℕ) → F v k ≡ eqb l k) → Name F (set slots n v) (joined l n lists)
  names_joined l low off on k = at_each (λ m w. has (list_at (joined l n lists) k) m ≡ F w k) slots n v None h
      (rw (has-joined lists l n k n low, on k, eq-eqb n n refl, names k n, off k) (grind arith))
      (λ m ne. rw (has-joined lists l n k m low, ne_eqb n m (λ s. ne (sym s)), names k m) (grind arith))

  pub names_taken : ((k : ℕ) → Apart (list_at lists k)) → ((k : ℕ) → F v k ≡ false)
      → Name F (set slots n v) (map (without n) lists)
  names_taken apart off k = at_each (λ m w. has (list_at (map (without n) lists) k) m ≡ F w k) slots n v None h
      (rw (off k) (not_twice lists n apart k))
      (λ m ne. rw (has-taken lists n k m (apart k), ne_eqb m n ne) (names k m))

-- a node that goes to another list is taken off its list, and joins the other
pub names_rejoined : (F : Where) (slots : Slots) (lists : List (List ℕ)) (n l : ℕ) (v : Option Learned)
    → n < length slots → l < length lists → ((k : ℕ) → Apart (list_at lists k)) → Name F slots lists
    → ((k : ℕ) → F None k ≡ false) → ((k : ℕ) → F v k ≡ eqb l k)
    → Name F (set slots n v) (joined l n (map (without n) lists))
names_rejoined F slots lists n l v h low apart names none on =
    rw set-set at (names_joined F (set slots n None) (map (without n) lists) n v (rw length-set h)
    (names_taken F slots lists n None h names apart none) l (rw length-map low)
    (λ k. rw (slot_here slots n None h) (none k)) on)

-- ---- the seconds of the ageing list

pub falls-without : (slots : Slots) (xs : List ℕ) (n : ℕ) → NeverFalls slots xs → NeverFalls slots (without n xs)
falls-without slots [] n h = tt
falls-without slots (x ∷ xs) n h = elim (cases_eq x n) [
  | inl e ↦ rw (eq-eqb x n e) h.1
  | inr e ↦ rw (ne_eqb x n e) (λ m on. h.0 m (has-left xs n m on), falls-without slots xs n h.1)
]

pub falls-same : (slots slots' : Slots) (xs : List ℕ) → NeverFalls slots xs
    → ((m : ℕ) → has xs m ≡ true → last_of (slot_at slots' m) ≡ last_of (slot_at slots m)) → NeverFalls slots' xs
falls-same slots slots' [] h same = tt
falls-same slots slots' (x ∷ xs) h same = (
  λ m on. rw (same x (on_front x xs), same m (on_rest x xs m on)) (h.0 m on),
  falls-same slots slots' xs h.1 (λ m on. same m (on_rest x xs m on)),
)

pub falls-push : (slots : Slots) (xs : List ℕ) (n : ℕ) → NeverFalls slots xs
    → ((m : ℕ) → has xs m ≡ true → last_of (slot_at slots m) ≤ last_of (slot_at slots n))
    → NeverFalls slots (xs ++ n ∷ [])
falls-push slots [] n h low = (λ m on. absurd (false≢true on), tt)
falls-push slots (x ∷ xs) n h low = (
  λ m on. elim (cases_eq n m) [
    | inl e ↦ rw (← e) (low x (on_front x xs))
    | inr e ↦ h.0 m (rw (has-end xs n m, ne_eqb n m e) at on)
  ],
  falls-push slots xs n h.1 (λ m on. low m (on_rest x xs m on)),
)

-- ---- lists of nodes as lists of stations

map_same : (f g : ℕ → Station) (xs : List ℕ) → ((m : ℕ) → has xs m ≡ true → f m ≡ g m) → map f xs ≡ map g xs
map_same f g [] same = refl
map_same f g (x ∷ xs) same = rw (same x (on_front x xs), map_same f g xs (λ m on. same m (on_rest x xs m on)))

-- the station at each node that isn't the one that changes stays
pub list_kept : (slots : Slots) (xs : List ℕ) (n : ℕ) (v : Option Learned) → has xs n ≡ false
    → map (station_in (set slots n v)) xs ≡ map (station_in slots) xs
list_kept slots xs n v off = map_same (station_in (set slots n v)) (station_in slots) xs
    (λ m on. rw (slot_there slots n m v (λ e. false≢true (rw (e, off) at on))))

pub lists_kept : (slots : Slots) (lists : List (List ℕ)) (n : ℕ) (v : Option Learned)
    → ((k : ℕ) → has (list_at lists k) n ≡ false) → map (map (station_in (set slots n v))) lists
    ≡ map (map (station_in slots)) lists
lists_kept slots [] n v off = refl
lists_kept slots (xs ∷ lists) n v off = rw (
  list_kept slots xs n v (off 0),
  lists_kept slots lists n v (λ k. off (suc
      k)),
)

-- or each does, if the node keeps its station
pub same_stations : (slots : Slots) (n : ℕ) (a x : Learned) → slot_at slots n ≡ Some a → x.station ≡ a.station
    → station_in (set slots n (Some x)) ≡ station_in slots
same_stations slots n a x is same = λ i m. at_each (λ m w. station_of w ≡ station_in slots m) slots n (Some x) None
    (slot_below slots n a is) (rw is same) (λ m ne. refl) m i

-- a node at the end is its station at the end
pub stations_of : (f : ℕ → Station) (lists : List (List ℕ)) (l : ℕ)
    → stations_at (map (map f) lists) l ≡ map f (list_at lists l)
stations_of f lists l = get_or-map_same (map f) lists l []

pub lists_joined : (f : ℕ → Station) (lists : List (List ℕ)) (l n : ℕ)
    → map (map f) (joined l n lists) ≡ joined_by l (f n) (map (map f) lists)
lists_joined f lists l n = rw (map-set, map-append, stations_of f lists l)

-- a node that leaves is its station that leaves
abbrev pub IsOnly : (ℕ → Station) → ℕ → List ℕ → Type 0
IsOnly f n xs = (m : ℕ) → has xs m ≡ true → f m ≡ f n → m ≡ n

pub list_left : (f : ℕ → Station) (xs : List ℕ) (n : ℕ) → IsOnly f n xs → map f (without n xs) ≡ left (f n) (map f xs)
list_left f [] n only = refl
list_left f (x ∷ xs) n only = elim (cases_eq x n) [
  | inl e ↦ rw (eq-eqb x n e, eq_same (f x) (f n) (ap f e))
  | inr e ↦ rw (
    ne_eqb x n e,
    ne_same (f x) (f n) (λ s. e (only x (on_front x xs) s)),
    list_left f xs n (λ m on. only m (on_rest x xs m on)),
  )
]

pub lists_left : (f : ℕ → Station) (lists : List (List ℕ)) (n : ℕ) → ((k : ℕ) → IsOnly f n (list_at lists k))
    → map (map f) (map (without n) lists) ≡ map (left (f n)) (map (map f) lists)
lists_left f [] n only = refl
lists_left f (xs ∷ lists) n only = rw (list_left f xs n (only 0), lists_left f lists n (λ k. only (suc k)))

-- ---- places

abbrev pub places_of : Slots → List (Option Station)
places_of slots = map (option_map (λ (x : Learned). x.station)) slots

pub places_set : (slots : Slots) (n : ℕ) (v : Option Learned)
    → places_of (set slots n v) ≡ set (places_of slots) n (option_map (λ (x : Learned). x.station) v)
places_set slots n v = map-set (option_map (λ (x : Learned). x.station)) slots n v

-- the place of a station is where it stands, once it stands nowhere before
place_is : (slots : Slots) (n : ℕ) (x : Learned) → slot_at slots n ≡ Some x
    → ((m : ℕ) → m < n → IsOff (slot_at slots m) x.station) → place_of (places_of slots) x.station ≡ n
place_is [] n x is off = cc
place_is (None ∷ slots) zero x is off = cc
place_is (None ∷ slots) (suc n) x is off = ap suc (place_is slots n x is (λ m h. off (suc m) (omega arith)))
place_is (Some y ∷ slots) zero x is off = rw (eq_same y.station x.station (rw (same_Some y x is)))
place_is (Some y ∷ slots) (suc n) x is off = rw (ne_same y.station x.station (off 0 (omega arith) y refl))
    (ap suc (place_is slots n x is (λ m h. off (suc m) (omega arith))))

pub place_alone : (slots : Slots) → AreAlone slots → (n : ℕ) (x : Learned) → slot_at slots n ≡ Some x
    → place_of (places_of slots) x.station ≡ n
place_alone slots alone n x is = place_is slots n x is (first_alone slots alone n x is)

-- the first of a list, taken out
pub first_out : (xs : List ℕ) (n : ℕ) → slice_get xs 0 ≡ Some n
    → (slice_index xs 0 ≡ n) × (without n xs ≡ drop 1 xs) × (has xs n ≡ true)
first_out [] n e = absurd (none-some n e)
first_out (x ∷ xs) n e = (let is = same_Some x n e in (is, rw (eq-eqb x n is), rw (eq-eqb x n is)))

-- ---- lists of one element

pub alone_new : (slots : Slots) (n : ℕ) (x : Learned) → n < length slots → AreAlone slots
    → ((m : ℕ) → m ≢ n → IsOff (slot_at slots m) x.station) → AreAlone (set slots n (Some x))
alone_new slots n x h alone off i j =
    at_each (λ i v. (y z : Learned) → v ≡ Some y → slot_at (set slots n (Some x)) j ≡ Some z → y.station ≡ z.station
    → i ≡ j) slots n (Some x) None h
    (λ y z at at' same. at_each (λ j w. w ≡ Some z → n ≡ j) slots n (Some x) None h (λ e. refl)
    (λ j ne e. absurd (off j ne z e (sym same ∙ rw (same_Some x y at)))) j at')
    (λ i ne y z at at' same. at_each (λ j w. w ≡ Some z → i ≡ j) slots n (Some x) None h
    (λ e. absurd (off i ne y at (same ∙ rw (same_Some x z e)))) (λ j ne' e. alone i j y z at e same) j at') i

pub alone_same : (slots : Slots) (n : ℕ) (a x : Learned) → AreAlone slots → slot_at slots n ≡ Some a
    → x.station ≡ a.station → AreAlone (set slots n (Some x))
alone_same slots n a x alone is same = alone_new slots n x (slot_below slots n a is) alone
    (λ m ne y at e. ne (alone m n y a at is (e ∙ same)))

pub alone_less : (slots : Slots) (n : ℕ) → n < length slots → AreAlone slots → AreAlone (set slots n None)
alone_less slots n h alone i j y z at at' =
    alone i j y z (there i y at) (there j z at')
  where
    there : (k : ℕ) (w : Learned) → slot_at (set slots n None) k ≡ Some w → slot_at slots k ≡ Some w
    there k w = at_each (λ k u. u ≡ Some w → slot_at slots k ≡ Some w) slots n None None h (λ e. absurd (none-some w e))
        (λ k ne e. e) k

-- ---- how many

pub count_set : (slots : Slots) (n : ℕ) (v : Option Learned) → n < length slots
    → count_by is_some (set slots n v) + cond (is_some (slot_at slots n)) 1 0 ≡ count_by is_some slots
    + cond (is_some v) 1 0
count_set slots n v h = sum_by-set (λ (o : Option Learned). cond (is_some o) 1 0) slots n v None h
