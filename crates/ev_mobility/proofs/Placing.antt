-- The tree of places is what callers see of it.
use Rattle.std.proofs.Common.{◌≡◌, ℕ, Bool, true, false, cond, ◌||◌, Option, Some, None, Result, Ok, Err, List, [], ◌∷◌}
use Rattle.std.proofs.Common.{refl, sym, ap, subst, ◌∙◌}
use Rattle.std.specs.Prelude.{IsSome, OnOk, OnErr, IfOk}
use Rattle.std.specs.Option.{is_some}
use Rattle.std.specs.Ordering.{eq_by_cmp}
use Rattle.std.specs.Cmp.{eq_by_cmp_equiv}
use Rattle.std.specs.BTreeMap.{is_at}
use Rattle.std.specs.Map.{lookup, keys_of}
use Rattle.std.specs.FinMap.{FinMap, get, insert, remove, get-insert, get-remove, get-empty, same_map}
use Rattle.mac_arena.specs.declared.station.Station.{Station}
use Rattle.mac_arena.specs.Station.{station_cmp, is_same}
use Rattle.mac_arena.proofs.Entries.{station_total, station_exact, same_true, same_self}
use Rattle.ev_mobility.specs.declared.window.Window.{Window}
use Rattle.ev_mobility.specs.Moves.{Moves, ArePlaced, has_place, window_at, after_note, after_thaw, with_window}
use Rattle.ev_mobility.specs.Moves.{windows_of, moves_of}
use Rattle.ev_mobility.specs.Window.{after_move}

abbrev pub Places : Type 0
Places = List (Station × Option Window)

abbrev pub find : Places → Station → Option (Option Window)
find es s = lookup (is_at (station_cmp s)) es

-- the window of a station, if it has a place and has moved
abbrev pub joined : Option (Option Window) → Option Window
joined None = None
joined (Some w) = w

window_put : (m : FinMap station_cmp Window) (k : Station) (w : Option Window) (q : Station)
    → get (with_window m k w) q ≡ cond (eq_by_cmp station_cmp q k) w (get m q)
window_put m k None q = get-remove station_total m k q
window_put m k (Some w) q = get-insert station_total m k w q

joined_cond : (b : Bool) (w : Option Window) (o : Option (Option Window))
    → cond b w (joined o) ≡ joined (cond b (Some w) o)
joined_cond true w o = refl
joined_cond false w o = refl

pub window_found : (es : Places) (q : Station) → get (windows_of es) q ≡ joined (find es q)
window_found [] q = get-empty {X = Window} station_cmp q
window_found (e ∷ es) q =
    window_put (windows_of es) e.0 e.1 q ∙ ap (cond (eq_by_cmp station_cmp q e.0) e.1) (window_found es q)
    ∙ joined_cond (eq_by_cmp station_cmp q e.0) e.1 (find es q)

some_cond : (b : Bool) (w : Option Window) (o : Option (Option Window)) → b || is_some o ≡ is_some (cond b (Some w) o)
some_cond true w o = refl
some_cond false w o = refl

pub place_found : (es : Places) (q : Station) → has_place (moves_of es) q ≡ is_some (find es q)
place_found [] q = refl
place_found (e ∷ es) q = ap (λ b. is_same q e.0 || b) (place_found es q) ∙ some_cond (is_same q e.0) e.1 (find es q)

-- a station with a window has a place
pub all_placed : (es : Places) → ArePlaced (moves_of es)
all_placed es q window = place_found es q ∙ found (find es q) (subst IsSome (window_found es q) window)
  where
    found : (o : Option (Option Window)) → IsSome (joined o) → is_some o ≡ true
    found None h = cc
    found (Some w) h = refl

-- no place, and yet one
pub never_placed : (es : Places) (m : Moves) (q : Station) (b : Bool) → moves_of es ≡ m → b ≡ is_some (find es q)
    → b ≡ false → has_place m q ≡ true → ⊥
never_placed es m q b view found absent has =
    let there : is_some (find es q) ≡ true = sym (place_found es q) ∙ ap (λ n. has_place n q) view ∙ has in cc

-- ---- a station's entry is set

abbrev pub Sets : Places → Places → Station → Option Window → Type 0
Sets es es' k w = (q : Station) → find es' q ≡ cond (is_at (station_cmp k) q) (Some w) (find es q)

turned : (k q : Station) → eq_by_cmp station_cmp k q ≡ eq_by_cmp station_cmp q k
turned k q = (eq_by_cmp_equiv station_total).symm k q

pub windows_set : (es es' : Places) (k : Station) (w : Option Window) → Sets es es' k w
    → windows_of es' ≡ with_window (windows_of es) k w
windows_set es es' k w sets = same_map station_total station_exact (windows_of es') (with_window (windows_of es) k w)
    (λ q. window_found es' q ∙ ap joined (sets q) ∙ sym (joined_cond (eq_by_cmp station_cmp k q) w (find es q))
    ∙ (λ i. cond (turned k q i) w (sym (window_found es q) i)) ∙ sym (window_put (windows_of es) k w q))

-- a new place without a window changes no window
pub room_windows : (es es' : Places) (k : Station) → find es k ≡ None → Sets es es' k None
    → windows_of es' ≡ windows_of es
room_windows es es' k none sets = same_map station_total station_exact (windows_of es') (windows_of es)
    (λ q. window_found es' q ∙ ap joined (sets q) ∙ pick q (eq_by_cmp station_cmp k q) refl ∙ sym (window_found es q))
  where
    pick : (q : Station) (b : Bool) → eq_by_cmp station_cmp k q ≡ b
        → joined (cond b (Some None) (find es q)) ≡ joined (find es q)
    pick q true e = sym (ap (λ s. joined (find es s)) (sym (same_true k q e)) ∙ ap joined none)
    pick q false e = refl

pub room_made : (es es' : Places) (k : Station) → Sets es es' k None → has_place (moves_of es') k ≡ true
room_made es es' k sets = place_found es' k ∙ ap is_some (sets k)
    ∙ ap (λ b. is_some (cond b (Some None) (find es k))) (same_self k)

pub room_kept : (es es' : Places) (k : Station) → Sets es es' k None → (q : Station) → has_place (moves_of es) q ≡ true
    → has_place (moves_of es') q ≡ true
room_kept es es' k sets q has = place_found es' q ∙ ap is_some (sets q)
    ∙ still (eq_by_cmp station_cmp k q) (find es q) (sym (place_found es q) ∙ has)
  where
    still : (b : Bool) (o : Option (Option Window)) → is_some o ≡ true → is_some (cond b (Some None) o) ≡ true
    still true o h = refl
    still false o h = h

-- ---- an entry that is there is set without a refusal

some_not_none : {X : Type 0} (o : Option X) → is_some o ≡ true → o ≡ None → ⊥
some_not_none None h e = cc
some_not_none (Some x) h e = cc

to_some : {X : Type 0} (o : Option X) → is_some o ≡ true → IsSome o
to_some None h = cc
to_some (Some x) h = refl

pub set_there : {X E : Type 0} (r : Result (Option X) E) (there : Option X) (P : Type 0) → OnOk r P
    → OnErr r (there ≡ None) → is_some there ≡ true → P
set_there (Ok x) there P p absent h = p
set_there (Err e) there P p absent h = absurd (some_not_none there h absent)

pub keys_there : {X E : Type 0} (r : Result (Option X) E) (there : Option X) (P : Type 0) → IfOk r (λ old. old ≡ there)
    → IfOk r (λ old. IsSome old → P) → OnErr r (there ≡ None) → is_some there ≡ true → P
keys_there (Ok x) there P is stay absent h = stay (to_some x (ap is_some is ∙ h))
keys_there (Err e) there P is stay absent h = absurd (some_not_none there h absent)

pub to_none : {X : Type 0} (o : Option X) → is_some o ≡ false → o ≡ None
to_none None h = refl
to_none (Some x) h = cc

-- ---- noted and thawed stations

pub noted : (es es' : Places) (m : Moves) (k : Station) (w : Window) (second : ℕ) → moves_of es ≡ m
    → Sets es es' k (Some w) → keys_of es' ≡ keys_of es → w ≡ after_move (window_at m k) second
    → moves_of es' ≡ after_note m k second
noted es es' m k w second view sets keys is = subst (λ n. w ≡ after_move (window_at n k) second
    → moves_of es' ≡ after_note n k second) view
    (λ same i. record {
      windows = (windows_set es es' k (Some w) sets ∙ ap (insert (windows_of es) k) same) i;
      places = keys i;
    }) is

pub thawed : (es es' : Places) (m : Moves) (k : Station) → moves_of es ≡ m → Sets es es' k None
    → keys_of es' ≡ keys_of es → moves_of es' ≡ after_thaw m k
thawed es es' m k view sets keys = subst (λ n. moves_of es' ≡ after_thaw n k) view
    (λ i. record { windows = windows_set es es' k None sets i; places = keys i })

pub nothing_thawed : (es : Places) (m : Moves) (k : Station) → moves_of es ≡ m → find es k ≡ None → m ≡ after_thaw m k
nothing_thawed es m k view none = subst (λ n. n ≡ after_thaw n k) view
    (λ i. record { windows = same i; places = keys_of es })
  where
    pick : (q : Station) (b : Bool) → eq_by_cmp station_cmp q k ≡ b
        → get (windows_of es) q ≡ cond b None (get (windows_of es) q)
    pick q true e = window_found es q ∙ ap (λ s. joined (find es s)) (same_true q k e) ∙ ap joined none
    pick q false e = refl

    same : windows_of es ≡ remove (windows_of es) k
    same = same_map station_total station_exact (windows_of es) (remove (windows_of es) k)
        (λ q. pick q (eq_by_cmp station_cmp q k) refl ∙ sym (get-remove station_total (windows_of es) k q))
