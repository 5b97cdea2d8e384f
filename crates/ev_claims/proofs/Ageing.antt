-- The stations that are due go one after another, from the front of the ageing list.
use Rattle.std.proofs.Common.{◌≡◌, ℕ, Bool, true, false, cond, Option, Some, None, List, [], ◌∷◌, refl}
use Rattle.std.specs.Prelude.{slice_get}
use Rattle.mac_arena.specs.declared.station.Station.{Station}
use Rattle.mac_arena.specs.declared.station.Entry.{Entry}
use Rattle.mac_arena.specs.Learning.{Learning, entry_at}
use Rattle.mac_arena.specs.Laws.{is_due, due_among}
use Rattle.ev_claims.specs.Leaving.{due_in}

-- ---- the first station of the ageing list
pub front_none : (t : Learning) (limit : ℕ) → None ≡ slice_get t.ageing 0 → None ≡ slice_get (due_in t limit) 0
front_none t limit e = go t.ageing e
  where
    go : (ss : List Station) → None ≡ slice_get ss 0 → None ≡ slice_get (due_among t limit ss) 0
    go [] e = e
    go (x ∷ xs) e = cc

pub front_is : (t : Learning) (limit : ℕ) {s : Station} {o : Option Entry} → Some s ≡ slice_get t.ageing 0
    → o ≡ entry_at t s → (b : Bool) → is_due limit o ≡ b → cond b (Some s) None ≡ slice_get (due_in t limit) 0
front_is t limit {s} e is b due = go t.ageing e
  where
    go : (ss : List Station) → Some s ≡ slice_get ss 0 → cond b (Some s) None ≡ slice_get (due_among t limit ss) 0
    go [] e = cc
    go (x ∷ xs) e = let same : s ≡ x = cc in
        rw (← same, ← is, due) (first b)
      where
        first : (b : Bool) → cond b (Some s) None ≡ slice_get (cond b (s ∷ due_among t limit xs) []) 0
        first true = refl
        first false = refl
