-- How many stations go by a flush, and by age after it: each once, and no more than are learnt.
use Rattle.std.proofs.Common.{◌≡◌, ℕ, ◌+◌, ◌≤◌, Bool, true, false, cond, Option, Some, None, List, ◌++◌, length, refl}
use Rattle.std.proofs.Common.{sym, ap, ◌∙◌, arith}
use Rattle.std.specs.Prelude.{IsSome}
use Rattle.std.proofs.lemmas.List.{length-append}
use Rattle.ether_wire.specs.Ports.{ports_of}
use Rattle.mac_arena.specs.declared.station.Station.{Station}
use Rattle.mac_arena.specs.declared.station.Entry.{Entry}
use Rattle.mac_arena.specs.Learning.{Learning, entry_at}
use Rattle.mac_arena.specs.ListsName.{ListsName, stands, AreOnce}
use Rattle.mac_arena.proofs.Going.{due_exact}
use Rattle.ev_claims.specs.LocalRoutes.{LocalRoutes, KeepsRoutes, AreGood, entries, after_removals}
use Rattle.ev_claims.specs.Leaving.{due_in, flushed_in, after_flush, after_ageing, goes_by_age, goes_by_flush}
use Rattle.ev_claims.proofs.Lists.{named, removals_named}
use Rattle.ev_claims.proofs.Flushing.{removals_joined}
use Rattle.ev_claims.proofs.Changed.{once_joined, due_once, flushed_exact, flushed_once, ports_climb, removals_entries}
use Rattle.ev_claims.proofs.Sayings.{removals_size}

-- these stations go, each once, and all were learnt
pub record Leaves (e e' : LocalRoutes) : Type 0 where
  pub stations : List Station
  pub are : e' ≡ after_removals e stations
  pub once : AreOnce stations
  pub few : length stations ≤ entries e

-- a station that a test finds is there
known_by : (test : Option Entry → Bool) (o : Option Entry) → test None ≡ false → test o ≡ true → IsSome o
known_by test None none h = cc
known_by test (Some x) none h = refl

-- ---- by a flush

pub flush_known : (e : LocalRoutes) (set : ℕ) → KeepsRoutes e → ListsName e.learned → (s : Station)
    → stands (flushed_in e.learned set) s ≡ true → IsSome (entry_at e.learned s)
flush_known e set h lists s in' = known_by (goes_by_flush set) (entry_at e.learned s) refl
    (sym (flushed_exact set h lists s) ∙ in')

flush_once : {e : LocalRoutes} (set : ℕ) → AreGood e → AreOnce (flushed_in e.learned set)
flush_once {e} set h = flushed_once e.learned h.lists 0 (ports_of set) (ports_climb set)

flush_size : {e : LocalRoutes} (set : ℕ) → AreGood e
    → entries (after_flush e set) + length (flushed_in e.learned set) ≡ entries e
flush_size {e} set h = removals_size e (flushed_in e.learned set) (flush_once set h)
    (flush_known e set h.routes h.lists)

pub flush_leaves : (e : LocalRoutes) (set : ℕ) → AreGood e → Leaves e (after_flush e set)
flush_leaves e set h = record {
  stations = flushed_in e.learned set;
  are = refl;
  once = flush_once set h;
  few = omega (arith, flush_size set h);
}

-- ---- by age

pub age_known : (t : Learning) (limit : ℕ) → ListsName t → (s : Station) → stands (due_in t limit) s ≡ true
    → IsSome (entry_at t s)
age_known t limit lists s in' = known_by (goes_by_age limit) (entry_at t s) refl (sym (due_exact t limit lists s) ∙ in')

pub second_leaves : (e : LocalRoutes) (set limit : ℕ) → AreGood e → Leaves e (after_ageing (after_flush e set) limit)
second_leaves e set limit h = record {
  stations = flushed_in e.learned set ++ due_in t limit;
  are = sym (removals_joined e (flushed_in e.learned set) (due_in t limit));
  once = once_joined (flushed_in e.learned set) (due_in t limit) (flush_once set h) due not_both;
  few = omega (
    arith,
    flush_size set h,
    removals_size (after_flush e set) (due_in t limit) due (age_known t limit lists),
    length-append (flushed_in e.learned set) (due_in t limit),
  );
}
  where
    t : Learning
    t = (after_flush e set).learned

    lists : ListsName (after_flush e set).learned
    lists = (removals_named e (flushed_in e.learned set) (named e h.routes h.lists)).lists

    due : AreOnce (due_in (after_flush e set).learned limit)
    due = due_once t limit t.ageing lists.ageing_once

    not_both : (s : Station) → stands (flushed_in e.learned set) s ≡ true
        → stands (due_in (after_flush e set).learned limit) s ≡ false
    not_both s first =
        due_exact t limit lists s ∙ rw (removals_entries e (flushed_in e.learned set) s
        ∙ ap (λ b. cond b None (entry_at e.learned s)) first)
