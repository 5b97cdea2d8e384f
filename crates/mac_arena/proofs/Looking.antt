-- The effect of changes on a table's entries; no list is longer than the number of entries.
use Rattle.std.proofs.Common.{ℕ, ◌+◌, ◌≤◌, ◌≡◌, Bool, true, false, cond, Option, Some, None}
use Rattle.std.proofs.Common.{List, [], ◌∷◌, length, refl, ap, sym, ◌∙◌, arith}
use Rattle.std.specs.Prelude.{is_some}
use Rattle.std.specs.FinMap.{get, insert, remove, len}
use Rattle.std.proofs.lemmas.Bool.{false≢true, or_right, and_parts}
use Rattle.mac_arena.specs.declared.station.Station.{Station}
use Rattle.mac_arena.specs.declared.station.Entry.{Entry}
use Rattle.mac_arena.specs.declared.table.Learnt.{Learnt}
use Rattle.mac_arena.specs.declared.table.Learnt.TheVariants.{New, Moved, Refreshed, Pinned, Full}
use Rattle.mac_arena.specs.Station.{is_same}
use Rattle.mac_arena.specs.Entry.{pinned_at, heard_at}
use Rattle.mac_arena.specs.Learning.{Learning, entry_at, is_full, stations_at, learnt_of, answer_of, after_learn}
use Rattle.mac_arena.specs.Learning.{entered, after_pin, after_pin_at, after_removal, after_removal_at}
use Rattle.mac_arena.specs.ListsName.{ListsName, stands, AreOnce, is_on, ages}
use Rattle.mac_arena.specs.Laws.{ChangesEntry, entry_learnt, entry_pinned, known, more_learnt, more_pinned, fewer}
use Rattle.mac_arena.specs.Laws.{AreFew}
use Rattle.mac_arena.proofs.Entries.{Map, same_self, get_here, get_there, gone_here, gone_there, len_new, len_known}
use Rattle.mac_arena.proofs.Entries.{insert_gone}

-- ---- one entry

put_entry : (t : Learning) {t' : Learning} (s : Station) (e : Entry) → t'.entries ≡ insert t.entries s e
    → ChangesEntry t t' s (Some e)
put_entry t s e is = record {
  here = rw is (get_here t.entries s e);
  others = λ q ne. rw is (get_there t.entries s e q ne);
}

kept_entry : (t : Learning) (s : Station) → ChangesEntry t t s (entry_at t s)
kept_entry t s = record { here = refl; others = λ q ne. refl }

pub learn_entry : (t : Learning) (s : Station) (port second : ℕ) (answer : Learnt)
    → ChangesEntry t (after_learn t s port second answer) s (entry_learnt (entry_at t s) port second answer)
learn_entry t s port second New = put_entry t s (heard_at port second) refl
learn_entry t s port second Moved = put_entry t s (heard_at port second) refl
learn_entry t s port second Refreshed = put_entry t s (heard_at port second) refl
learn_entry t s port second Pinned = kept_entry t s
learn_entry t s port second Full = kept_entry t s

pub pin_entry : (t : Learning) (s : Station) (port : ℕ) → ChangesEntry t (after_pin t s port) s (entry_pinned t s port)
pin_entry t s port = go (entry_at t s) refl
  where
    new : (full : Bool) → entry_at t s ≡ None → ChangesEntry t (cond full t (entered t s port)) s
        (cond (cond full false true) (Some (pinned_at port)) None)
    new true none = rw none at (kept_entry t s)
    new false none = put_entry t s (pinned_at port) refl

    go : (o : Option Entry) → entry_at t s ≡ o → ChangesEntry t (after_pin_at t s port o) s
        (cond (cond (is_some o) true (cond (is_full t) false true)) (Some (pinned_at port)) None)
    go None is = new (is_full t) is
    go (Some e) is = put_entry t s (pinned_at port) refl

pub removal_entry : (t : Learning) (s : Station) → ChangesEntry t (after_removal t s) s None
removal_entry t s = go (entry_at t s) refl
  where
    go : (o : Option Entry) → entry_at t s ≡ o → ChangesEntry t (after_removal_at t s o) s None
    go None is = rw is at (kept_entry t s)
    go (Some e) is = record { here = gone_here t.entries s; others = gone_there t.entries s }

-- ---- how many are known

-- a known station is one of at least one
pub len_less : (m : Map) (s : Station) → is_some (get m s) ≡ true → len (remove m s) + 1 ≡ len m
len_less m s some = go (get m s) refl some
  where
    go : (o : Option Entry) → get m s ≡ o → is_some o ≡ true → len (remove m s) + 1 ≡ len m
    go None is h = absurd (false≢true h)
    go (Some e) is h = sym (len_new (remove m s) s e (gone_here m s)) ∙ ap len (insert_gone m s e is)

pub learn_size : (t : Learning) (s : Station) (port second : ℕ) (answer : Learnt) → answer ≡ learnt_of t s port
    → known (after_learn t s port second answer) ≡ known t + more_learnt answer
learn_size t s port second answer is = go (entry_at t s) refl answer is
  where
    none : known t ≡ known t + 0
    none = omega arith

    go : (o : Option Entry) → entry_at t s ≡ o → (answer : Learnt) → answer ≡ answer_of o (is_full t) port
        → known (after_learn t s port second answer) ≡ known t + more_learnt answer
    go None at New is = len_new t.entries s (heard_at port second) at
    go None at Moved is = grind (arith, is)
    go None at Refreshed is = grind (arith, is)
    go (Some e) at New is = grind (arith, is)
    go (Some e) at Moved is = len_known t.entries s (heard_at port second) e at ∙ none
    go (Some e) at Refreshed is = len_known t.entries s (heard_at port second) e at ∙ none
    go o at Pinned is = none
    go o at Full is = none

pub pin_size : (t : Learning) (s : Station) (port : ℕ) → known (after_pin t s port) ≡ known t + more_pinned t s
pin_size t s port = go (entry_at t s) refl
  where
    new : (full : Bool) → entry_at t s ≡ None → len (cond full t (entered t s port)).entries ≡ known t + cond full 0 1
    new true at = omega arith
    new false at = len_new t.entries s (pinned_at port) at

    go : (o : Option Entry) → entry_at t s ≡ o → known (after_pin_at t s port o) ≡ known t
        + cond (is_some o) 0 (cond (is_full t) 0 1)
    go None at = new (is_full t) at
    go (Some e) at = len_known t.entries s (pinned_at port) e at ∙ omega arith

pub removal_size : (t : Learning) (s : Station) → known (after_removal t s) + fewer t s ≡ known t
removal_size t s = go (entry_at t s) refl
  where
    go : (o : Option Entry) → entry_at t s ≡ o → known (after_removal_at t s o) + cond (is_some o) 1 0 ≡ known t
    go None at = omega arith
    go (Some e) at = len_less t.entries s (ap is_some at)

-- ---- lists of known stations

pub short : (xs : List Station) (m : Map) → AreOnce xs → ((s : Station) → stands xs s ≡ true → is_some (get m s) ≡ true)
    → length xs ≤ len m
short [] m once names = omega arith
short (x ∷ xs) m once names =
    let rest = short xs (remove m x) once.1 (λ s on.
    rw (gone_there m x s (λ same. false≢true (rw (same, once.0) at on)))
    (names s (or_right (is_same x s) (stands xs s) on))) in
    let less = len_less m x (names x (rw (same_self x))) in
    omega (arith, rest, less)

pub on_known : (o : Option Entry) (port : ℕ) → is_on o port ≡ true → is_some o ≡ true
on_known None port h = h
on_known (Some e) port h = refl

pub ages_known : (o : Option Entry) → ages o ≡ true → is_some o ≡ true
ages_known None h = h
ages_known (Some e) h = refl

pub few : (t : Learning) → ListsName t → AreFew t
few t lists = record {
  ageing = short t.ageing t.entries lists.ageing_once (λ s on. ages_known _ (sym (lists.ageing s) ∙ on));
  ports = λ l. short (stations_at t.ports l) t.entries (lists.ports_once l)
      (λ s on. on_known _ (l + 1) (sym (lists.ports l s) ∙ on));
  chains = λ b. short (stations_at t.chains b) t.entries (lists.chains_once b)
      (λ s on. (and_parts _ _ (sym (lists.chains b s) ∙ on)).0);
}
