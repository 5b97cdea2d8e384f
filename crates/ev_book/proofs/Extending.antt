-- The exchange that adds an entry keeps the rule.
use Rattle.std.proofs.Common.{MatchBool, ◌≡◌, ◌≢◌, ℕ, ◌+◌, ◌<◌, ◌==◌, Bool, true, false, List, [], ◌∷◌, ◌++◌, length}
use Rattle.std.proofs.Common.{refl, ap, sym, ◌∙◌, subst, arith, inl, length-append, None, Contains, slice_index_or}
use Rattle.std.proofs.Common.{slice_set, replicate}
use Rattle.std.proofs.lemmas.List.{append-nil, get_or-set_same, get_or-set_other, length-set, get_or-replicate}
use Rattle.std.proofs.lemmas.List.{length-replicate}
use Rattle.std.proofs.lemmas.Bool.Decides.{nat_tests}
use Rattle.std.specs.Bool.{OnTrue}
use mathlib.Core.List.{IsPrefix}
use prog.Atomic.{either}
use Rattle.logbook.specs.Pages.{Cell, cell, keeps, no_nib, step, Moves, Goes}
use Rattle.ev_edge.specs.Edge.{Edge}
use Rattle.ev_edge.specs.declared.config.EdgeConfig.{EdgeConfig}
use Rattle.ev_book.specs.declared.log_entry.Deed.{Deed}
use Rattle.ev_book.specs.declared.log_entry.LogEntry.{LogEntry}
use Rattle.ev_book.specs.declared.log_entry.LogEntry.TheVariants.{Begins, Does}
use Rattle.ev_book.specs.Log.{World, IsHistory, Follows, AreLegal, world, end_of, world_after, count, is_of, is_one}
use Rattle.ev_book.specs.Rule.{IsAdded, told}
use Rattle.ev_book.specs.Inner.Rule.{IsKept, IsLater, Adds, Looks}
use Rattle.ev_book.proofs.Prefixes.{prefix_trans}
use Rattle.ev_book.proofs.Histories.{count-append, history-append, world-append, later_end, follows_later}
use Rattle.ev_book.proofs.Histories.{configs_end, pool_end, outside_same}

abbrev pub shown : List LogEntry → List LogEntry
shown log = []

abbrev pub moved : List LogEntry → List LogEntry → ℕ → Type 0
moved xs ys n = Unit {0}

-- a later world, for the updates of another one
later_told : (place : ℕ) (v x log : List LogEntry) → IsHistory v → IsHistory x → IsPrefix v log → IsPrefix x log
    → count place log ≡ count place v → IsLater place (told (world v) (world x)) (world log)
later_told place v x log hv hx pv px same =
    let none : count place pv.0 ≡ 0 = omega (arith, same, ap (count place) pv.1, count-append place v pv.0) in
    let on : IsLater place (world v) (world log) =
    subst (λ z. IsLater place (world v) z) (sym (world-append v pv.0 hv) ∙ ap world pv.1)
    (later_end place (world v) pv.0 none) in
    record {
      outside = outside_same x log hx px;
      configs = on.configs;
      edge = on.edge;
      pool = λ u h. subst (λ (z : World). Contains z.pool u) (sym (world-append x px.0 hx) ∙ ap world px.1)
          (pool_end (world x) px.0 u h);
    }

-- ---- the words

-- the words, after one of them is set to its new count and no other count changes
words_after : (cs : List Cell) (place m : ℕ) (log new : List LogEntry) → place < length cs
    → ((n : ℕ) → n < length cs → cell cs n ≡ (count n log, true)) → count place new ≡ m
    → ((n : ℕ) → n ≢ place → count n new ≡ count n log)
    → (n : ℕ) → n < length (slice_set cs place (m, true)) → cell (slice_set cs place (m, true)) n ≡ (count n new, true)
words_after cs place m log new there words own others n lt = by_case (n == place) refl
  where
    by_case : (b : Bool) → (n == place) ≡ b → cell (slice_set cs place (m, true)) n ≡ (count n new, true)
    by_case true is =
        let same : n ≡ place = grind (arith, nat_tests) in
        subst (λ k. cell (slice_set cs place (m, true)) k ≡ (count k new, true)) (sym same)
        (get_or-set_same cs place (m, true) (0, false) there ∙ ap (λ k. (k, true)) (sym own))
    by_case false is =
        let other : n ≢ place = grind (arith, nat_tests) in
        get_or-set_other cs place n (m, true) (0, false) other ∙ words n
        (omega (arith, length-set cs place (m, true))) ∙ ap (λ k. (k, true)) (sym (others n other))

pub one_self : (n : ℕ) → is_one (n == n) ≡ 1
one_self n = by_case (n == n) refl
  where
    by_case : (b : Bool) → (n == n) ≡ b → is_one b ≡ 1
    by_case true is = refl
    by_case false is = absurd (grind (arith, nat_tests, is))

none_other : (n place : ℕ) → n ≢ place → is_one (place == n) ≡ 0
none_other n place other = by_case (place == n) refl
  where
    by_case : (b : Bool) → (place == n) ≡ b → is_one b ≡ 0
    by_case true is = absurd (other (grind (arith, nat_tests, is)))
    by_case false is = refl

seats_kept : (cs : List Cell) (place : ℕ) (c : Cell) (log more : List LogEntry) → IsKept cs log
    → length (slice_set cs place c) ≡ length (world (log ++ more)).configs
seats_kept cs place c log more kept =
    length-set cs place c ∙ kept.seats ∙ ap length
    (sym (ap (λ (z : World). z.configs) (world-append log more kept.legal) ∙ configs_end (world log) more))

-- ---- the step

module _ (v b x : List LogEntry) (place old : ℕ) (deed : Deed) (later : Edge) (hv : IsHistory v) (hx : IsHistory x)
    (pv : IsPrefix v b) (px : IsPrefix x b)
    (had : count place v ≡ old) (seated : place < length (world v).configs)
    (follows : Follows (told (world v) (world x)) (Does place deed later)) where
  abbrev entry : LogEntry
  entry = Does place deed later

  goes : (cs : List Cell) (log : List LogEntry) → IsKept cs log → IsPrefix b log → place < length cs
      → (cell cs place).0 ≡ count place log
      → (found : Bool) → ((cell cs place).0 == old) ≡ found
      → Goes IsKept shown moved place (b, (no_nib, None)) (λ n. either (n == old) (old + 1) n)
      (Adds (step place old (old + 1) entry) (b, (no_nib, None))) cs log
  goes cs log kept pre there counted true is =
      let same : count place log ≡ count place v = grind (arith, nat_tests, counted, is, had) in
      let on = later_told place v x log hv hx (prefix_trans v b log pv pre) (prefix_trans x b log px pre) same in
      let legal : IsHistory (log ++ entry ∷ []) = history-append log (entry ∷ []) kept.legal
      (follows_later place (told (world v) (world x)) (world log) deed later on follows, tt) in
      let n : either ((cell cs place).0 == old) (old + 1) (cell cs place).0 ≡ old + 1 = rw is refl in (
        keeps,
        entry ∷ [],
        None,
        tt,
        rw n (record {
          words = words_after cs place (old + 1) log (log ++ entry ∷ []) there kept.words
              (omega (arith, one_self place, count-append place log (entry ∷ []), same, had))
              (λ k other. omega (arith, none_other k place other, count-append k log (entry ∷ [])));
          seats = seats_kept cs place (old + 1, true) log (entry ∷ []) kept;
          legal = legal;
        }),
        inl (refl, refl),
        rw is (record { log = log; was = kept.legal; begins = pre; had = same ∙ had; new_is = refl; legal = legal }),
      )
  goes cs log kept pre there counted false is =
      let all : log ++ [] ≡ log = append-nil log in
      let m = (cell cs place).0 in
      let n : either (m == old) (old + 1) m ≡ m = rw is refl in (
        keeps,
        [],
        None,
        tt,
        rw n (record {
          words = words_after cs place m log (log ++ []) there kept.words (ap (count place) all ∙ sym counted)
              (λ k other. ap (count k) all);
          seats = seats_kept cs place (m, true) log [] kept;
          legal = subst IsHistory (sym all) kept.legal;
        }),
        inl (refl, refl),
        rw is (subst IsHistory (sym all) kept.legal),
      )

  -- for each log, the exchange adds the entry, or finds that the edge has had more entries
  pub adds_moves : Moves IsKept shown moved place (b, (no_nib, None)) (λ n. either (n == old) (old + 1) n)
      (Adds (step place old (old + 1) entry) (b, (no_nib, None)))
  adds_moves cs log kept pre away =
      let on = prefix_trans v b log pv pre in
      let configs : (world log).configs ≡ (world v).configs = ap (λ (z : World). z.configs)
      (sym (ap world on.1) ∙ world-append v on.0 hv) ∙ configs_end (world v) on.0 in
      let there : place < length cs = omega (arith, seated, kept.seats, ap length configs) in
      let word = kept.words place there in (
        there,
        ap (λ (c : Cell). c.1) word,
        goes cs log kept pre there (ap (λ (c : Cell). c.0) word) ((cell cs place).0 == old) refl,
      )

-- of a shorter beginning, too
pub added_back : (v b new : List LogEntry) (place old : ℕ) (e : LogEntry) → IsPrefix v b → count place v ≡ old
    → IsAdded place old b e new → IsAdded place (count place v) v e new
added_back v b new place old e pre had added = record {
  log = added.log;
  was = added.was;
  begins = prefix_trans v b added.log pre added.begins;
  had = added.had ∙ sym had;
  new_is = added.new_is;
  legal = added.legal;
}

-- ---- the step that looks

module _ (x : List LogEntry) (place : ℕ) (ask : LogEntry) (hx : IsHistory x)
    (seated : place < length (world x).configs) where
  looks_goes : (cs : List Cell) (log : List LogEntry) → IsKept cs log → place < length cs
      → (cell cs place).0 ≡ count place log
      → Goes IsKept shown moved place (x, (no_nib, None)) (λ n. n) (Looks (step place 0 0 ask) (x, (no_nib, None)))
      cs log
  looks_goes cs log kept there counted =
      let all : log ++ [] ≡ log = append-nil log in
      let m = (cell cs place).0 in (
        keeps,
        [],
        None,
        tt,
        record {
          words = words_after cs place m log (log ++ []) there kept.words (ap (count place) all ∙ sym counted)
              (λ k other. ap (count k) all);
          seats = seats_kept cs place (m, true) log [] kept;
          legal = subst IsHistory (sym all) kept.legal;
        },
        inl (refl, refl),
        (ap (count place) all ∙ sym counted, subst IsHistory (sym all) kept.legal),
      )

  pub looks_moves : Moves IsKept shown moved place (x, (no_nib, None)) (λ n. n)
      (Looks (step place 0 0 ask) (x, (no_nib, None)))
  looks_moves cs log kept pre away =
      let configs : (world log).configs ≡ (world x).configs = ap (λ (z : World). z.configs)
      (sym (ap world pre.1) ∙ world-append x pre.0 hx) ∙ configs_end (world x) pre.0 in
      let there : place < length cs = omega (arith, seated, kept.seats, ap length configs) in
      let word = kept.words place there in
      (there, ap (λ (c : Cell). c.1) word, looks_goes cs log kept there (ap (λ (c : Cell). c.0) word))

-- ---- the first log

pub first_kept : (outside : Bool) (configs : List EdgeConfig) (n : ℕ) → n ≡ length configs
    → IsKept (replicate n (0, true)) (Begins outside configs ∷ [])
first_kept outside configs n len = record {
  words = λ k lt. get_or-replicate {A = Cell} n k (0, true) (0, false)
      (omega (arith, length-replicate {A = Cell} n (0, true)));
  seats = length-replicate {A = Cell} n (0, true) ∙ len;
  legal = tt;
}

-- if a word holds the known number of entries, there are no more
pub whole_if : (place entries found : ℕ) (v x log : List LogEntry) → IsPrefix v x → IsPrefix x log
    → entries ≡ count place v → count place log ≡ found
    → OnTrue (found == entries) (count place x ≡ count place v)
whole_if place entries found v x log p q had counted = by_case (found == entries) refl
  where
    by_case : (b : Bool) → (found == entries) ≡ b → OnTrue b (count place x ≡ count place v)
    by_case true is =
        let same : found ≡ entries = grind (arith, nat_tests, is) in
        omega (
          arith,
          same,
          had,
          counted,
          ap (count place) p.1,
          ap (count place) q.1,
          count-append place v p.0,
          count-append place x q.0,
        )
    by_case false is = tt

pub taken_if : {P : Type 0} (Q : Type 0) (found entries : ℕ) → found ≡ entries → MatchBool (found == entries) P Q → P
taken_if {P} Q found entries same h = by_case (found == entries) refl h
  where
    by_case : (b : Bool) → (found == entries) ≡ b → MatchBool b P Q → P
    by_case true is h = h
    by_case false is h = absurd (grind (arith, nat_tests, is, same))
