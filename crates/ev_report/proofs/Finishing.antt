-- The content of a report's devices at its end, and its status.
use Rattle.std.proofs.Common.{◌≡◌, ◌≢◌, ◌⊎◌, inl, inr, ℕ, ◌+◌, Bool, true, false, cond, not, ◌&&◌, ◌||◌, List, []}
use Rattle.std.proofs.Common.{length, Result, Ok, Err, is_ok, refl, sym, ap, subst, ◌∙◌, arith}
use Rattle.std.proofs.lemmas.Bool.Decides.{nat_tests}
use Rattle.ether_wire.specs.declared.ends.Device.{Device}
use Rattle.ether_wire.specs.Ends.{End, Source, IsOpen, Puts}
use Rattle.route_wire.specs.Stream.{whole_up_to}
use Rattle.route_wire.specs.Record.{AnswersUpTo}
use Rattle.route_wire.specs.Feed.{HasRead, shown}
use Rattle.route_wire.proofs.Cuttings.{read_whole_stream}
use Rattle.route_join.specs.Table.{Table, IsTableOf}
use Rattle.ev_report.specs.declared.ending.Ending.{Ending}
use Rattle.ev_report.specs.declared.stream.Intake.{Intake}
use Rattle.ev_report.specs.Notes.{refusals_from, end_note, notes_of, has_stopped, is_broken, ran_out_of_memory}
use Rattle.ev_report.specs.Notes.{status_of}
use Rattle.ev_report.specs.Ends.{Devices, devices, has_failed, fault_in, Gave, Holds, Tells, Finishes, Passes}
use Rattle.ev_report.specs.Report.{taken_of, Output, Renders}
use Rattle.ev_report.specs.Inner.Progressing.{state, new_intake, TakesInput}
use Rattle.ev_report.proofs.Taking.{tells_more, table_of_all}
use Rattle.ev_report.proofs.Feeding.{same_note, same_broken}
use Rattle.ev_report.specs.declared.status.Status.{Status}
use Rattle.ev_report.specs.declared.status.Status.TheVariants as statuses

-- ---- one call after the other

pub tells_holds : (a b : End) (q : Bool) (t : List ℕ) → IsOpen a → Tells a b true q t → Holds a b t
tells_holds a b true t room h = record {
  written = λ _. h.written refl;
  failures = inl (ap (λ (x : End). x.failures) (h.written refl));
}
tells_holds a b false t room h = let one = h.failed refl refl room in
    record { written = λ e. absurd (omega arith); failures = inr one }

pub tells_failed : (a b : End) (q : Bool) (t : List ℕ) → IsOpen a → Tells a b true q t → has_failed a b ≡ not q
tells_failed a b true t room h = let none : b.failures ≡ a.failures = ap (λ (x : End). x.failures) (h.written refl) in
    grind (arith, nat_tests)
tells_failed a b false t room h = let one = h.failed refl refl room in grind (arith, nat_tests)

pub put_holds : (a b : End) (r : Result (Unit {0}) Device) (text : List ℕ) → IsOpen a → Puts a b text r → Holds a b text
put_holds a b (Ok x) text room h = record { written = λ _. h; failures = inl (ap (λ (x : End). x.failures) h) }
put_holds a b (Err e) text room h = let one = h room in
    record { written = λ same. absurd (omega arith); failures = inr one }

pub put_failed : (a b : End) (r : Result (Unit {0}) Device) (text : List ℕ) → IsOpen a → Puts a b text r
    → has_failed a b ≡ not (is_ok r)
put_failed a b (Ok x) text room h = let same : b.failures ≡ a.failures = ap (λ (x : End). x.failures) h in
    grind (arith, nat_tests)
put_failed a b (Err e) text room h = let one = h room in grind (arith, nat_tests)

-- ---- the whole stream

same_status : (e p q x y s t k l : Bool) → x ≡ not p → y ≡ not q → s ≡ t → k ≡ l
    → status_of (e || (not p || not q)) s k ≡ status_of (e || (x || y)) t l
same_status e p q x y s t k l hx hy hs hk =
    ap (λ z. status_of (e || (z || not q)) s k) (sym hx) ∙ ap (λ z. status_of (e || (x || z)) s k) (sym hy)
    ∙ ap (λ z. status_of (e || (x || y)) z k) hs ∙ ap (λ z. status_of (e || (x || y)) t z) hk

-- the records of a reader were taken, the end was noted, and the output written
module _ (newest : ℕ) (output : Output) (originators : List ℕ) (reader reader' : Source)
    (out out' notes mid notes' : End) (intake last : Intake) (ending : Ending) where
  pub renders : (i : TakesInput newest ending reader reader' (state (new_intake newest originators) notes)
      (state intake mid)) → last ≡ record intake { is_told = last.is_told }
      → Tells mid notes' intake.is_told last.is_told (end_note ending (intake.count + 1) intake.feed.rest)
      → (r : Result (Unit {0}) Device) → (text : List ℕ) → IsOpen out → IsOpen notes → Puts out out' text r
      → text ≡ output ending i.octets.taken.outcomes last.table → (status : Status)
      → status ≡ status_of (has_stopped ending || (not (is_ok r) || not last.is_told)) last.is_out_of_memory
      (is_broken ending intake.feed.rest)
      → Renders newest output originators (devices reader out notes) (devices reader' out' notes') status
  renders i kept told r text out_open notes_open put makes status is =
      let o = i.octets in
      let outcomes = o.taken.outcomes in
      let first : HasRead (new_intake newest originators).feed [] [] =
      record { skipped = []; reads = refl; faulty = λ _. refl } in
      let found = read_whole_stream intake.feed i.input o.answers (o.read [] [] first) i.none_held in
      let rest = found.0 in
      let shows : whole_up_to newest rest ≡ shown intake.feed = ap (λ v. whole_up_to v rest) (sym o.version)
      ∙ found.2 in
      let number : intake.count ≡ length outcomes = o.taken.counts.count ∙ grind arith in
      let same = same_note (shown intake.feed) rest intake.feed.rest i.none_held found.3 ending (length outcomes + 1)
      i.shows in
      let all : Tells notes notes' true last.is_told (notes_of outcomes ending rest) =
      tells_more notes mid notes' true intake.is_told last.is_told (refusals_from 1 outcomes)
      (end_note ending (length outcomes + 1) rest) o.taken.counts.told
      (subst (λ text. Tells mid notes' intake.is_told last.is_told text) same
      (subst (λ n. Tells mid notes' intake.is_told last.is_told (end_note ending (n + 1) intake.feed.rest)) number
      told)) in
      let table_is : last.table ≡ intake.table = ap (λ (x : Intake). x.table) kept in
      record {
        input = i.input;
        ending = ending;
        outcomes = outcomes;
        rest = rest;
        table = last.table;
        gave = i.gave;
        shows = i.shows ∙ ap fault_in (sym shows);
        taken = record {
          answers = o.answers;
          answered = subst (λ v. AnswersUpTo v i.input o.answers rest) o.version found.1;
          became = o.taken.became;
          table_of = subst (λ (x : Table). IsTableOf (taken_of outcomes) x) (sym (table_is ∙ o.taken.table_is))
              (table_of_all originators outcomes);
        };
        written = subst (λ (x : List ℕ). Holds out out' x) makes (put_holds out out' r text out_open put);
        noted = tells_holds notes notes' last.is_told (notes_of outcomes ending rest) notes_open all;
        status_is = is ∙ same_status (has_stopped ending) (is_ok r) last.is_told (has_failed out out')
            (has_failed notes notes') last.is_out_of_memory (ran_out_of_memory outcomes)
            (is_broken ending intake.feed.rest)
            (is_broken ending rest)
            (put_failed out out' r text out_open put)
            (tells_failed notes notes' last.is_told (notes_of outcomes ending rest) notes_open all)
            (ap (λ (x : Intake). x.is_out_of_memory) kept ∙ o.taken.counts.out_of_memory)
            (same_broken (shown intake.feed) rest intake.feed.rest i.none_held found.3 ending i.shows);
      }

-- ---- writers that are given more at once

pub finish_holds : (a b c : End) (q : Bool) (t : List ℕ) → Holds a b t → Finishes a.failures b c q → Holds a c t
finish_holds a b c true t h f = let p = f.passed refl in
    record { written = λ _. p.0 ∙ h.written p.1; failures = inl (ap (λ (x : End). x.failures) p.0 ∙ p.1) }
finish_holds a b c false t h f = go (f.failed refl) h.failures
  where
    late : c.failures ≡ a.failures + 1 → Holds a c t
    late e = record { written = λ same. absurd (omega arith); failures = inr e }

    go : ((b.failures ≢ a.failures) × (c.failures ≡ b.failures))
        ⊎ ((b.failures ≡ a.failures) × (c.failures ≡ a.failures + 1))
        → (b.failures ≡ a.failures) ⊎ (b.failures ≡ a.failures + 1) → Holds a c t
    go (inl p) (inl e) = absurd (p.0 e)
    go (inl p) (inr e) = late (p.1 ∙ e)
    go (inr p) e = late p.1

pub finish_failed : (a b c : End) (q : Bool) (t : List ℕ) → Holds a b t → Finishes a.failures b c q
    → has_failed a c ≡ not q
finish_failed a b c true t h f =
    let p = f.passed refl in
    let same : c.failures ≡ a.failures = ap (λ (x : End). x.failures) p.0 ∙ p.1 in
    grind (arith, nat_tests)
finish_failed a b c false t h f = go (f.failed refl) h.failures
  where
    late : c.failures ≡ a.failures + 1 → has_failed a c ≡ true
    late e = grind (arith, nat_tests)

    go : ((b.failures ≢ a.failures) × (c.failures ≡ b.failures))
        ⊎ ((b.failures ≡ a.failures) × (c.failures ≡ a.failures + 1))
        → (b.failures ≡ a.failures) ⊎ (b.failures ≡ a.failures + 1) → has_failed a c ≡ true
    go (inl p) (inl e) = absurd (p.0 e)
    go (inl p) (inr e) = late (p.1 ∙ e)
    go (inr p) e = late p.1

pub finish_unfailed : (a b c : End) (q : Bool) → Finishes a.failures b c q → q ≡ true → has_failed a b ≡ false
finish_unfailed a b c q f e = let p = (f.passed e).1 in grind (arith, nat_tests)

pub last_status : (e p q s k x y : Bool) (status last : Status) → status ≡ status_of (e || (x || y)) s k
    → last ≡ cond (p && q) status statuses.Device → (p ≡ true → x ≡ false) → (q ≡ true → y ≡ false)
    → last ≡ status_of (e || (not p || not q)) s k
last_status false false q s k x y status last h l f g = l
last_status false true false s k x y status last h l f g = l
last_status false true true s k x y status last h l f g = l ∙ h ∙ ap (λ b. status_of (b || y) s k) (f refl)
    ∙ ap (λ b. status_of b s k) (g refl)
last_status true true true s k x y status last h l f g = l ∙ h
last_status true false q s k x y status last h l f g = l
last_status true true false s k x y status last h l f g = l

module _ (before held after : Devices) (status last : Status)
    (p : Passes before.out.failures before.notes.failures held after status last) where
  -- the earlier output is still there at the end, or a call has failed
  pub passed_out : (text : List ℕ) → Holds before.out held.out text → Holds before.out after.out text
  passed_out text h = finish_holds before.out held.out after.out p.is_written text h p.out

  pub passed_notes : (text : List ℕ) → Holds before.notes held.notes text → Holds before.notes after.notes text
  passed_notes text h = finish_holds before.notes held.notes after.notes p.is_noted text h p.notes

  -- the status, of what else may have failed
  pub passed_status : (e out_of_memory broken : Bool) → has_failed before.out after.out ≡ not p.is_written
      → has_failed before.notes after.notes ≡ not p.is_noted
      → status ≡ status_of (e || (has_failed before.out held.out || has_failed before.notes held.notes)) out_of_memory
      broken
      → last ≡ status_of (e || (has_failed before.out after.out || has_failed before.notes after.notes)) out_of_memory
      broken
  passed_status e out_of_memory broken a b is =
      last_status e p.is_written p.is_noted out_of_memory broken (has_failed before.out held.out)
      (has_failed before.notes held.notes) status last is p.status_is
      (finish_unfailed before.out held.out after.out p.is_written p.out)
      (finish_unfailed before.notes held.notes after.notes p.is_noted p.notes)
      ∙ ap (λ x. status_of (e || (x || not p.is_noted)) out_of_memory broken) (sym a)
      ∙ ap (λ x. status_of (e || (has_failed before.out after.out || x)) out_of_memory broken) (sym b)

  pub failed_out : (text : List ℕ) → Holds before.out held.out text → has_failed before.out after.out ≡ not p.is_written
  failed_out text h = finish_failed before.out held.out after.out p.is_written text h p.out

  pub failed_notes : (text : List ℕ) → Holds before.notes held.notes text
      → has_failed before.notes after.notes ≡ not p.is_noted
  failed_notes text h = finish_failed before.notes held.notes after.notes p.is_noted text h p.notes

  pub passed_renders : (newest : ℕ) (output : Output) (originators : List ℕ)
      → Renders newest output originators before held status
      → Renders newest output originators before after last
  passed_renders newest output originators r =
      let text = output r.ending r.outcomes r.table in
      let lines = notes_of r.outcomes r.ending r.rest in
      record {
        input = r.input;
        ending = r.ending;
        outcomes = r.outcomes;
        rest = r.rest;
        table = r.table;
        gave = subst (λ (s : Source). Gave newest before.input s r.input r.ending) (sym p.input) r.gave;
        shows = r.shows;
        taken = r.taken;
        written = passed_out text r.written;
        noted = passed_notes lines r.noted;
        status_is = passed_status (has_stopped r.ending) (ran_out_of_memory r.outcomes) (is_broken r.ending r.rest)
            (failed_out text r.written) (failed_notes lines r.noted) r.status_is;
      }

-- output to buffering devices reaches the inner devices in the end
module _ (does : Devices → Devices → Status → Type 0)
    (lasts : (before held after : Devices) (status last : Status)
    → Passes before.out.failures before.notes.failures held after status last → does before held status
    → does before after last) where
  pub buffered : (before opened held after : Devices) (status last : Status) (m n : ℕ) → before ≡ opened
      → m ≡ before.out.failures
      → n ≡ before.notes.failures → does opened held status
      → Passes m n held after status last → does before after last
  buffered before opened held after status last m n opens out notes done p =
      lasts before held after status last
      (subst (λ x. Passes x before.notes.failures held after status last) out
      (subst (λ y. Passes m y held after status last) notes p))
      (subst (λ d. does d held status) (sym opens) done)
