-- Records one after the other, the octets that spell them, and the table of all that were taken.
use Rattle.std.proofs.Common.{◌≡◌, ◌↔◌, ◌⊎◌, inl, inr, ℕ, ◌+◌, Bool, true, false, ◌||◌, ◌==◌, List, [], ◌∷◌, ◌++◌, take}
use Rattle.std.proofs.Common.{drop, length, length-append, None, Result, Ok, Err, refl, sym, ap, subst, ◌∙◌}
use Rattle.std.proofs.Common.{append_assoc, arith}
use Rattle.std.proofs.Math.Seq.{take-length}
use Rattle.std.proofs.lemmas.List.{append-nil, take-append-drop}
use Rattle.std.specs.Prelude.{MatchBool}
use Rattle.ether_wire.specs.Ends.{End, IsOpen, with_text}
use Rattle.ether_wire.proofs.Appending.{with_text_twice, with_text_none}
use Rattle.route_wire.specs.declared.stream.Next.{Next}
use Rattle.route_wire.specs.declared.stream.Next.TheVariants.{More, Fault as Faulty}
use Rattle.route_wire.specs.declared.stream.Whole.TheVariants.{Rest, Fault}
use Rattle.route_wire.specs.Fields.{Fields}
use Rattle.route_wire.specs.Record.{is_length}
use Rattle.route_wire.specs.Feed.{Held, HasRead, TakesNext, added, is_fault, shown}
use Rattle.route_wire.proofs.Feeding.{read_skipping}
use Rattle.route_wire.proofs.Steps.{feeds_version}
use Rattle.route_join.specs.declared.table.Taken.{Taken}
use Rattle.route_join.specs.declared.table.TakeError.{TakeError}
use Rattle.route_join.specs.declared.table.TakeError.TheVariants.{UnknownOriginator, NoMemory}
use Rattle.route_join.specs.Taken.{number_of}
use Rattle.route_join.specs.Table.{Table, is_listed, value_at, with_update, with_updates, IsTableOf}
use Rattle.route_join.proofs.Edits.{new_table}
use Rattle.route_join.proofs.Joins.{all_taken, none_taken}
use Rattle.ev_report.specs.Notes.{refused_line, refusals_from, ran_out_of_memory}
use Rattle.ev_report.specs.Ends.{Tells}
use Rattle.ev_report.specs.Report.{Becomes, BecomeAll, table_after, taken_of, fresh}
use Rattle.ev_report.specs.Inner.Report.{table_after_all}
use Rattle.ev_report.specs.Inner.Progressing.{State, state, Refuses, Counts, TakesAnswers, TakesOctets}
use Rattle.ev_report.proofs.Feeding.{shows_next}

-- ---- notes

-- one text after the other
pub tells_more : (a b c : End) (p q r : Bool) (s t : List ℕ) → Tells a b p q s → Tells b c q r t
    → Tells a c p r (s ++ t)
tells_more a b c p q r s t h k = record {
  kept = λ e. kept e;
  written = written q h k;
  failed = λ e f room. failed q e f room h k;
}
  where
    kept : p ≡ false → (r ≡ false) × (c ≡ a)
    kept e =
        let one = h.kept e in
        let two = k.kept one.0 in
        (two.0, two.1 ∙ one.1)

    written : (q : Bool) → Tells a b p q s → Tells b c q r t → r ≡ true → c ≡ with_text a (s ++ t)
    written true h k e = k.written e ∙ ap (λ x. with_text x t) (h.written refl) ∙ with_text_twice a s t
    written false h k e = let no = (k.kept refl).0 in cc

    failed : (q : Bool) → p ≡ true → r ≡ false → IsOpen a → Tells a b p q s → Tells b c q r t
        → c.failures ≡ a.failures + 1
    failed true e f room h k =
        subst (λ (x : End). IsOpen x → c.failures ≡ x.failures + 1) (h.written refl) (k.failed refl f) room
    failed false e f room h k = ap (λ (x : End). x.failures) (k.kept refl).1 ∙ h.failed e refl room

-- nothing
pub tells_none : (a : End) (p : Bool) → Tells a a p p []
tells_none a p =
    record { kept = λ e. (e, refl); written = λ _. sym (with_text_none a); failed = λ e f room. failed p e f }
  where
    failed : (p : Bool) → p ≡ true → p ≡ false → a.failures ≡ a.failures + 1
    failed true e f = cc
    failed false e f = cc

-- ---- records
become_both : (t : Table) (xs os ys ps : List (Result Fields ℕ)) → BecomeAll t xs os
    → BecomeAll (table_after_all t os) ys ps → BecomeAll t (xs ++ ys) (os ++ ps)
become_both t [] [] ys ps h k = k
become_both t [] (o ∷ os) ys ps h k = absurd h
become_both t (x ∷ xs) [] ys ps h k = absurd h
become_both t (x ∷ xs) (o ∷ os) ys ps h k = (h.0, become_both (table_after t o) xs os ys ps h.1 k)

after_both : (t : Table) (os ps : List (Result Fields ℕ))
    → table_after_all t (os ++ ps) ≡ table_after_all (table_after_all t os) ps
after_both t [] ps = refl
after_both t (o ∷ os) ps = after_both (table_after t o) os ps

pub or_assoc : (a b c : Bool) → a || (b || c) ≡ (a || b) || c
or_assoc true b c = refl
or_assoc false b c = refl

pub or_false : (b : Bool) → b ≡ (b || false)
or_false true = refl
or_false false = refl

pub or_true : (b : Bool) → true ≡ (b || true)
or_true true = refl
or_true false = refl

out_of_memory_both : (os ps : List (Result Fields ℕ)) → ran_out_of_memory (os ++ ps)
    ≡ (ran_out_of_memory os || ran_out_of_memory ps)
out_of_memory_both [] ps = refl
out_of_memory_both (Ok u ∷ os) ps = out_of_memory_both os ps
out_of_memory_both (Err e ∷ os) ps = ap (λ b. (e == number_of NoMemory) || b) (out_of_memory_both os ps)
    ∙ or_assoc (e == number_of NoMemory) (ran_out_of_memory os) (ran_out_of_memory ps)

next_number : (n : ℕ) (o : Result Fields ℕ) (os : List (Result Fields ℕ)) → (n + 1) + length os ≡ n + length (o ∷ os)
next_number n o os = omega arith

refusals_both : (n : ℕ) (os ps : List (Result Fields ℕ))
    → refusals_from n (os ++ ps) ≡ refusals_from n os ++ refusals_from (n + length os) ps
refusals_both n [] ps = ap (λ k. refusals_from k ps) (let e : n ≡ n + 0 = omega arith in e)
refusals_both n (Ok u ∷ os) ps = refusals_both (n + 1) os ps
    ∙ ap (λ k. refusals_from (n + 1) os ++ refusals_from k ps) (next_number n (Ok u) os)
refusals_both n (Err e ∷ os) ps =
    ap (λ t. refused_line n e ++ t) (refusals_both (n + 1) os ps)
    ∙ sym (append_assoc (refused_line n e) (refusals_from (n + 1) os) (refusals_from ((n + 1) + length os) ps))
    ∙ ap (λ k. refused_line n e ++ refusals_from (n + 1) os ++ refusals_from k ps) (next_number n (Err e) os)

counts_both : (os ps : List (Result Fields ℕ)) (s t u : State) → Counts os s t → Counts ps t u → Counts (os ++ ps) s u
counts_both os ps s t u h k = record {
  count = let x = h.count in let y = k.count in let l = length-append os ps in omega arith;
  out_of_memory = k.out_of_memory ∙ ap (λ x. x || ran_out_of_memory ps) h.out_of_memory
      ∙ sym (or_assoc s.intake.is_out_of_memory (ran_out_of_memory os) (ran_out_of_memory ps))
      ∙ ap (λ x. s.intake.is_out_of_memory || x) (sym (out_of_memory_both os ps));
  told = subst (λ text. Tells s.notes u.notes s.intake.is_told u.intake.is_told text)
      (sym (refusals_both (s.intake.count + 1) os ps))
      (tells_more s.notes t.notes u.notes s.intake.is_told t.intake.is_told u.intake.is_told
      (refusals_from (s.intake.count + 1) os)
      (refusals_from ((s.intake.count + 1) + length os) ps) h.told
      (subst (λ x. Tells t.notes u.notes t.intake.is_told u.intake.is_told (refusals_from x ps)) number k.told));
}
  where
    number : t.intake.count + 1 ≡ (s.intake.count + 1) + length os
    number = let x = h.count in omega arith

answers_both : (xs ys : List (Result Fields ℕ)) (s t u : State) → TakesAnswers xs s t → TakesAnswers ys t u
    → TakesAnswers (xs ++ ys) s u
answers_both xs ys s t u h k = record {
  outcomes = h.outcomes ++ k.outcomes;
  became = become_both s.intake.table xs h.outcomes ys k.outcomes h.became
      (subst (λ x. BecomeAll x ys k.outcomes) h.table_is k.became);
  table_is = k.table_is ∙ ap (λ x. table_after_all x k.outcomes) h.table_is
      ∙ sym (after_both s.intake.table h.outcomes k.outcomes);
  counts = counts_both h.outcomes k.outcomes s t u h.counts k.counts;
}

-- no record, although the feed may have changed, and nothing but whether a note failed
pub answers_none : (s t : State) → t.intake.table ≡ s.intake.table → t.intake.count ≡ s.intake.count
    → t.intake.is_out_of_memory ≡ s.intake.is_out_of_memory
    → Tells s.notes t.notes s.intake.is_told t.intake.is_told [] → TakesAnswers [] s t
answers_none s t table count out_of_memory told = record {
  outcomes = [];
  became = tt;
  table_is = table;
  counts = record {
    count = count ∙ grind arith;
    out_of_memory = out_of_memory
        ∙ or_false s.intake.is_out_of_memory;
    told = told;
  };
}

-- the feed makes no difference
answers_fed : (answers : List (Result Fields ℕ)) (s t : State) (h : Held)
    → TakesAnswers answers (state (record s.intake { feed = h }) s.notes) t → TakesAnswers answers s t
answers_fed answers s t h k = record {
  outcomes = k.outcomes;
  became = k.became;
  table_is = k.table_is;
  counts = record { count = k.counts.count; out_of_memory = k.counts.out_of_memory; told = k.counts.told };
}

-- a record that was taken
pub answers_taken : (u : Fields) (s t : State) → Becomes s.intake.table (Ok u) (Ok u)
    → t.intake.table ≡ with_update s.intake.table u → t.intake.count ≡ s.intake.count + 1
    → t.intake.is_out_of_memory ≡ s.intake.is_out_of_memory → t.intake.is_told ≡ s.intake.is_told → t.notes ≡ s.notes
    → TakesAnswers (Ok u ∷ []) s t
answers_taken u s t became table count out_of_memory told notes = record {
  outcomes = Ok u ∷ [];
  became = (became, tt);
  table_is = table;
  counts = record {
    count = count;
    out_of_memory = out_of_memory ∙ or_false s.intake.is_out_of_memory;
    told = subst (λ b. Tells s.notes t.notes s.intake.is_told b []) (sym told)
        (subst (λ x. Tells s.notes x s.intake.is_told s.intake.is_told []) (sym notes)
        (tells_none s.notes s.intake.is_told));
  };
}

-- a record that was not taken, when memory may have been refused before
pub answers_refused : (answer : Result Fields ℕ) (refusal : ℕ) (s m t : State)
    → Becomes s.intake.table answer (Err refusal) → Refuses refusal m t
    → m.intake ≡ record s.intake { is_out_of_memory = m.intake.is_out_of_memory } → m.notes ≡ s.notes
    → m.intake.is_out_of_memory ≡ (s.intake.is_out_of_memory || (refusal == number_of NoMemory))
    → TakesAnswers (answer ∷ []) s t
answers_refused answer refusal s m t became r kept notes out_of_memory = record {
  outcomes = Err refusal ∷ [];
  became = (became, tt);
  table_is = ap (λ x. x.table) r.kept ∙ ap (λ x. x.table) kept;
  counts = record {
    count = ap (λ x. x.count) r.kept ∙ ap (λ x. x.count + 1) kept;
    out_of_memory = ap (λ x. x.is_out_of_memory) r.kept ∙ out_of_memory ∙ ap (λ b. s.intake.is_out_of_memory || b)
        (or_false (refusal == number_of NoMemory));
    told = subst (λ text. Tells s.notes t.notes s.intake.is_told t.intake.is_told text)
        (sym (append-nil (refused_line (s.intake.count + 1) refusal)))
        (subst (λ n. Tells s.notes t.notes s.intake.is_told t.intake.is_told (refused_line (n + 1) refusal))
        (ap (λ x. x.count) kept)
        (subst (λ b. Tells s.notes t.notes b t.intake.is_told (refused_line (m.intake.count + 1) refusal))
        (ap (λ x. x.is_told) kept)
        (subst (λ e. Tells e t.notes m.intake.is_told t.intake.is_told (refused_line (m.intake.count + 1) refusal))
        notes r.told)));
  };
}

-- the effect of a table's answer on an update's record
abbrev pub outcome_of : Fields → Result Taken TakeError → Result Fields ℕ
outcome_of u (Ok taken) = Ok u
outcome_of u (Err error) = Err (number_of error)

module _ (t : Table) (u : Fields) where
  pub becomes : (r : Result Taken TakeError) → ((r ≡ Err UnknownOriginator)
      ↔ (is_listed t u.register.originator ≡ false)) → (r ≡ Err NoMemory → value_at t u.register ≡ None)
      → Becomes t (Ok u) (outcome_of u r)
  becomes r unknown memory = go (is_listed t u.register.originator) r refl unknown memory
    where
      go : (b : Bool) (r : Result Taken TakeError) → is_listed t u.register.originator ≡ b
          → ((r ≡ Err UnknownOriginator) ↔ (is_listed t u.register.originator ≡ false))
          → (r ≡ Err NoMemory → value_at t u.register ≡ None)
          → MatchBool b ((outcome_of u r ≡ Ok u) ⊎ ((outcome_of u r ≡ Err (number_of NoMemory))
          × (value_at t u.register ≡ None))) (outcome_of u r ≡ Err (number_of UnknownOriginator))
      go true (Ok x) e unknown memory = inl refl
      go false (Ok x) e unknown memory = let no = unknown.1 e in cc
      go true (Err UnknownOriginator) e unknown memory = let no = unknown.0 refl in cc
      go false (Err UnknownOriginator) e unknown memory = refl
      go true (Err NoMemory) e unknown memory = inr (refl, memory refl)
      go false (Err NoMemory) e unknown memory = let no = unknown.1 e in cc

-- ---- octets
pub octets_none : (s : State) → TakesOctets [] s s
octets_none s = record {
  answers = [];
  read = λ stream earlier r. subst (λ x. HasRead s.intake.feed x (earlier ++ [])) (sym (append-nil stream))
      (subst (λ x. HasRead s.intake.feed stream x) (sym (append-nil earlier)) r);
  version = refl;
  taken = answers_none s s refl refl refl (tells_none s.notes s.intake.is_told);
}

pub octets_both : (xs ys : List ℕ) (s t u : State) → TakesOctets xs s t → TakesOctets ys t u
    → TakesOctets (xs ++ ys) s u
octets_both xs ys s t u f g = record {
  answers = f.answers ++ g.answers;
  read = λ stream earlier r. subst (λ x. HasRead u.intake.feed x (earlier ++ (f.answers ++ g.answers)))
      (append_assoc stream xs ys)
      (subst (λ x. HasRead u.intake.feed ((stream ++ xs) ++ ys) x) (append_assoc earlier f.answers g.answers)
      (g.read (stream ++ xs) (earlier ++ f.answers) (f.read stream earlier r)));
  version = g.version ∙ f.version;
  taken = answers_both f.answers g.answers s t u f.taken g.taken;
}

-- octets behind a fault
octets_skipped : (octets : List ℕ) (s : State) (fault : ℕ) → shown s.intake.feed ≡ Fault fault → TakesOctets octets s s
octets_skipped octets s fault shows = record {
  answers = [];
  read = λ stream earlier r. subst (λ x. HasRead s.intake.feed (stream ++ octets) x) (sym (append-nil earlier))
      (subst (λ x. HasRead s.intake.feed (stream ++ x) earlier) (take-length octets)
      (read_skipping s.intake.feed stream octets earlier (ap is_fault shows) r));
  version = refl;
  taken = answers_none s s refl refl refl (tells_none s.notes s.intake.is_told);
}

-- a step of a feed without a fault: the octets that it took of a piece, and its answer
module _ (s : State) (piece : List ℕ) (n : ℕ) (after : Held) (told : Next)
    (takes : TakesNext s.intake.feed after piece n told) (rest : shown s.intake.feed ≡ Rest)
    (took : (stream : List ℕ) (answers : List (Result Fields ℕ)) → HasRead s.intake.feed stream answers
    → HasRead after (stream ++ take n piece) (answers ++ added told)) where
  pub octets_next : (x : Next) → told ≡ x → (t : State) → t.intake.feed ≡ after
      → TakesAnswers (added x) (state (record s.intake { feed = after }) s.notes) t → TakesOctets (take n piece) s t
  octets_next x is t same taken = record {
    answers = added x;
    read = λ stream earlier r. subst (λ (h : Held). HasRead h (stream ++ take n piece) (earlier ++ added x)) (sym same)
        (subst (λ (y : Next). HasRead after (stream ++ take n piece) (earlier ++ added y)) is (took stream earlier r));
    version = ap (λ (h : Held). h.newest) (same ∙ takes.after)
        ∙ feeds_version s.intake.feed takes.mid piece n takes.feeds (ap is_length rest);
    taken = answers_fed (added x) s t after taken;
  }

  -- no record
  pub octets_more : told ≡ More → TakesOctets (take n piece) s (state (record s.intake { feed = after }) s.notes)
  octets_more is = let t : State = state (record s.intake { feed = after }) s.notes in
      octets_next More is t refl (answers_none t t refl refl refl (tells_none s.notes s.intake.is_told))

  -- a fault: the rest of the piece is taken with it
  pub octets_faulty : (fault : ℕ) → told ≡ Faulty fault
      → TakesOctets piece s (state (record s.intake { feed = after }) s.notes)
  octets_faulty fault is = let t : State = state (record s.intake { feed = after }) s.notes in
      subst (λ x. TakesOctets x s t) (take-append-drop n piece)
      (octets_both (take n piece) (drop n piece) s t t
      (octets_next (Faulty fault) is t refl (answers_none t t refl refl refl (tells_none s.notes s.intake.is_told)))
      (octets_skipped (drop n piece) t fault (shows_next s.intake.feed after piece n told (Faulty fault) takes is)))

-- ---- the table of all that were taken
with_all : (t : Table) (outcomes : List (Result Fields ℕ))
    → table_after_all t outcomes ≡ with_updates t (taken_of outcomes)
with_all t [] = refl
with_all t (Ok u ∷ outcomes) = with_all (with_update t u) outcomes
with_all t (Err e ∷ outcomes) = with_all t outcomes

pub table_of_all : (originators : List ℕ) (outcomes : List (Result Fields ℕ))
    → IsTableOf (taken_of outcomes) (table_after_all (fresh originators) outcomes)
table_of_all originators outcomes =
    subst (λ t. IsTableOf (taken_of outcomes) t) (sym (with_all (fresh originators) outcomes))
    (all_taken [] (taken_of outcomes) (fresh originators)
    (subst (λ t. IsTableOf [] t) (new_table originators) (none_taken originators)))
