-- A report that is written register by register, in order, is the report of the table of these registers.
use Rattle.std.proofs.Common.{◌≡◌, ℕ, Bool, true, false, cond, ◌⊎◌, inl, inr, Option, Some, None, List, [], ◌∷◌, ◌++◌}
use Rattle.std.proofs.Common.{refl, sym, ap, subst, ◌∙◌, append_assoc, append-nil}
use Rattle.std.specs.Cmp.{tied_itself}
use Rattle.std.specs.declared.cmp.Ordering.{Ordering}
use Rattle.std.specs.declared.cmp.Ordering.TheVariants.{Less, Equal, Greater}
use Rattle.std.specs.Ordering.{is_eq, ordering_then}
use Rattle.std.specs.FinMap.Entries.{below_all, is_sorted}
use Rattle.route_wire.specs.declared.update.Key.{Key}
use Rattle.route_wire.specs.declared.update.Key.TheVariants.{Flood, Mac}
use Rattle.route_wire.specs.declared.update.Register.{Register}
use Rattle.route_wire.specs.declared.update.Advert.{Advert}
use Rattle.route_wire.specs.declared.update.Value.{Value}
use Rattle.route_wire.specs.Fields.{Fields}
use Rattle.route_wire.specs.Order.{register_cmp}
use Rattle.route_join.specs.Subject.{Subject, subject_cmp, subject_of}
use Rattle.route_join.specs.Owner.{advert_in, better_of, best_among}
use Rattle.route_join.specs.Report.{register_line, after_register, lines_of, report_of}
use Rattle.route_join.specs.Table.{entries_of, IsOrdered, table_from}
use Rattle.route_join.specs.RunningReport.{Begun, nothing_begun, is_begun, origin_of, end_text, begun_with}
use Rattle.route_join.specs.RunningReport.{begun_by, texts_with}
use Rattle.route_join.specs.Inner.Report.{owner_among, report_lines}
use Rattle.route_join.specs.Inner.Ranks.{subject_total, subject_exact}
use Rattle.route_join.proofs.Orders.{less}
use Rattle.route_join.proofs.Edits.{listed_as}
use Rattle.route_join.proofs.Groupings.{Entries, AllAre}
use Rattle.route_join.proofs.Holding.{differs}
use Rattle.route_join.proofs.Stations.{not_about, goes_off, best_skip}
use Rattle.route_join.proofs.Subjects.{address, about_itself, by_subject}
use Rattle.std.proofs.lemmas.Bool.{and_parts as both}

-- ---- the order of subjects
not_greater : (o p : Ordering) → ordering_then o p ≡ Less → (o ≡ Less) ⊎ (o ≡ Equal)
not_greater Less p h = inl refl
not_greater Equal p h = inr refl
not_greater Greater p h = cc

-- a later register is of the same subject or of a later one
same_or_later : (r q : Register) → register_cmp r q ≡ Less
    → (subject_cmp (subject_of r.key) (subject_of q.key) ≡ Less)
    ⊎ (subject_cmp (subject_of r.key) (subject_of q.key) ≡ Equal)
same_or_later r q h = not_greater _ _ (sym (by_subject r q) ∙ h)

-- all registers after one of a later subject are of later subjects
all_later : (s : Subject) (r : Register) (es : Entries) → subject_cmp s (subject_of r.key) ≡ Less
    → below_all register_cmp r es ≡ true → AllAre s Less es
all_later s r [] l b = tt
all_later s r (e ∷ es) l b =
    let parts = both _ _ b in (
      elim (same_or_later r e.0 (less _ parts.0)) as (λ _. subject_cmp s (subject_of e.0.key) ≡ Less) [
        | inl k ↦ subject_total.trans s (subject_of r.key) (subject_of e.0.key) l k
        | inr k ↦ rw (← subject_exact (subject_of r.key) (subject_of e.0.key) k) l
      ],
      all_later s r es l parts.1,
    )

-- ---- one register more
-- the best advert of a subject with one register more
abbrev pub better : Register × Value → Option (Register × Advert) → Option (Register × Advert)
better e best = better_of e.0 (advert_in e.1.content) best

-- the state in which a subject has begun
abbrev pub state : Subject → Option (Register × Advert) → Begun
state s best = record { subject = Some s; best = best }

-- what is still written from a state on
abbrev pub rest_of : Begun → Entries → List ℕ
rest_of b es = texts_with b es ++ end_text (begun_by b es)

module _ (b : Begun) (e : Register × Value) (es : Entries) where
  -- the state after the register, whose subject has begun or not
  abbrev then_in : Bool → Begun
  then_in is = record {
    subject = (cond is b (state (subject_of e.0.key) None)).subject;
    best = better e (cond is b (state (subject_of e.0.key) None)).best;
  }

  pub opened : (is : Bool) → is_begun b.subject (subject_of e.0.key) ≡ is
      → rest_of b (e ∷ es) ≡ cond is [] (end_text b) ++ (register_line e.0 e.1 ++ rest_of (then_in is) es)
  opened is h = ap (λ x. (cond x [] (end_text b) ++ register_line e.0 e.1 ++ texts_with (then_in x) es)
      ++ end_text (begun_by (then_in x) es)) h ∙ simp append_assoc

pub begun_itself : (s : Subject) → is_begun (Some s) s ≡ true
begun_itself s = ap is_eq (tied_itself subject_total s)

-- another subject begins: first the one before ends
pub changed : (b : Begun) (e : Register × Value) (es : Entries) → is_begun b.subject (subject_of e.0.key) ≡ false
    → rest_of b (e ∷ es) ≡ end_text b ++ rest_of (state (subject_of e.0.key) None) (e ∷ es)
changed b e es h = rw (opened (state (subject_of e.0.key) None) e es true (begun_itself (subject_of e.0.key)))
    (opened b e es false h)

-- a line, and the rest in two parts
pub grouped : (line a b : List ℕ) {x : List ℕ} → x ≡ a ++ b → line ++ x ≡ (line ++ a) ++ b
grouped line a b h = ap (λ y. line ++ y) h ∙ sym (append_assoc line a b)

-- ---- all registers
module _ (f : ℕ → ℕ → Option ℕ) where
  -- the owners of a subject with this best advert before the registers, and those of later subjects
  abbrev Owns : Subject → Option (Register × Advert) → Entries → Type 0
  Owns s best es = (v m : ℕ) → (s ≡ address v m → f v m ≡ origin_of (best_among v m es best))
      × (subject_cmp s (address v m) ≡ Less → f v m ≡ origin_of (best_among v m es None))

  owns_more : (best : Option (Register × Advert)) (e : Register × Value) (es : Entries)
      → Owns (subject_of e.0.key) best (e ∷ es)
      → Owns (subject_of e.0.key) (better e best) es
  owns_more best e es o v m = (
    λ a. rw (about_itself v m e.0.key a) at ((o v m).0 a),
    λ l. rw (not_about v m e.0.key (λ a. differs (subject_of e.0.key) (address v m) Less l refl (sym a))) at
        ((o v m).1 l),
  )

  -- the end of a subject's lines
  ended : (k : Key) (best : Option (Register × Advert)) (es : Entries) → AllAre (subject_of k) Less es
      → Owns (subject_of k) best es → end_text (state (subject_of k) best) ≡ after_register f k es
  ended (Flood v) best es l o = refl
  ended (Mac v m ip) best es l o = rw (goes_off v m es l, (o v m).0 refl, best_skip v m es best l)

  not_ended : (k : Key) (e : Register × Value) (es : Entries) → subject_of e.0.key ≡ subject_of k
      → after_register f k (e ∷ es) ≡ []
  not_ended (Flood v) e es h = refl
  not_ended (Mac v m ip) e es h = rw (about_itself v m e.0.key h)

  lines_from : (best : Option (Register × Advert)) (e : Register × Value) (es : Entries)
      → is_sorted register_cmp (e ∷ es) ≡ true → Owns (subject_of e.0.key) best (e ∷ es)
      → rest_of (state (subject_of e.0.key) best) (e ∷ es) ≡ lines_of f (e ∷ es)
  lines_from best e [] s o =
      let own = subject_of e.0.key in
      opened (state own best) e [] true (begun_itself own)
      ∙ grouped _ _ _ (ended e.0.key (better e best) [] tt (owns_more best e [] o)
      ∙ sym (append-nil (after_register f e.0.key [])))
  lines_from best e (n ∷ es) s o =
      let own = subject_of e.0.key in
      let now = better e best in
      let more = owns_more best e (n ∷ es) o in
      let next = subject_of n.0.key in
      let parts = both _ _ s in
      opened (state own best) e (n ∷ es) true (begun_itself own)
      ∙ grouped _ _ _ (elim (same_or_later e.0 n.0 (less _ (both _ _ parts.0).0)) as (λ _.
      rest_of (state own now) (n ∷ es) ≡ after_register f e.0.key (n ∷ es) ++ lines_of f (n ∷ es)) [
        | inl l ↦ changed (state own now) n es (ap is_eq l)
            ∙ (λ i. ended e.0.key now (n ∷ es) (l, all_later own n.0 es l (both _ _ parts.1).0) more i
            ++ lines_from None n es parts.1 (λ v m. (
              λ a. (more v m).1 (subst (λ t. subject_cmp own t ≡ Less) a l),
              λ k. (more v m).1 (subject_total.trans own next (address v m) l k),
            )) i)
        | inr l ↦ let same = subject_exact own next l in
            rw (same, not_ended e.0.key n es (sym same))
            (lines_from now n es parts.1 (subst (λ t. Owns t now (n ∷ es)) same more))
      ])

pub lines_all : (es : Entries) → is_sorted register_cmp es ≡ true → rest_of nothing_begun es ≡ report_lines es
lines_all [] s = refl
lines_all (e ∷ es) s = changed nothing_begun e es refl
    ∙ lines_from (owner_among (e ∷ es)) None e es s (λ v m. (λ _. refl, λ _. refl))

-- the lines of updates in order, followed by the last owner's, are the report of their table
pub running_report : (os : List ℕ) (us : List Fields) → IsOrdered us
    → texts_with nothing_begun (entries_of us) ++ end_text (begun_by nothing_begun (entries_of us))
    ≡ report_of (table_from os us)
running_report os us h = lines_all (entries_of us) h ∙ ap report_lines (sym (listed_as os us h))

-- ---- more registers
pub begun_more : (b : Begun) (es fs : Entries) → begun_by b (es ++ fs) ≡ begun_by (begun_by b es) fs
begun_more b [] fs = refl
begun_more b (e ∷ es) fs = begun_more (begun_with b e) es fs

pub texts_more : (b : Begun) (es fs : Entries)
    → texts_with b (es ++ fs) ≡ texts_with b es ++ texts_with (begun_by b es) fs
texts_more b [] fs = refl
texts_more b (e ∷ es) fs = grouped _ _ _ (texts_more (begun_with b e) es fs)
