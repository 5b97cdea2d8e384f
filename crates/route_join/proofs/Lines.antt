-- A report group by group is the report of all their registers.
use Rattle.std.proofs.Common.{◌≡◌, ℕ, true, false, Option, Some, None, MatchOption, List, [], ◌∷◌, ◌++◌, length}
use Rattle.std.proofs.Common.{refl, sym, ap, subst, ◌∙◌, append-nil}
use Rattle.std.specs.Ordering.{is_eq}
use Rattle.std.specs.FinMap.Entries.{is_sorted}
use Rattle.std.proofs.Math.Seq.{take-append_seam}
use Rattle.std.proofs.lemmas.Bool.{and_parts as both}
use Rattle.route_wire.specs.declared.update.Key.{Key}
use Rattle.route_wire.specs.declared.update.Key.TheVariants.{Flood, Mac}
use Rattle.route_wire.specs.declared.update.Register.{Register}
use Rattle.route_wire.specs.declared.update.Advert.{Advert}
use Rattle.route_wire.specs.declared.update.Value.{Value}
use Rattle.route_wire.specs.Fields.{Fields}
use Rattle.route_wire.specs.Order.{register_cmp}
use Rattle.route_join.specs.Subject.{Subject, subject_of}
use Rattle.route_join.specs.Table.{IsOrdered, entries_of, table_from}
use Rattle.route_join.specs.Owner.{best_among}
use Rattle.route_join.specs.Report.{register_line, owner_line, after_register, lines_of, report_of}
use Rattle.route_join.specs.RunningReport.{nothing_begun, is_begun, origin_of, end_text}
use Rattle.route_join.specs.Inner.Report.{owner_among, report_lines}
use Rattle.route_join.specs.Inner.Lines.{subject_text, HaveText, register_lines, group_lines}
use Rattle.route_join.specs.Group.{AreAbout, IsSome, IsBefore, AreGroups, IsGrouped, updates_in}
use Rattle.route_join.specs.Inner.Group.{IsSilent, IsLeader}
use Rattle.route_join.proofs.Edits.{listed_as}
use Rattle.route_join.proofs.Merging.{sorted_front}
use Rattle.route_join.proofs.Groupings.{Groups, Entries, entries_in, entries_in_all}
use Rattle.route_join.proofs.Subjects.{address, about_itself}
use Rattle.route_join.proofs.Holding.{owner_in}
use Rattle.route_join.proofs.RunningReports.{better, state, rest_of, opened, begun_itself, changed, grouped, lines_all}

-- ---- the lines of one group
pub have_text : (s : Subject) (es : Entries) → AreAbout s es → HaveText (subject_text s) es
have_text s [] k = tt
have_text s (e ∷ es) k = (ap subject_text k.0, have_text s es k.1)

-- no owner's line follows a register of a flood list
none_after : (f : ℕ → ℕ → Option ℕ) (k : Key) (es : Entries) → (subject_of k).mac ≡ None → after_register f k es ≡ []
none_after f (Flood v) es h = refl
none_after f (Mac v m ip) es h = cc

flood_lines : (f : ℕ → ℕ → Option ℕ) (s : Subject) (es : Entries) → s.mac ≡ None → AreAbout s es
    → register_lines es ≡ lines_of f es
flood_lines f s [] h k = refl
flood_lines f s (e ∷ es) h k = rw (
  none_after f e.0.key es (ap (λ (t : Subject). t.mac) k.0 ∙ h),
  append-nil (register_line e.0 e.1),
  flood_lines f s es h k.1,
)

pub flood_report : (s : Subject) (us : List Fields) → s.mac ≡ None → AreAbout s (entries_of us)
    → register_lines (entries_of us) ≡ report_lines (entries_of us)
flood_report s us h k = flood_lines (owner_among (entries_of us)) s (entries_of us) h k

-- a subject has begun, or begins with its first register
still : (s t : Subject) → t ≡ s → is_begun (Some s) t ≡ true
still s t h = ap (is_begun (Some s)) h ∙ begun_itself s

begins : (s : Subject) (e : Register × Value) (es : Entries) → subject_of e.0.key ≡ s
    → rest_of nothing_begun (e ∷ es) ≡ rest_of (state s None) (e ∷ es)
begins s e es h = changed nothing_begun e es refl ∙ ap (λ t. rest_of (state t None) (e ∷ es)) h

-- the owner's line follows the lines of an address
address_lines : (v m : ℕ) (best : Option (Register × Advert)) (es : Entries) → AreAbout (address v m) es
    → rest_of (state (address v m) best) es ≡ register_lines es
    ++ owner_line v m (origin_of (best_among v m es best))
address_lines v m best [] k = refl
address_lines v m best (e ∷ es) k = rw (about_itself v m e.0.key k.0)
    (opened (state (address v m) best) e es true (still (address v m) (subject_of e.0.key) k.0)
    ∙ grouped _ _ _ (address_lines v m (better e best) es k.1))

pub address_report : (s : Subject) (m : ℕ) (us : List Fields) → s.mac ≡ Some m → IsOrdered us
    → AreAbout s (entries_of us) → IsSome (entries_of us)
    → (o : Option ℕ) → MatchOption o (IsSilent us) (IsLeader us)
    → register_lines (entries_of us) ++ owner_line s.vni m o ≡ report_lines (entries_of us)
address_report s m [] h ordered k i o q = absurd i
address_report s m (u ∷ us) h ordered k i o q =
    let es = entries_of (u ∷ us) in
    let about : AreAbout (address s.vni m) es = subst (λ x. AreAbout x es)
    (λ i. record { vni = s.vni; mac = h i }) k in
    rw (owner_in s.vni m (u ∷ us) ordered about o q)
    (sym (begins (address s.vni m) (u.register, u.value) (entries_of us) about.0
    ∙ address_lines s.vni m None es about) ∙ lines_all es ordered)

-- ---- one group after another
-- entries that don't begin with the subject
abbrev EndsAt : Subject → Entries → Type 0
EndsAt s [] = Unit {0}
EndsAt s (e ∷ es) = is_begun (Some s) (subject_of e.0.key) ≡ false

ends_before : (s : Subject) (gs : Groups) → IsBefore s gs → AreGroups gs → EndsAt s (entries_in gs)
ends_before s [] b k = tt
ends_before s ((t, []) ∷ gs) b k = absurd k.1
ends_before s ((t, u ∷ us) ∷ gs) b k = ap (is_begun (Some s)) k.0.0 ∙ ap is_eq b.0

split : (s : Subject) (best : Option (Register × Advert)) (es fs : Entries) → AreAbout s es → EndsAt s fs
    → rest_of (state s best) (es ++ fs) ≡ rest_of (state s best) es ++ rest_of nothing_begun fs
split s best [] [] k n = sym (append-nil (end_text (state s best)))
split s best [] (e ∷ fs) k n = rw (changed nothing_begun e fs refl) (changed (state s best) e fs n)
split s best (e ∷ es) fs k n =
    let same = still s (subject_of e.0.key) k.0 in
    rw (opened (state s best) e es true same) (opened (state s best) e (es ++ fs) true same
    ∙ grouped _ _ _ (split s (better e best) es fs k.1 n))

split_all : (s : Subject) (es fs : Entries) → AreAbout s es → IsSome es → EndsAt s fs
    → rest_of nothing_begun (es ++ fs) ≡ rest_of nothing_begun es ++ rest_of nothing_begun fs
split_all s [] fs k i n = absurd i
split_all s (e ∷ es) fs k i n = rw (begins s e es k.0) (begins s e (es ++ fs) k.0 ∙ split s None (e ∷ es) fs k n)

sorted_end : (es fs : Entries) → is_sorted register_cmp (es ++ fs) ≡ true → is_sorted register_cmp fs ≡ true
sorted_end [] fs s = s
sorted_end (e ∷ es) fs s = sorted_end es fs (both _ _ s).1

groups_told : (gs : Groups) → AreGroups gs → is_sorted register_cmp (entries_in gs) ≡ true
    → rest_of nothing_begun (entries_in gs) ≡ group_lines gs
groups_told [] k s = refl
groups_told (g ∷ gs) k s =
    let es = entries_of g.1 in
    let fs = entries_in gs in
    split_all g.0 es fs k.0 k.1 (ends_before g.0 gs k.2 k.3)
    ∙ (λ i. lines_all es (rw (take-append_seam es fs) at (sorted_front (length es) (es ++ fs) s)) i
    ++ groups_told gs k.3 (sorted_end es fs s) i)

-- the groups' report is the table's
pub group_report : (os : List ℕ) (gs : Groups) → IsGrouped os gs
    → group_lines gs ≡ report_of (table_from os (updates_in gs))
group_report os gs k =
    let sorted = ap (is_sorted register_cmp) (sym (entries_in_all gs)) ∙ k.kept.ordered in
    sym (groups_told gs k.groups sorted) ∙ lines_all (entries_in gs) sorted
    ∙ ap report_lines (sym (listed_as os (updates_in gs) k.kept.ordered ∙ entries_in_all gs))
