-- A report page by page: the pages that were requested, and the text that was written for them.
use Rattle.std.proofs.Common.{◌≡◌, ℕ, ◌+◌, ◌^◌, Bool, true, false, Option, None, is_none, cond, Result, Ok, Err}
use Rattle.std.proofs.Common.{List}
use Rattle.std.proofs.Common.{[], ◌∷◌, ◌++◌, length, length-append, refl, sym, ap, subst, ◌∙◌, inl, inr, append_assoc}
use Rattle.std.proofs.Common.{append-nil}
use Rattle.std.proofs.Common.{arith}
use Rattle.std.specs.Prelude.{is_ok, IfOk}
use Rattle.std.specs.List.{All}
use Rattle.std.proofs.lemmas.Grind.{flat_map-append}
use Rattle.std.proofs.lemmas.List.{map-append}
use Rattle.std.proofs.lemmas.List.Elements.{All-push, All-nil}
use Rattle.ether_wire.specs.declared.ends.Device.{Device}
use Rattle.ether_wire.specs.Ends.{End, Puts}
use Rattle.route_wire.specs.declared.update.Register.{Register}
use Rattle.route_wire.specs.Fields.{Fields}
use Rattle.route_join.specs.Table.{entries_of, IsOrdered, table_from}
use Rattle.route_join.specs.After.{PageView, IsPage, is_last, last_from}
use Rattle.route_join.specs.RunningReport.{Begun, nothing_begun, texts_with, begun_by, end_text}
use Rattle.route_join.proofs.RunningReports.{running_report, begun_more, texts_more}
use Rattle.route_join.proofs.Edits.{table_of}
use Rattle.route_join.proofs.Pages.{AreUpTo, page_ordered, page_up_to, full_end}
use Rattle.ev_report.specs.Ends.{Tells}
use Rattle.ev_report.proofs.Taking.{tells_more, tells_none}
use Rattle.ev_links.specs.Coming.{behind}
use Rattle.ev_links.proofs.Behind.{behind_none, behind_twice}
use Rattle.ev_console.specs.Asking.{Asked, PageSeen, page_seen}
use Rattle.ev_console.specs.Answers.{ShowsTable, last_words, no_memory_text}
use Rattle.ev_console.specs.Table.{IsReportOf, IsFull, IsLast, pages_seen, end_of, updates_of, last_updates}
use Rattle.ev_console.specs.Inner.Answers.{Does, IsShown, next_after}

abbrev begun_after : List Fields → Begun
begun_after us = begun_by nothing_begun (entries_of us)

abbrev texts_of : List Fields → List ℕ
texts_of us = texts_with nothing_begun (entries_of us)

-- ---- lists of pages
seen_more : (e : ℕ) (after : Option Register) (ps : List PageView) (p : PageView)
    → pages_seen e after (ps ++ p ∷ []) ≡ pages_seen e after ps ++ page_seen e (end_of after ps) (Ok (Ok p)) ∷ []
seen_more e after [] p = refl
seen_more e after (q ∷ ps) p = ap (λ x. page_seen e after (Ok (Ok q)) ∷ x)
    (seen_more e (last_from after q.updates) ps p)

end_more : (after : Option Register) (ps : List PageView) (p : PageView)
    → end_of after (ps ++ p ∷ []) ≡ last_from (end_of after ps) p.updates
end_more after [] p = refl
end_more after (q ∷ ps) p = end_more (last_from after q.updates) ps p

updates_more : (ps : List PageView) (p : PageView) → updates_of (ps ++ p ∷ []) ≡ updates_of ps ++ p.updates
updates_more ps p = flat_map-append (λ (q : PageView). q.updates) ps (p ∷ [])
    ∙ ap (λ x. updates_of ps ++ x) (append-nil p.updates)

entries_more : (us vs : List Fields) → entries_of (us ++ vs) ≡ entries_of us ++ entries_of vs
entries_more us vs = map-append (λ (u : Fields). (u.register, u.value)) us vs

texts_both : (us vs : List Fields) → texts_of (us ++ vs) ≡ texts_of us ++ texts_with (begun_after us) (entries_of vs)
texts_both us vs = ap (texts_with nothing_begun) (entries_more us vs)
    ∙ texts_more nothing_begun (entries_of us) (entries_of vs)

begun_both : (us vs : List Fields) → begun_after (us ++ vs) ≡ begun_by (begun_after us) (entries_of vs)
begun_both us vs = ap (begun_by nothing_begun) (entries_more us vs)
    ∙ begun_more nothing_begun (entries_of us) (entries_of vs)

-- the report of updates in order
reported : (us : List Fields) → IsOrdered us → IsReportOf us (texts_of us ++ end_text (begun_after us))
reported us s = record { table = table_from [] us; of = table_of [] us s; is = running_report [] us s }

-- ---- writing
-- a text that is known only if nothing had failed
retold : (a b : End) (p q : Bool) (s t : List ℕ) → (p ≡ true → s ≡ t) → Tells a b p q s → Tells a b p q t
retold a b true q s t h k = subst (Tells a b true q) (h refl) k
retold a b false q s t h k = record {
  kept = k.kept;
  written = λ e. let no = (k.kept refl).0 in cc;
  failed = λ e f room. cc;
}

-- the result tells whether all was written
put_told : (old new : End) (q : Bool) (t : List ℕ) (r : Result (Unit {0}) Device) → is_ok r ≡ q → Tells old new true q t
    → Puts old new t r
put_told old new q t (Ok done) e k = k.written (sym e)
put_told old new q t (Err device) e k = k.failed refl (sym e)

-- the lines, followed by the last owner's and by words
whole_text : (old mid new : End) (p q : Bool) (t : List ℕ) (b c : Begun) (w : List ℕ) → Tells old mid true p t
    → (p ≡ true → b ≡ c) → Tells mid new p q (end_text b ++ w) → Tells old new true q ((t ++ end_text c) ++ w)
whole_text old mid new p q t b c w k same ends =
    subst (Tells old new true q) (sym (append_assoc t (end_text c) w))
    (tells_more old mid new true p q t (end_text c ++ w) k
    (retold mid new p q _ _ (λ e. ap (λ x. end_text x ++ w) (same e)) ends))

-- ---- the pages so far
-- `n` full pages were requested, the next one begins after `place`, and their lines were written
pub record Paging (e n : ℕ) (before after : Option (List Asked)) (old new : End) (is_told : Bool)
    (place : Option Register) (report : Begun) : Type 0 where
  pub full : List PageView
  pub are_full : All IsFull full
  pub many : length full ≡ n
  pub asked : after ≡ behind before (pages_seen e None full)
  pub place_is : place ≡ end_of None full
  pub ordered : IsOrdered (updates_of full)
  pub up_to : AreUpTo place (updates_of full)
  pub told : Tells old new true is_told (texts_of (updates_of full))
  pub begun : is_told ≡ true → report ≡ begun_after (updates_of full)

pub paging_none : (e : ℕ) (before : Option (List Asked)) (old : End)
    → Paging e 0 before before old old true None nothing_begun
paging_none e before old = record {
  full = [];
  are_full = All-nil IsFull;
  many = refl;
  asked = sym (behind_none before);
  place_is = refl;
  ordered = refl;
  up_to = refl;
  told = tells_none old true;
  begun = λ _. refl;
}

-- an answer that is a page begins after the register
abbrev pub IsAfter : Option Register → PageSeen → Type 0
IsAfter place answer = IfOk answer (λ shown. IfOk shown (λ (page : PageView). page.after ≡ place))

last_answer : (answer : PageSeen) → is_none (next_after answer) ≡ true → IsLast answer
last_answer (Err unreached) h = tt
last_answer (Ok (Err refused)) h = tt
last_answer (Ok (Ok page)) h = go (is_last page.updates) refl h
  where
    go : (b : Bool) → is_last page.updates ≡ b → is_none (next_after (Ok (Ok page))) ≡ true
        → is_last page.updates ≡ true
    go true e h = e
    go false e h = let end = full_end page.after page.updates e in
        let next = ap (λ b. cond b None (last_from page.after page.updates)) e ∙ end.1 in
        let no = sym (ap is_none next) ∙ h in cc

module _ (e n : ℕ) (before middle : Option (List Asked)) (old mid : End) (is_told : Bool) (place : Option Register)
    (report : Begun) (s : Paging e n before middle old mid is_told place report) where
  -- the updates of the answer, if it is a page after the register
  last_ordered : (answer : PageSeen) → IsAfter place answer → IsShown answer
      → IsOrdered (updates_of s.full ++ last_updates answer)
  last_ordered (Ok (Ok page)) a p = page_ordered place (updates_of s.full) page.updates s.ordered s.up_to
      (subst (λ x. IsPage x page.updates) a p)
  last_ordered (Ok (Err refused)) a p = subst IsOrdered (sym (append-nil (updates_of s.full))) s.ordered
  last_ordered (Err unreached) a p = subst IsOrdered (sym (append-nil (updates_of s.full))) s.ordered

  module _ (answer : PageSeen) (after : Option (List Asked)) (new : End) (is_told' : Bool) (report' : Begun)
      (shown : IsShown answer) (behind_place : IsAfter place answer)
      (asked : after ≡ behind middle (page_seen e place answer ∷ []))
      (told : Tells mid new is_told is_told' (texts_with report (entries_of (last_updates answer))))
      (begun : is_told' ≡ true → report' ≡ begun_by report (entries_of (last_updates answer))) where
    abbrev all : List Fields
    all = updates_of s.full ++ last_updates answer

    told_all : Tells old new true is_told' (texts_of all)
    told_all = subst (Tells old new true is_told') (sym (texts_both (updates_of s.full) (last_updates answer)))
        (tells_more old mid new true is_told is_told' (texts_of (updates_of s.full))
        (texts_with (begun_after (updates_of s.full)) (entries_of (last_updates answer))) s.told
        (retold mid new is_told is_told' _ _
        (λ t. ap (λ b. texts_with b (entries_of (last_updates answer))) (s.begun t)) told))

    still : (p q : Bool) → Tells mid new p q (texts_with report (entries_of (last_updates answer))) → q ≡ true
        → p ≡ true
    still true q k t = refl
    still false q k t = let no = (k.kept refl).0 in cc

    begun_all : is_told' ≡ true → report' ≡ begun_after all
    begun_all t = begun t
        ∙ ap (λ b. begun_by b (entries_of (last_updates answer))) (s.begun (still is_told is_told' told t))
        ∙ sym (begun_both (updates_of s.full) (last_updates answer))

    asked_all : after ≡ behind before (pages_seen e None s.full ++ page_seen e (end_of None s.full) answer ∷ [])
    asked_all = asked ∙ ap (λ k. behind k (page_seen e place answer ∷ [])) s.asked
        ∙ behind_twice before (pages_seen e None s.full) (page_seen e place answer ∷ [])
        ∙ ap (λ r. behind before (pages_seen e None s.full ++ page_seen e r answer ∷ [])) s.place_is

    -- no page follows
    pub shows_last : is_none (next_after answer) ≡ true → (end : End) (is_told'' : Bool) (r : Result (Unit {0}) Device)
        → Tells new end is_told' is_told'' (end_text report' ++ last_words e answer) → is_ok r ≡ is_told''
        → Does (ShowsTable e) before after old end r
    shows_last none end is_told'' r ends ok = record {
      asked = pages_seen e None s.full ++ page_seen e (end_of None s.full) answer ∷ [];
      text = (texts_of all ++ end_text (begun_after all)) ++ last_words e answer;
      said = inl record {
        full = s.full;
        are_full = s.are_full;
        last = answer;
        is_last = last_answer answer none;
        asked_are = refl;
        lines = texts_of all ++ end_text (begun_after all);
        of = reported all (last_ordered answer behind_place shown);
        is = refl;
      };
      told = asked_all;
      written = put_told old end is_told'' _ r ok
          (whole_text old new end is_told' is_told'' (texts_of all) report' (begun_after all) (last_words e answer)
          told_all begun_all ends);
    }

-- the answer is a full page
pub paging_more : (e n : ℕ) (before middle : Option (List Asked)) (old mid : End) (is_told : Bool)
    (place : Option Register) (report : Begun) (s : Paging e n before middle old mid is_told place report)
    (answer : PageSeen) (after : Option (List Asked)) (new : End) (is_told' : Bool) (report' : Begun)
    → IsShown answer → IsAfter place answer
    → after ≡ behind middle (page_seen e place answer ∷ [])
    → Tells mid new is_told is_told' (texts_with report (entries_of (last_updates answer)))
    → (is_told' ≡ true → report' ≡ begun_by report (entries_of (last_updates answer)))
    → is_none (next_after answer) ≡ false
    → Paging e (n + 1) before after old new is_told' (next_after answer) report'
paging_more e n before middle old mid is_told place report s (Err unreached) after new is_told' report' p a q t b some =
    cc
paging_more e n before middle old mid is_told place report s (Ok (Err refused)) after new is_told' report' p a q t b
    some =
    cc
paging_more e n before middle old mid is_told place report s (Ok (Ok page)) after new is_told' report' p a q t b some =
    let answer : PageSeen = Ok (Ok page) in
    let is_page = subst (λ x. IsPage x page.updates) a p in
    let full = is_full (is_last page.updates) refl some in
    let next : next_after answer ≡ last_from place page.updates =
    ap (λ x. cond x None (last_from page.after page.updates)) full ∙ ap (λ r. last_from r page.updates) a in
    let more = sym (updates_more s.full page) in
    record {
      full = s.full ++ page ∷ [];
      are_full = All-push IsFull s.full page s.are_full full;
      many = let l = length-append s.full (page ∷ []) in let m = s.many in omega (arith, l, m);
      asked = asked_all e n before middle old mid is_told place report s answer after new is_told' report' p a q t b
          ∙ ap (behind before) (sym (seen_more e None s.full page));
      place_is = next ∙ ap (λ r. last_from r page.updates) s.place_is ∙ sym (end_more None s.full page);
      ordered = subst IsOrdered more (page_ordered place (updates_of s.full) page.updates s.ordered s.up_to is_page);
      up_to = subst (λ r. AreUpTo r (updates_of (s.full ++ page ∷ []))) (sym next)
          (subst (AreUpTo (last_from place page.updates)) more
          (page_up_to place (updates_of s.full) page.updates s.up_to is_page));
      told = subst (λ us. Tells old new true is_told' (texts_of us)) more
          (told_all e n before middle old mid is_told place report s answer after new is_told' report' p a q t b);
      begun = λ h. begun_all e n before middle old mid is_told place report s answer after new is_told' report' p a q t
          b h
          ∙ ap begun_after more;
    }
  where
    is_full : (x : Bool) → is_last page.updates ≡ x → is_none (next_after (Ok (Ok page))) ≡ false
        → is_last page.updates ≡ false
    is_full true e h = let last = ap (λ y. is_none (cond y None (last_from page.after page.updates))) e in
        let no = sym last ∙ h in cc
    is_full false e h = e

-- likewise, with the register after which the next page begins
pub paging_on : (e n : ℕ) (before middle : Option (List Asked)) (old mid : End) (is_told : Bool)
    (place : Option Register) (report : Begun) (s : Paging e n before middle old mid is_told place report)
    (answer : PageSeen) (after : Option (List Asked)) (new : End) (is_told' : Bool) (report' : Begun)
    (place' : Option Register) → place' ≡ next_after answer → IsShown answer → IsAfter place answer
    → after ≡ behind middle (page_seen e place answer ∷ [])
    → Tells mid new is_told is_told' (texts_with report (entries_of (last_updates answer)))
    → (is_told' ≡ true → report' ≡ begun_by report (entries_of (last_updates answer)))
    → is_none place' ≡ false
    → Paging e (n + 1) before after old new is_told' place' report'
paging_on e n before middle old mid is_told place report s answer after new is_told' report' place' is p a q t b some =
    subst (λ r. Paging e (n + 1) before after old new is_told' r report') (sym is)
    (paging_more e n before middle old mid is_told place report s answer after new is_told' report' p a q t b
    (ap is_none (sym is) ∙ some))

-- 2^40 pages were full
pub shows_most : (e n : ℕ) (before middle : Option (List Asked)) (old mid : End) (is_told : Bool)
    (place : Option Register) (report : Begun) (s : Paging e n before middle old mid is_told place report) → n ≡ 2 ^ 40
    → (end : End) (is_told' : Bool) (r : Result (Unit {0}) Device)
    → Tells mid end is_told is_told' (end_text report ++ no_memory_text e) → is_ok r ≡ is_told'
    → Does (ShowsTable e) before middle old end r
shows_most e n before middle old mid is_told place report s most end is_told' r ends ok =
    let us = updates_of s.full in
    record {
      asked = pages_seen e None s.full;
      text = (texts_of us ++ end_text (begun_after us)) ++ no_memory_text e;
      said = inr record {
        full = s.full;
        are_full = s.are_full;
        many = s.many ∙ most;
        asked_are = refl;
        lines = texts_of us ++ end_text (begun_after us);
        of = reported us s.ordered;
        is = refl;
      };
      told = s.asked;
      written = put_told old end is_told' _ r ok
          (whole_text old mid end is_told is_told' (texts_of us) report (begun_after us) (no_memory_text e) s.told
          s.begun ends);
    }
