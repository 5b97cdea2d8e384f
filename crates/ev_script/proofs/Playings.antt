-- Steps that are made one after the other, the lines that request them, and what they print.
use Rattle.std.proofs.Common.{◌≡◌, ℕ, ◌+◌, ◌<◌, Bool, ◌||◌, List, [], ◌∷◌, ◌++◌, length, length-append, append_assoc}
use Rattle.std.proofs.Common.{Option, Some, None, option_map, Result, true, false, refl, sym, ap, subst, ◌∙◌, arith}
use Rattle.std.proofs.lemmas.List.{append-nil}
use Rattle.std.proofs.lemmas.List.Elements.{All-nil, All-push}
use Rattle.ev_edge.specs.declared.reply.Reply.{Reply}
use Rattle.ev_fabric.specs.declared.refusal.FabricRefusal.{FabricRefusal}
use Rattle.ev_fabric.specs.declared.step.Step.{Step}
use Rattle.ev_fabric.specs.declared.step.Step.TheVariants as steps
use Rattle.ev_fabric.specs.declared.step.LocalEvent.TheVariants as events
use Rattle.ev_fabric.specs.Fabric.{Fabric}
use Rattle.ev_fabric.specs.Steps.{FabricSteps}
use Rattle.ether_wire.specs.Ends.{End}
use Rattle.ev_report.specs.Ends.{Tells}
use Rattle.ev_script.specs.declared.script.question.Question.{Question}
use Rattle.ev_script.specs.declared.simulate.simulator.BadLine.{BadLine}
use Rattle.ev_script.specs.declared.simulate.simulator.Simulator.{Simulator}
use Rattle.ev_script.specs.declared.script.mode.Mode.{Mode}
use Rattle.ev_script.specs.Script.{Command, Item, second, announce, skips, asked_in, asks_no_step, line_of, item_of}
use Rattle.ev_script.specs.Script.{cut_line, Follows}
use Rattle.ev_script.specs.Printing.{shown_text, step_text, second_text, announcement_text}
use Rattle.ev_script.specs.Views.{view_text}
use Rattle.ev_script.specs.Simulation.{Made, Asked, Goes, is_out_of_memory, ran_out_of_memory, steps_text, seconds_text}
use Rattle.ev_script.specs.Simulation.{AnswersCommand, query_text, Ran, RunsLine, RunsLines, made_by, text_of}
use Rattle.ev_script.specs.Inner.Playing.{Makes, MakesOne, Performs, PlaysLine, Played, PlaysTo}
use Rattle.ev_report.proofs.Taking.{or_assoc, or_false, tells_more, tells_none}
use Rattle.ev_script.proofs.Each.{one_more}

-- ---- steps

goes_both : (a b c : Fabric) (m n : List Made) → Goes a m b → Goes b n c → Goes a (m ++ n) c
goes_both a b c [] n g h = subst (λ (f : Fabric). Goes f n c) g h
goes_both a b c (x ∷ m) n g h = (g.0, g.1, goes_both g.0 b c m n g.2 h)

out_of_memory_both : (m n : List Made) → ran_out_of_memory (m ++ n) ≡ (ran_out_of_memory m || ran_out_of_memory n)
out_of_memory_both [] n = refl
out_of_memory_both (x ∷ m) n = ap (λ b. is_out_of_memory x.1 || b) (out_of_memory_both m n)
    ∙ or_assoc (is_out_of_memory x.1) (ran_out_of_memory m) (ran_out_of_memory n)

pub one_made : (p q : Simulator) (step : Step) (answer : Result Reply FabricRefusal)
    → FabricSteps p.fabric step answer q.fabric
    → q.is_out_of_memory ≡ (p.is_out_of_memory || is_out_of_memory answer)
    → Makes ((step, answer) ∷ []) p q
one_made p q step answer s e = record {
  goes = (q.fabric, s, refl);
  out_of_memory = e ∙ ap (λ b. p.is_out_of_memory || b) (or_false (is_out_of_memory answer));
}

pub makes_none : (p q : Simulator) → q.fabric ≡ p.fabric → q.is_out_of_memory ≡ p.is_out_of_memory → Makes [] p q
makes_none p q f s = record { goes = f; out_of_memory = s ∙ or_false p.is_out_of_memory }

pub makes_both : (p q r : Simulator) (m n : List Made) → Makes m p q → Makes n q r → Makes (m ++ n) p r
makes_both p q r m n h k = record {
  goes = goes_both p.fabric q.fabric r.fabric m n h.goes k.goes;
  out_of_memory = k.out_of_memory ∙ ap (λ b. b || ran_out_of_memory n) h.out_of_memory
      ∙ sym (or_assoc p.is_out_of_memory (ran_out_of_memory m) (ran_out_of_memory n))
      ∙ ap (λ b. p.is_out_of_memory || b) (sym (out_of_memory_both m n));
}

-- the value of `is_told` doesn't matter
pub retold : (p q : Simulator) (made : List Made) (b : Bool) → Makes made p q → Makes made p (record q { is_told = b })
retold p q made b h = record { goes = h.goes; out_of_memory = h.out_of_memory }

-- a step was made, and its answer printed
pub made_one : (step : Step) (text : Result Reply FabricRefusal → List ℕ) (answer : Result Reply FabricRefusal)
    (p q : Simulator) (told : Bool) (a b : End) → Makes ((step, answer) ∷ []) p q → q.is_told ≡ p.is_told
    → Tells a b q.is_told told (text answer) → MakesOne step text p (record q { is_told = told }) a b
made_one step text answer p q told a b h e t = record {
  answer = answer;
  makes = retold p q ((step, answer) ∷ []) told h;
  told = subst (λ (x : Bool). Tells a b x told (text answer)) e t;
}

-- a step, and its answer
pub performs_step : (e : ℕ) (command : Command) (step : Step) (p q : Simulator) (a b : End)
    → (h : MakesOne step (step_text e) p q a b) → Asked e command ((step, h.answer) ∷ [])
    → ((text : List ℕ) → text ≡ steps_text e ((step, h.answer) ∷ [])
    → AnswersCommand e command ((step, h.answer) ∷ []) q.fabric text)
    → Performs e command p q a b
performs_step e command step p q a b h asked answers = record {
  made = (step, h.answer) ∷ [];
  asked = asked;
  makes = h.makes;
  text = step_text e h.answer;
  answers = answers (step_text e h.answer) (sym (append-nil (step_text e h.answer)));
  told = h.told;
}

-- an announcement, and its answer
pub performs_announce : (e : ℕ) (p q : Simulator) (a b : End)
    → MakesOne (steps.Announce e) (announcement_text e (length q.fabric.pool)) p q a b → Performs e announce p q a b
performs_announce e p q a b h =
    let text = announcement_text e (length q.fabric.pool) h.answer in
    record {
      made = (steps.Announce e, h.answer) ∷ [];
      asked = (h.answer, refl);
      makes = h.makes;
      text = text;
      answers = sym (append-nil text);
      told = h.told;
    }

-- an answer without a step
pub performs_shown : (e : ℕ) (command : Command) (p : Simulator) (told : Bool) (a b : End) (text : List ℕ)
    → Asked e command [] → AnswersCommand e command [] p.fabric text → Tells a b p.is_told told text
    → Performs e command p (record p { is_told = told }) a b
performs_shown e command p told a b text asked answers t = record {
  made = [];
  asked = asked;
  makes = makes_none p (record p { is_told = told }) refl refl;
  text = text;
  answers = answers;
  told = t;
}

-- ---- seconds

pub no_seconds : (p : Simulator) (e : ℕ) (a : End) → Performs e (second 0) p p a a
no_seconds p e a = record {
  made = [];
  asked = (refl, All-nil _);
  makes = makes_none p p refl refl;
  text = [];
  answers = refl;
  told = tells_none a p.is_told;
}

seconds_more : (e n : ℕ) (made : List Made) (m : Made)
    → seconds_text e n (made ++ m ∷ []) ≡ seconds_text e n made ++ second_text e (n + length made) m.1
seconds_more e n [] m = append-nil (second_text e n m.1) ∙ ap (λ k. second_text e k m.1) (omega arith)
seconds_more e n (x ∷ made) m =
    ap (λ t. second_text e n x.1 ++ t) (seconds_more e (n + 1) made m)
    ∙ sym (append_assoc (second_text e n x.1) (seconds_text e (n + 1) made) _)
    ∙ ap (λ k. (second_text e n x.1 ++ seconds_text e (n + 1) made) ++ second_text e k m.1) (omega arith)

pub second_more : (p q r : Simulator) (e n : ℕ) (a b c : End) → Performs e (second n) p q a b
    → MakesOne (steps.Local e events.Second) (second_text e n) q r b c → Performs e (second (n + 1)) p r a c
second_more p q r e n a b c h k =
    let one : Made = (steps.Local e events.Second, k.answer) in
    let many : n ≡ 0 + length h.made = let l = h.asked.0 in omega arith in
    record {
      made = h.made ++ one ∷ [];
      asked = (
        let l = length-append h.made (one ∷ []) in let m = h.asked.0 in omega arith,
        All-push (λ (m : Made). m.0 ≡ steps.Local e events.Second) h.made one h.asked.1 refl,
      );
      makes = makes_both p q r h.made (one ∷ []) h.makes k.makes;
      text = h.text ++ second_text e n k.answer;
      answers = ap (λ t. t ++ second_text e n k.answer) h.answers
          ∙ ap (λ i. seconds_text e 0 h.made ++ second_text e i k.answer) many
          ∙ sym (seconds_more e 0 h.made one);
      told = tells_more a b c p.is_told q.is_told r.is_told h.text (second_text e n k.answer) h.told k.told;
    }

-- ---- lines

pub follows_more : {X : Type 0} (reads : List ℕ → Option X) (s : List ℕ) (xs : List X) (rest : List ℕ) (x : X)
    (line after : List ℕ) → Follows reads s xs rest → 0 < length rest
    → (line, after) ≡ cut_line rest → reads line ≡ Some x → Follows reads s (xs ++ x ∷ []) after
follows_more reads s [] rest x line after h some cut good =
    let P : List ℕ → Type 0 = λ t. Follows reads t (x ∷ []) after in
    subst P (sym h)
    (some, ap reads (sym (ap (λ (p : List ℕ × List ℕ). p.0) cut)) ∙ good, sym (ap (λ (p : List ℕ × List ℕ). p.1) cut))
follows_more reads s (y ∷ ys) rest x line after h some cut good =
    (h.0, h.1, follows_more reads (cut_line s).1 ys rest x line after h.2 some cut good)

runs_more : (mode : Mode) (s : List ℕ) (items : List Item) (rest : List ℕ) (ran : List Ran) (f g h : Fabric)
    (item : Item) (line : List ℕ) (r : Ran) → Follows (item_of mode) s items rest → RunsLines mode s items f ran g
    → line ≡ (cut_line rest).0 → RunsLine mode line item g r → r.after ≡ h
    → RunsLines mode s (items ++ item ∷ []) f (ran ++ r ∷ []) h
runs_more mode s [] rest [] f g h item line r follows runs cut one last = (
  subst (λ (t : List ℕ). RunsLine mode t item f r) (cut ∙ ap (λ t. (cut_line t).0) (sym follows))
      (subst (λ (x : Fabric). RunsLine mode line item x r) runs one),
  sym last,
)
runs_more mode s [] rest (x ∷ ran) f g h item line r follows runs cut one last = absurd runs
runs_more mode s (i ∷ items) rest [] f g h item line r follows runs cut one last = absurd runs
runs_more mode s (i ∷ items) rest (x ∷ ran) f g h item line r follows runs cut one last =
    (runs.0, runs_more mode (cut_line s).1 items rest ran x.after g h item line r follows.2 runs.1 cut one last)

pub played_none : (mode : Mode) (script : List ℕ) (p : Simulator) (a : End) → Played mode script script p p 0 a a
played_none mode script p a = record {
  lines = [];
  follows = refl;
  count = refl;
  ran = [];
  runs = refl;
  out_of_memory = or_false p.is_out_of_memory;
  told = tells_none a p.is_told;
}

pub played_more : (mode : Mode) (script rest line after : List ℕ) (p q r : Simulator) (n : ℕ) (a b c : End)
    → Played mode script rest p q n a b → 0 < length rest → (line, after) ≡ cut_line rest
    → PlaysLine mode line q r b c true → Played mode script after p r (n + 1) a c
played_more mode script rest line after p q r n a b c h some cut k =
    let one = k.2 in
    let first = ap (λ (x : List ℕ × List ℕ). x.0) cut in
    record {
      lines = h.lines ++ k.0 ∷ [];
      follows = follows_more (item_of mode) script h.lines rest k.0 line after h.follows some cut k.1;
      count = let l = length-append h.lines (k.0 ∷ []) in let c = h.count in omega arith;
      ran = h.ran ++ one.ran ∷ [];
      runs = runs_more mode script h.lines rest h.ran p.fabric q.fabric r.fabric k.0 line one.ran h.follows h.runs first
          one.runs one.after;
      out_of_memory = one.out_of_memory ∙ ap (λ x. x || ran_out_of_memory one.ran.made) h.out_of_memory
          ∙ sym (or_assoc p.is_out_of_memory (ran_out_of_memory (made_by h.ran)) (ran_out_of_memory one.ran.made))
          ∙ ap (λ x. p.is_out_of_memory || x) (sym (out_of_memory_both (made_by h.ran) one.ran.made)
          ∙ ap ran_out_of_memory (sym (one_more (λ (x : Ran). x.made) h.ran one.ran)));
      told = subst (λ (t : List ℕ). Tells a c p.is_told r.is_told t)
          (sym (one_more (λ (x : Ran). x.text) h.ran one.ran))
          (tells_more a b c p.is_told q.is_told r.is_told (text_of h.ran) one.ran.text h.told one.told);
    }

-- the next line is a bad one
pub played_bad : (mode : Mode) (script rest line after : List ℕ) (p q r : Simulator) (n : ℕ) (a b c : End)
    (found : BadLine) → Played mode script rest p q n a b → 0 < length rest → (line, after) ≡ cut_line rest
    → PlaysLine mode line q r b c false
    → found.number ≡ n + 1 → found.line.now ≡ line → PlaysTo mode script p r a c (Some found)
played_bad mode script rest line after p q r n a b c found h some cut k is at =
    let first = ap (λ (x : List ℕ × List ℕ). x.0) cut in
    let bad = ap (item_of mode) (sym first) ∙ k.0 in (
      n,
      rest,
      is,
      at ∙ first,
      (some, bad),
      subst (λ (e : End). Played mode script rest p r n a e) (sym k.2)
          (subst (λ (x : Simulator). Played mode script rest p x n a b) (sym k.1) h),
    )

-- ---- a line

-- the line is no query and isn't skipped
pub no_question : (mode : Mode) (line : List ℕ) → asked_in mode line ≡ None → skips mode line ≡ false
    → asks_no_step mode line ≡ false
no_question mode line e f = rw (e, f) refl

-- the line is a query
pub question_asked : (mode : Mode) (line : List ℕ) (q : Question) → asked_in mode line ≡ Some q
    → asks_no_step mode line ≡ true
question_asked mode line q e = rw e refl

-- the line is skipped
pub line_passed : (mode : Mode) (line : List ℕ) → asked_in mode line ≡ None → skips mode line ≡ true
    → asks_no_step mode line ≡ true
line_passed mode line e f = rw (e, f) refl

item_skipped : (mode : Mode) (line : List ℕ) → asks_no_step mode line ≡ true → item_of mode line ≡ Some None
item_skipped mode line e = rw e refl

item_read : (mode : Mode) (line : List ℕ) (found : Option (ℕ × Command)) → asks_no_step mode line ≡ false
    → line_of line ≡ found → item_of mode line ≡ option_map (λ c. Some c) found
item_read mode line found e is = rw (e, is) refl

-- the line requests no step
line_without_step : (mode : Mode) (line : List ℕ) (p q : Simulator) (a b : End) → asks_no_step mode line ≡ true
    → Makes [] p q → Tells a b p.is_told q.is_told (query_text mode line q.fabric (asked_in mode line))
    → PlaysLine mode line p q a b true
line_without_step mode line p q a b e h told = (
  None,
  item_skipped mode line e,
  record {
    ran = record { made = []; after = q.fabric; text = query_text mode line q.fabric (asked_in mode line) };
    after = refl;
    runs = record { asked = refl; goes = h.goes; prints = refl };
    out_of_memory = h.out_of_memory;
    told = told;
  },
)

-- the line was printed, and the query was answered
pub line_answered : (mode : Mode) (line : List ℕ) (p q : Simulator) (a b : End) (question : Question)
    → asked_in mode line ≡ Some question → Makes [] p q
    → Tells a b p.is_told q.is_told (shown_text mode line ++ view_text p.fabric question)
    → PlaysLine mode line p q a b true
line_answered mode line p q a b question e h told =
    line_without_step mode line p q a b (question_asked mode line question e) h
    (subst (λ (t : List ℕ). Tells a b p.is_told q.is_told t)
    (ap (λ (f : Fabric). shown_text mode line ++ view_text f question) (sym h.goes)
    ∙ ap (query_text mode line q.fabric) (sym e)) told)

-- the line is skipped
pub line_skipped : (mode : Mode) (line : List ℕ) (p : Simulator) (a : End) → asked_in mode line ≡ None
    → skips mode line ≡ true → PlaysLine mode line p p a a true
line_skipped mode line p a e f =
    line_without_step mode line p p a a (line_passed mode line e f) (makes_none p p refl refl)
    (subst (λ (t : List ℕ). Tells a a p.is_told p.is_told t) (ap (query_text mode line p.fabric) (sym e))
    (tells_none a p.is_told))

-- the line is a bad one
pub line_bad : (mode : Mode) (line : List ℕ) (p : Simulator) (a : End) → asks_no_step mode line ≡ false
    → line_of line ≡ None → PlaysLine mode line p p a a false
line_bad mode line p a e is = (item_read mode line None e is, refl, refl)

-- the line was printed, and then its command was done
pub line_done : (mode : Mode) (line : List ℕ) (p q r : Simulator) (a b c : End) (edge : ℕ) (command : Command)
    → asks_no_step mode line ≡ false → line_of line ≡ Some (edge, command) → Makes [] p q
    → Tells a b p.is_told q.is_told (shown_text mode line) → Performs edge command q r b c
    → PlaysLine mode line p r a c true
line_done mode line p q r a b c edge command e is shown told done =
    let makes = makes_both p q r [] done.made shown done.makes in (
      Some (edge, command),
      item_read mode line (Some (edge, command)) e is,
      record {
        ran = record { made = done.made; after = r.fabric; text = shown_text mode line ++ done.text };
        after = refl;
        runs = record { asked = done.asked; goes = makes.goes; prints = (done.text, done.answers, refl) };
        out_of_memory = makes.out_of_memory;
        told = tells_more a b c p.is_told q.is_told r.is_told (shown_text mode line) done.text told done.told;
      },
    )
