-- The next answer of a stream, and its end.
use Rattle.std.proofs.Common.{◌≡◌, ℕ, true, false, List, None, Result, Ok, Err, refl, sym, ap, ◌∙◌}
use Rattle.route_wire.specs.declared.stream.Whole.{Whole}
use Rattle.route_wire.specs.declared.stream.Whole.TheVariants.{Rest, Fault, Length}
use Rattle.route_wire.specs.declared.stream.Next.{Next}
use Rattle.route_wire.specs.declared.stream.Next.TheVariants.{More, Record, Refused, Fault as Faulty}
use Rattle.route_wire.specs.Fields.{Fields}
use Rattle.route_wire.specs.Stream.{whole_up_to}
use Rattle.route_wire.specs.Record.{is_length, reading}
use Rattle.route_wire.specs.Feed.{Held, is_rest, shown, answer_of, next_by, rest_by, TakesNext}
use Rattle.ev_report.specs.declared.ending.Ending.{Ending}
use Rattle.ev_report.specs.declared.ending.Ending.TheVariants.{Ended, Failed, Unended, Faulty as Faults}
use Rattle.ev_report.specs.Notes.{end_note, is_broken}
use Rattle.ev_report.specs.Ends.{fault_in, fault_told}

-- ---- the octets shown after the answers

abbrev pub shown_behind : Next → Whole
shown_behind More = Rest
shown_behind (Record u) = Rest
shown_behind (Refused refusal) = Rest
shown_behind (Faulty fault) = Fault fault

pub shows_next : (old new : Held) (piece : List ℕ) (n : ℕ) (told x : Next) → TakesNext old new piece n told → told ≡ x
    → shown new ≡ shown_behind x
shows_next old new piece n told x t e = ap shown t.after ∙ go (shown t.mid) refl ∙ ap shown_behind (sym t.next ∙ e)
  where
    by_answer : (r : Result Fields ℕ) → Rest ≡ shown_behind (answer_of r)
    by_answer (Ok u) = refl
    by_answer (Err refusal) = refl

    go : (w : Whole) → shown t.mid ≡ w → whole_up_to t.mid.newest (rest_by w t.mid.rest)
        ≡ shown_behind (next_by w t.mid.rest)
    go Rest e = e
    go (Fault f) e = e
    go (Length n) e = by_answer (reading t.mid.rest)

-- ---- the end of a stream

pub rest_shown : (w : Whole) → is_length w ≡ false → None ≡ fault_in w → is_rest w ≡ true
rest_shown Rest e h = refl
rest_shown (Fault f) e h = cc
rest_shown (Length n) e h = cc

-- the octets held make the same note as the stream's rest
module _ (w : Whole) (rest held : List ℕ) (none_held : is_length w ≡ false) (same : is_rest w ≡ true
    → rest ≡ held) where
  pub same_note : (ending : Ending) (n : ℕ) → fault_told ending ≡ fault_in w
      → end_note ending n held ≡ end_note ending n rest
  same_note Ended n h = ap (end_note Ended n) (sym (same (rest_shown w none_held h)))
  same_note Failed n h = refl
  same_note (Faults fault) n h = refl
  same_note Unended n h = refl

  pub same_broken : (ending : Ending) → fault_told ending ≡ fault_in w → is_broken ending held ≡ is_broken ending rest
  same_broken Ended h = ap (is_broken Ended) (sym (same (rest_shown w none_held h)))
  same_broken Failed h = refl
  same_broken (Faults fault) h = refl
  same_broken Unended h = refl
