-- The octets of a stream, read after read, and how its reading ended.
use Rattle.std.proofs.Common.{◌≡◌, ℕ, ◌+◌, ◌<◌, List, [], ◌++◌, take, None, Ok, refl, sym, ap, subst, ◌∙◌}
use Rattle.ether_wire.specs.Ends.{Source, Gets}
use Rattle.route_wire.specs.declared.stream.Whole.TheVariants.{Rest, Fault}
use Rattle.route_wire.specs.Feed.{HasRead, shown}
use Rattle.route_wire.specs.Stream.{whole_up_to}
use Rattle.route_wire.specs.Record.{is_length, AnswersUpTo}
use Rattle.route_wire.proofs.Cuttings.{read_whole_stream}
use Rattle.ev_report.specs.declared.ending.Ending.{Ending}
use Rattle.ev_report.specs.declared.ending.Ending.TheVariants.{Faulty}
use Rattle.ev_report.specs.Ends.{fault_in, fault_told, IsFaultless, Gave}
use Rattle.ev_report.specs.Input.{Gathers}
use Rattle.ev_report.specs.Inner.Progressing.{State, TakesOctets, TakesInput}
use Rattle.ev_report.proofs.Gathering.{gathers_none, gathers_more, Stops, gave_by}
use Rattle.ev_report.proofs.Taking.{octets_none, octets_both}

-- the octets of this number of reads
pub record TakesReads (turn : ℕ) (reader reader' : Source) (old new : State) : Type 0 where
  pub input : List ℕ
  pub read : Gathers turn reader reader' input
  pub octets : TakesOctets input old new

pub reads_none : (reader : Source) (s : State) → TakesReads 0 reader reader s s
reads_none reader s = record { input = []; read = gathers_none reader [] refl; octets = octets_none s }

-- the octets taken so far show no fault
faultless_octets : (octets : List ℕ) (s t : State) → s.intake.feed.rest ≡ [] → TakesOctets octets s t
    → shown t.intake.feed ≡ Rest → IsFaultless s.intake.feed.newest octets
faultless_octets octets s t empty o shows =
    let first : HasRead s.intake.feed [] [] =
    record { skipped = []; reads = ap (λ (r : List ℕ). r ++ []) (sym empty); faulty = λ _. refl } in
    let found = read_whole_stream t.intake.feed octets o.answers (o.read [] [] first) (ap is_length shows) in
    record {
      answers = o.answers;
      rest = found.0;
      answered = subst (λ v. AnswersUpTo v octets o.answers found.0) o.version found.1;
      faultless = ap fault_in (ap (λ v. whole_up_to v found.0) (sym o.version) ∙ found.2 ∙ shows);
    }

module _ (turn : ℕ) (reader mid : Source) (s t : State) (r : TakesReads turn reader mid s t) where
  -- a read that gave octets, which were taken
  pub reads_more : (last : Source) (u : State) (buffer : List ℕ) (n : ℕ) → Gets mid last buffer (Ok n) → 0 < n
      → TakesOctets (take n buffer) t u → TakesReads (turn + 1) reader last s u
  reads_more last u buffer n got some o = record {
    input = r.input ++ take n buffer;
    read = gathers_more turn reader mid last r.input buffer r.read n got some;
    octets = octets_both r.input (take n buffer) s t u r.octets o;
  }

  module _ (empty : s.intake.feed.rest ≡ []) (shows : shown t.intake.feed ≡ Rest) where
    gave : (ending : Ending) (last : Source) (octets : List ℕ) → Stops ending reader mid last r.read.pieces octets
        → Gave s.intake.feed.newest reader last octets ending
    gave = gave_by turn reader mid r.input r.read s.intake.feed.newest
        (faultless_octets r.input s t empty r.octets shows)

    -- no octet of a last read was taken
    pub input_by : (ending : Ending) (last : Source) → Stops ending reader mid last r.read.pieces r.input
        → fault_told ending ≡ None → TakesInput s.intake.feed.newest ending reader last s t
    input_by ending last stops none = record {
      input = r.input;
      gave = gave ending last r.input stops;
      octets = r.octets;
      shows = none ∙ ap fault_in (sym shows);
      none_held = ap is_length shows;
    }

    -- those of the last read show a fault
    pub input_faulty : (last : Source) (u : State) (octets : List ℕ) (fault : ℕ)
        → Stops (Faulty fault) reader mid last r.read.pieces (r.input ++ octets) → TakesOctets octets t u
        → shown u.intake.feed ≡ Fault fault → TakesInput s.intake.feed.newest (Faulty fault) reader last s u
    input_faulty last u octets fault stops o faulty = record {
      input = r.input ++ octets;
      gave = gave (Faulty fault) last (r.input ++ octets) stops;
      octets = octets_both r.input octets s t u r.octets o;
      shows = ap fault_in (sym faulty);
      none_held = ap is_length faulty;
    }
