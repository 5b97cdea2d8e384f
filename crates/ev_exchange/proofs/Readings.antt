-- A connection that is read, one read after the other.
use Rattle.std.proofs.Common.{◌≡◌, ℕ, ◌+◌, ◌<◌, ◌^◌, List, [], ◌∷◌, ◌++◌, take, Some, None, Result, Ok, refl, sym, ap}
use Rattle.std.proofs.Common.{◌∙◌, arith}
use Rattle.ether_wire.specs.Ends.{Source, Allows, Gets}
use Rattle.route_wire.specs.declared.stream.Whole.{Whole}
use Rattle.route_wire.specs.declared.stream.Whole.TheVariants.{Rest, Fault, Length}
use Rattle.route_wire.specs.Fields.{Fields}
use Rattle.route_wire.specs.Stream.{whole_of}
use Rattle.route_wire.specs.Record.{Answers}
use Rattle.ev_report.specs.declared.ending.Ending.{Ending}
use Rattle.ev_report.specs.declared.ending.Ending.TheVariants.{Faulty}
use Rattle.ev_report.specs.Ends.{IsFaultless, fault_in, fault_told}
use Rattle.ev_report.specs.Input.{Gathers}
use Rattle.ev_report.proofs.Gathering.{gathers_none, gathers_more, Stops, gave_by, stops_faulty}
use Rattle.ev_exchange.specs.declared.stream_end.StreamEnd.{StreamEnd}
use Rattle.ev_exchange.specs.Receiving.{Received, Given, HasReceived, Delivers, end_by, fault_by, Receives}

-- the fault of a stream's end is the one that its rest shows
fault_shown : (w : Whole) (rest : List ℕ) → fault_by (end_by w rest) ≡ None → fault_in w ≡ None
fault_shown Rest rest e = refl
fault_shown (Fault fault) rest e = e
fault_shown (Length n) rest e = refl

faultless : (stream : List ℕ) (start given : Given) (counts : List ℕ) (end : StreamEnd)
    → Delivers stream start given counts end → fault_by end ≡ None → IsFaultless 3 stream
faultless stream start given counts end d none = record {
  answers = d.answers;
  rest = d.rest;
  answered = d.answered;
  faultless = fault_shown (whole_of d.rest) d.rest (ap fault_by (sym d.end_is) ∙ none);
}

-- nothing came, so there is no fault
pub empty_faultless : (start given : Given) (counts : List ℕ) (end : StreamEnd) → Delivers [] start given counts end
    → fault_by end ≡ None
empty_faultless start given counts end d = ap fault_by d.end_is ∙ go d.answers d.rest d.answered
  where
    go : (answers : List (Result Fields ℕ)) (rest : List ℕ) → Answers [] answers rest
        → fault_by (end_by (whole_of rest) rest) ≡ None
    go [] rest a = ap (λ (r : List ℕ). fault_by (end_by (whole_of r) r)) (sym a.reads)
    go (x ∷ answers) rest a = cc

-- `turn` reads gave octets, which were received
pub record Coming (turn : ℕ) (source mid : Source) (start given : Given) (r : Received) (end : StreamEnd) :
    Type 0 where
  pub input : List ℕ
  pub read : Gathers turn source mid input
  pub received : HasReceived r start given input
  pub delivers : Delivers input start given r.counts end

pub coming_none : (s : Source) (given : Given) (r : Received) (end : StreamEnd) → HasReceived r given given []
    → Delivers [] given given r.counts end → Coming 0 s s given given r end
coming_none s given r end h d = record { input = []; read = gathers_none s [] refl; received = h; delivers = d }

module _ (turn : ℕ) (source mid : Source) (start given : Given) (r : Received) (end : StreamEnd)
    (c : Coming turn source mid start given r end) where
  pub coming_allows : Allows (2 ^ 40) source → turn < 2 ^ 40 → Allows 1 mid
  coming_allows a turns = record {
    reads = let r = c.read.gives.reads in let m = c.read.many in let b = a.reads in omega arith;
    failures = let r = c.read.gives.unfailed in let b = a.failures in omega arith;
  }

  -- one piece more
  module _ (last : Source) (buffer : List ℕ) (n : ℕ) (got : Gets mid last buffer (Ok n)) (some : 0 < n)
      (given' : Given) (r' : Received) (end' : StreamEnd)
      (took : (start : Given) (stream : List ℕ) → HasReceived r start given stream
      → HasReceived r' start given' (stream ++ take n buffer))
      (ends : (start : Given) (stream : List ℕ) → HasReceived r' start given' stream
      → Delivers stream start given' r'.counts end') where
    pub coming_more : Coming (turn + 1) source last start given' r' end'
    coming_more = record {
      input = c.input ++ take n buffer;
      read = gathers_more turn source mid last c.input buffer c.read n got some;
      received = took start c.input c.received;
      delivers = ends start (c.input ++ take n buffer) (took start c.input c.received);
    }

    pub receives_fault : (fault : ℕ) → turn < 2 ^ 40 → fault_by end ≡ None → Some fault ≡ fault_by end'
        → Receives source last start given' r'.counts end' (Faulty fault)
    receives_fault fault turns none shows = record {
      input = c.input ++ take n buffer;
      gave = gave_by turn source mid c.input c.read 3 (faultless c.input start given r.counts end c.delivers none)
          (Faulty fault) last (c.input ++ take n buffer)
          (stops_faulty turn source mid last c.input buffer c.read n fault turns got some);
      delivers = ends start (c.input ++ take n buffer) (took start c.input c.received);
      shows = shows;
    }

  -- the last read gave no octet that was received
  pub receives_by : fault_by end ≡ None → (ending : Ending) (last : Source)
      → Stops ending source mid last c.read.pieces c.input → fault_told ending ≡ None
      → Receives source last start given r.counts end ending
  receives_by none ending last stops told = record {
    input = c.input;
    gave = gave_by turn source mid c.input c.read 3 (faultless c.input start given r.counts end c.delivers none) ending
        last c.input stops;
    delivers = c.delivers;
    shows = told ∙ sym none;
  }

-- the result holds for an equal receiver, end and ending
pub receives_as : (old new : Source) (start given : Given) (r r' : Received) (end end' : StreamEnd)
    (ending ending' : Ending) → Receives old new start given r.counts end ending
    → (r' ≡ r) × (end' ≡ end) × (ending' ≡ ending) → Receives old new start given r'.counts end' ending'
receives_as old new start given r r' end end' ending ending' h e = rw (e.0, e.1, e.2) h
