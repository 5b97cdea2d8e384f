-- A conversation, read by read.
use Rattle.std.proofs.Common.{◌≡◌, inl, inr, ℕ, ◌+◌, ◌<◌, ◌^◌, List, [], ◌++◌, take, length, Option, Result, Ok, Err}
use Rattle.std.proofs.Common.{refl, sym, ap, ◌∙◌, arith}
use Rattle.ether_wire.specs.declared.ends.Device.{Device}
use Rattle.ether_wire.specs.Ends.{End, Source, Allows, Gets}
use Rattle.ev_report.specs.Input.{Gathers}
use Rattle.ev_report.proofs.Gathering.{gathers_none, gathers_more, whole_ended}
use Rattle.ev_report.proofs.Reading.{same_source, prepend_known_none}
use Rattle.ev_console.specs.Asking.{Asked}
use Rattle.ev_console.specs.Conversation.{Converses, missing_feed}
use Rattle.ev_console.specs.Inner.Conversation.{SoFar, TakesOctets, TakesEnd}
use Rattle.ev_console.proofs.Conversing.{sofar_none, sofar_whole}

-- `turn` reads returned octets, which were processed
pub record Goes (turn count : ℕ) (source mid : Source) (held : List ℕ) (before after : Option (List Asked))
    (old new : End) : Type 0 where
  pub input : List ℕ
  pub read : Gathers turn source mid input
  pub sofar : SoFar count input held before after old new

pub goes_none : (count : ℕ) (s : Source) (held : List ℕ) (asked : Option (List Asked)) (e : End) → held ≡ []
    → Goes 0 count s s held asked asked e e
goes_none count s held asked e empty = record {
  input = [];
  read = gathers_none s [] refl;
  sofar = sofar_none count held asked e empty;
}

module _ (turn count : ℕ) (source mid last : Source) (held buffer : List ℕ) (before middle : Option (List Asked))
    (old e : End) (g : Goes turn count source mid held before middle old e) where
  pub goes_allows : Allows (2 ^ 40) source → turn < 2 ^ 40 → Allows 1 mid
  goes_allows a turns = record {
    reads = let r = g.read.gives.reads in let m = g.read.many in let b = a.reads in omega arith;
    failures = let r = g.read.gives.unfailed in let b = a.failures in omega arith;
  }

  module _ (n : ℕ) (got : Gets mid last buffer (Ok n)) (held' : List ℕ) (after : Option (List Asked)) (new : End) where
    -- one piece more
    pub goes_more : (done : Unit {0}) → 0 < n
        → TakesOctets count (take n buffer) held held' middle after e new (Ok done)
        → Goes (turn + 1) count source last held' before after old new
    goes_more done some takes = record {
      input = g.input ++ take n buffer;
      read = gathers_more turn source mid last g.input buffer g.read n got some;
      sofar = takes g.input before old g.sofar;
    }

    -- one piece more, for which a call of the writer failed
    pub goes_unwritten : (device : Device) → 0 < n
        → TakesOctets count (take n buffer) held held' middle after e new (Err device)
        → Converses count source last before after old new (Err device)
    goes_unwritten device some takes = inr (record {
      turns = turn + 1;
      last = last;
      input = g.input ++ take n buffer;
      read = gathers_more turn source mid last g.input buffer g.read n got some;
      octets = g.input ++ take n buffer;
      looked = inl (refl, refl);
      breaks = takes g.input before old g.sofar;
    })

  -- the end of the input
  pub goes_end : (after : Option (List Asked)) (new : End) (r : Result (Unit {0}) Device) → turn < 2 ^ 40
      → 0 < length buffer → Gets mid last buffer (Ok 0) → TakesEnd count held middle after e new r
      → Converses count source last before after old new r
  goes_end after new (Ok done) turns room got takes =
      let s = sofar_whole count (g.input ++ missing_feed g.input) before after old new
      (takes g.input before old g.sofar) in
      record {
        input = g.input;
        read = whole_ended turn source mid last g.input buffer g.read turns room got;
        exchanges = s.0;
        are = s.1;
        told = s.2;
        written = s.3;
      }
  goes_end after new (Err device) turns room got takes = inr (record {
    turns = turn;
    last = mid;
    input = g.input;
    read = g.read;
    octets = g.input ++ missing_feed g.input;
    looked = inr (
      same_source last (record mid { reads = mid.reads + 1 }) (sym (got.takes.next ∙ prepend_known_none last.octets))
          (got.failures ∙ grind arith) got.reads,
      refl,
    );
    breaks = takes g.input before old g.sofar;
  })

  -- a read failed
  pub goes_unread : (device : Device) → Gets mid last buffer (Err device)
      → Converses count source last before middle old e (Err device)
  goes_unread device got = inl (record {
    turns = turn;
    last = mid;
    input = g.input;
    read = g.read;
    stops = inl (same_source last (record mid { failures = mid.failures + 1; reads = mid.reads + 1 }) got.keeps
        got.failures got.reads);
    exchanges = g.sofar.exchanges;
    rest = g.sofar.pending;
    begun = g.sofar.begun;
    are = g.sofar.are;
    told = g.sofar.told;
    written = g.sofar.written;
  })

  -- too many reads
  pub goes_on : (device : Device) → turn ≡ 2 ^ 40 → Converses count source mid before middle old e (Err device)
  goes_on device turns = inl (record {
    turns = turn;
    last = mid;
    input = g.input;
    read = g.read;
    stops = inr (refl, turns);
    exchanges = g.sofar.exchanges;
    rest = g.sofar.pending;
    begun = g.sofar.begun;
    are = g.sofar.are;
    told = g.sofar.told;
    written = g.sofar.written;
  })
