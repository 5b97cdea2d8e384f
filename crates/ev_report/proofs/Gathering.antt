-- So many reads that gave octets, and how the reading ended then.
use Rattle.std.proofs.Common.{◌≡◌, inl, inr, ℕ, ◌+◌, ◌<◌, ◌≤◌, ◌^◌, List, [], ◌∷◌, ◌++◌, take, length, length-append}
use Rattle.std.proofs.Common.{Ok, Err, refl, sym, ap, subst, ◌∙◌, arith}
use Rattle.ether_wire.specs.declared.ends.Device as device
use Rattle.ether_wire.specs.Ends.{Source, Gets}
use Rattle.ev_report.specs.declared.ending.Ending.{Ending}
use Rattle.ev_report.specs.declared.ending.Ending.TheVariants.{Ended, Failed, Faulty, Unended}
use Rattle.ev_report.specs.declared.input.ReadError.TheVariants.{Device, NoMemory}
use Rattle.ev_report.specs.Ends.{EndsBy, Gave, IsFaultless}
use Rattle.ev_report.specs.Input.{ReadsWhole, Gathers}
use Rattle.ev_report.proofs.Reading.{prepend_known_none, at_end, same_source, concat_more, gives_none, gives_one}
use Rattle.ev_report.proofs.Reading.{gives_more}

pub gathers_none : (s : Source) (input : List ℕ) → input ≡ [] → Gathers 0 s s input
gathers_none s input e = record { pieces = []; gives = gives_none s; many = refl; is = e }

-- behind those pieces the reading ended so, and the octets are these; it took at most 2^40 reads
pub record Stops (ending : Ending) (s mid last : Source) (pieces : List (List ℕ)) (octets : List ℕ) : Type 0 where
  pub ends : EndsBy ending mid last pieces octets
  pub few : last.reads ≤ s.reads + 2 ^ 40

module _ (turn : ℕ) (s mid : Source) (input : List ℕ) (g : Gathers turn s mid input) where
  -- after 2^40 reads
  pub stops_unended : turn ≡ 2 ^ 40 → Stops Unended s mid mid g.pieces input
  stops_unended turns = record {
    ends = (refl, g.many ∙ turns, g.is);
    few = let a = g.gives.reads in let k = g.many in omega arith;
  }

  pub gave_by : (newest : ℕ) → IsFaultless newest input → (ending : Ending) (last : Source) (octets : List ℕ)
      → Stops ending s mid last g.pieces octets → Gave newest s last octets ending
  gave_by newest faultless ending last octets stops = record {
    pieces = g.pieces;
    behind = mid;
    gives = g.gives;
    faultless = subst (IsFaultless newest) g.is faultless;
    ends = stops.ends;
    few = stops.few;
  }

module _ (turn : ℕ) (s mid last : Source) (input buffer : List ℕ) (g : Gathers turn s mid input) where
  -- ---- a read more
  pub gathers_more : (n : ℕ) → Gets mid last buffer (Ok n) → 0 < n → Gathers (turn + 1) s last (input ++ take n buffer)
  gathers_more n got some = record {
    pieces = g.pieces ++ take n buffer ∷ [];
    gives = gives_more s mid last g.pieces (take n buffer) g.gives (gives_one mid last buffer n got some);
    many = let k = g.many in let l = length-append g.pieces (take n buffer ∷ []) in omega arith;
    is = ap (λ x. x ++ take n buffer) g.is ∙ sym (concat_more g.pieces (take n buffer));
  }

  within : turn < 2 ^ 40 → last.reads ≡ mid.reads + 1 → last.reads ≤ s.reads + 2 ^ 40
  within turns read = let a = g.gives.reads in let k = g.many in omega arith

  pub stops_ended : turn < 2 ^ 40 → 0 < length buffer → Gets mid last buffer (Ok 0)
      → Stops Ended s mid last g.pieces input
  stops_ended turns room got = record {
    ends = (
      at_end mid.octets (got.takes.ends room refl),
      same_source last (record mid { reads = mid.reads + 1 }) (sym (got.takes.next ∙ prepend_known_none last.octets))
          (got.failures ∙ grind arith) got.reads,
      g.is,
    );
    few = within turns got.reads;
  }

  pub stops_failed : (failed : device.Device) → turn < 2 ^ 40 → Gets mid last buffer (Err failed)
      → Stops Failed s mid last g.pieces input
  stops_failed failed turns got = record {
    ends = (
      same_source last (record mid { failures = mid.failures + 1; reads = mid.reads + 1 }) got.keeps got.failures
          got.reads,
      g.is,
    );
    few = within turns got.reads;
  }

  pub stops_faulty : (n fault : ℕ) → turn < 2 ^ 40 → Gets mid last buffer (Ok n) → 0 < n
      → Stops (Faulty fault) s mid last g.pieces (input ++ take n buffer)
  stops_faulty n fault turns got some = record {
    ends = (take n buffer, gives_one mid last buffer n got some, ap (λ x. x ++ take n buffer) g.is);
    few = within turns got.reads;
  }

  -- ---- an input that is read whole
  pub whole_ended : turn < 2 ^ 40 → 0 < length buffer → Gets mid last buffer (Ok 0) → ReadsWhole s last (Ok input)
  whole_ended turns room got = let stops = stops_ended turns room got in
      record { pieces = g.pieces; behind = mid; gives = g.gives; stops = stops.ends; few = stops.few }

  pub whole_failed : (failed : device.Device) → turn < 2 ^ 40 → Gets mid last buffer (Err failed)
      → ReadsWhole s last (Err Device)
  whole_failed failed turns got = let stops = stops_failed failed turns got in
      record { pieces = g.pieces; behind = mid; gives = g.gives; stops = inl (stops.ends.0, refl); few = stops.few }

  pub whole_unended : turn ≡ 2 ^ 40 → ReadsWhole s mid (Err Device)
  whole_unended turns = let stops = stops_unended turn s mid input g turns in record {
    pieces = g.pieces;
    behind = mid;
    gives = g.gives;
    stops = inr (stops.ends.0, stops.ends.1, refl);
    few = stops.few;
  }

  pub whole_refused : (n : ℕ) → turn < 2 ^ 40 → Gets mid last buffer (Ok n) → 0 < n → ReadsWhole s last (Err NoMemory)
  whole_refused n turns got some = let more = gathers_more n got some in
      record { pieces = more.pieces; behind = last; gives = more.gives; stops = refl; few = within turns got.reads }
