-- The calls of an end, counted with failures of another end besides its own.
use Rattle.std.proofs.Common.{◌≡◌, ℕ, ◌+◌, ◌-◌, ◌^◌, ◌<◌, min, List, Result, Ok, Err, refl, ap, arith}
use Rattle.ether_wire.specs.declared.ends.Device.{Device}
use Rattle.ether_wire.specs.Ends.{End, Source, IsOpen, Allows, Puts, Gets}
use Rattle.ether_wire.specs.FailAt.{failures_of, writer_beside, reader_beside}

-- ---- calls that are still allowed

pub open_inner : (e : End) (own : ℕ) → IsOpen (writer_beside e own) → IsOpen e
open_inner e own h = omega (arith, h)

pub open_new : (e : End) → IsOpen e → IsOpen (writer_beside e 0)
open_new e h = omega (arith, h)

pub allows_inner : (more : ℕ) (s : Source) (own : ℕ) → Allows more (reader_beside s own) → Allows more s
allows_inner more s own h = (let reads = h.reads in let failures = h.failures in
    record { reads = omega (arith, reads); failures = omega (arith, failures) })

pub allows_new : (more : ℕ) (s : Source) → Allows more s → Allows more (reader_beside s 0)
allows_new more s h = (let reads = h.reads in let failures = h.failures in
    record { reads = omega (arith, reads); failures = omega (arith, failures) })

-- ---- a failure of its own

pub one_more : (inner own : ℕ) → failures_of inner own + 1 < 2 ^ 64
    → failures_of inner (own + 1) ≡ failures_of inner own + 1
one_more inner own h = omega (arith, h)

pub gets_own : (s : Source) (own : ℕ) (buffer : List ℕ) (d : Device) → Allows 1 (reader_beside s own)
    → Gets (reader_beside s own) (reader_beside s (own + 1)) buffer (Err d)
gets_own s own buffer d h = record {
  takes = tt;
  keeps = refl;
  failures = one_more s.failures own h.failures;
  reads = omega arith;
}

pub puts_own : (e : End) (own : ℕ) (text : List ℕ) (d : Device)
    → Puts (writer_beside e own) (writer_beside e (min (own + 1) (2 ^ 64 - 1))) text (Err d)
puts_own e own text d = λ room. omega (arith, room)

-- ---- a call of the other end

pub puts_beside : (e f : End) (own : ℕ) (text : List ℕ) (r : Result (Unit {0}) Device) → Puts e f text r
    → Puts (writer_beside e own) (writer_beside f own) text r
puts_beside e f own text (Ok done) h = ap (λ (x : End). writer_beside x own) h
puts_beside e f own text (Err d) h = λ room. (let one = h (open_inner e own room) in omega (arith, room, one))

pub gets_beside : (s t : Source) (own : ℕ) (buffer : List ℕ) (r : Result ℕ Device) → Allows 1 (reader_beside s own)
    → Gets s t buffer r → Gets (reader_beside s own) (reader_beside t own) buffer r
gets_beside s t own buffer (Ok n) room h = (let same : t.failures ≡ s.failures + 0 = h.failures in let more = h.reads in
    record { takes = h.takes; keeps = h.keeps; failures = omega (arith, same); reads = omega (arith, more) })
gets_beside s t own buffer (Err d) room h = (let one : t.failures ≡ s.failures + 1 = h.failures in let more = h.reads in
    let few = room.failures in
    record { takes = h.takes; keeps = h.keeps; failures = omega (arith, one, few); reads = omega (arith, more) })
