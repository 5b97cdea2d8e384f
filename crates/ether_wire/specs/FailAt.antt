-- Ends with one call that fails.
use Rattle.std.specs.Prelude.{ℕ, ◌+◌, ◌-◌, ◌^◌, min}
use Rattle.ether_wire.specs.declared.fail_at.FailAt.{FailAt}
use Rattle.ether_wire.specs.Ends.{End, Source, end_of, source_of}

-- the end that the other calls go to
abbrev pub inner_end : {E : Type 0} → FailAt E → E
inner_end f = f.inner

-- the number of calls so far, and the number of the call that fails
abbrev pub calls_of : {E : Type 0} → FailAt E → ℕ
calls_of f = f.calls

abbrev pub fails_at : {E : Type 0} → FailAt E → ℕ
fails_at f = f.at

-- the failures of the other end plus its own, at most the largest number of 64 bits
abbrev pub failures_of : ℕ → ℕ → ℕ
failures_of inner own = min (inner + own) (2 ^ 64 - 1)

-- the octets of the other end, with `own` more failures
abbrev pub writer_beside : End → ℕ → End
writer_beside e own = end_of e.octets (failures_of e.failures own)

abbrev pub reader_beside : Source → ℕ → Source
reader_beside s own = source_of s.octets (failures_of s.failures own) (s.reads + own)

abbrev pub failing_writer : {W : Type 0} → (W → End) → FailAt W → End
failing_writer end f = writer_beside (end f.inner) f.failures

abbrev pub failing_reader : {R : Type 0} → (R → Source) → FailAt R → Source
failing_reader end f = reader_beside (end f.inner) f.failures
