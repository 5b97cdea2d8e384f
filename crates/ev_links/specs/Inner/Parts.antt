-- The counts of a line's parts.
use Rattle.std.specs.Prelude.{ℕ, ◌+◌, ◌-◌, ◌/◌, ◌&&◌, Bool, false, nat_lt, nat_le, List, slice_get, slice_set}
use Rattle.std.specs.Prelude.{Option, Some, None}
use Rattle.std.specs.Option.{option_map_or}
use Rattle.ev_links.specs.declared.parts.SourceQueue.{SourceQueue}

abbrev pub no_part : SourceQueue
no_part = record { frames = 0; octets = 0 }

-- the part, one of this number of parts, has room for a frame of `size` octets
abbrev pub fits_in : ℕ → Option SourceQueue → ℕ → Bool
fits_in parts None size = false
fits_in parts (Some p) size = nat_lt p.frames (1024 / parts) && nat_le (p.octets + size) (262144 / parts)

-- one more frame of `size` octets, and one frame less, in a part
abbrev pub one_more : ℕ → SourceQueue → SourceQueue
one_more size p = record { frames = p.frames + 1; octets = p.octets + size }

abbrev pub one_less : ℕ → SourceQueue → SourceQueue
one_less size p = record { frames = p.frames - 1; octets = p.octets - size }

-- in the part of this source, if it has one
abbrev pub with_one : ℕ → ℕ → List SourceQueue → List SourceQueue
with_one source size parts =
    option_map_or (λ p. slice_set parts source (one_more size p)) (slice_get parts source) parts

abbrev pub without_one : ℕ → ℕ → List SourceQueue → List SourceQueue
without_one source size parts =
    option_map_or (λ p. slice_set parts source (one_less size p)) (slice_get parts source) parts
