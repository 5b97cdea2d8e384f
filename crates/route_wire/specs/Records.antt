-- The records of updates, and a stream's answers for them.
use Rattle.std.specs.Prelude.{ℕ, List, map, Result, Ok}
use Rattle.std.specs.List.{concat}
use Rattle.route_wire.specs.Fields.{Fields}
use Rattle.route_wire.specs.Encode.{spelling_of}

-- the records of updates, one after the other
abbrev pub records_of : List Fields → List ℕ
records_of us = concat (map spelling_of us)

-- these updates, as a stream's answers
abbrev pub all_ok : List Fields → List (Result Fields ℕ)
all_ok us = map (λ u. Ok u) us
