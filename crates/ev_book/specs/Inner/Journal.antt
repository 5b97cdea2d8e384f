-- The journal of an edge: its additions, and its octets.
use Rattle.std.specs.Prelude.{◌≡◌, ℕ, ◌++◌, List}
use Rattle.route_wire.specs.Fields.{Fields}
use Rattle.ev_claims.specs.Speaker.{Speaker}
use Rattle.ev_book.specs.Journal.{AreOwnSince}

-- there are updates with this property
abbrev pub HasOwnSince : Speaker → ℕ → Type 0
HasOwnSince e before = (own : List Fields) × AreOwnSince e before own

-- these updates come after the others
abbrev pub AppendsOwn : Speaker → ℕ → List Fields → List Fields → Type 0
AppendsOwn e before old new = (own : List Fields) → AreOwnSince e before own → new ≡ old ++ own
