-- A reader that remembers the first octet that it returned.
use Rattle.std.specs.Prelude.{ℕ, List, [], ◌∷◌, take, Option, Some, None, Result, Ok, Err}
use Rattle.ether_wire.specs.Ends.{Source}
use Rattle.ether_wire.specs.declared.ends.Device.{Device}
use Rattle.evpnd.specs.declared.seen.Seen.{Seen}

-- the end of the other reader
abbrev pub seen_end : {R : Type 0} → (R → Source) → Seen R → Source
seen_end end s = end s.reader

abbrev pub first_seen : {R : Type 0} → Seen R → Option ℕ
first_seen s = s.first

-- the first of some octets
abbrev pub first_of : List ℕ → Option ℕ
first_of [] = None
first_of (octet ∷ octets) = Some octet

-- the first octet, after these octets
abbrev pub first_or : Option ℕ → List ℕ → Option ℕ
first_or (Some octet) octets = Some octet
first_or None octets = first_of octets

-- the first octet, after a read that put n octets at the front of the buffer, or failed
abbrev pub first_after : Option ℕ → List ℕ → Result ℕ Device → Option ℕ
first_after first buffer (Ok n) = first_or first (take n buffer)
first_after first buffer (Err device) = first
