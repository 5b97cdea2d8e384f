-- Sets of access ports as numbers of 64 bits: port p, from 1 to 64, is bit p - 1.
use Rattle.std.specs.Prelude.{◌≡◌, ℕ, zero, suc, ◌+◌, ◌-◌, ◌^◌, ◌<◌, ◌≤◌, Bool, true, false, ◌==◌, List, [], ◌∷◌, ◌++◌}
use Rattle.std.specs.Prelude.{codes, filter, Contains, ◌↔◌, bit_and, bit_or}
use Rattle.std.specs.Fmt.{decimal}
use Rattle.std.specs.Int.{bit_at, bit_not, w64}
use Rattle.std.specs.List.{range_with_len}
use Rattle.std.specs.List.Sorted.{IsStrictlyIncreasing}

pub record IsPort (p : ℕ) : Type 0 where
  pub least : 1 ≤ p
  pub most : p ≤ 64

-- the place of a port among all ports in ascending order, port 1 first
abbrev pub place_of_port : ℕ → ℕ
place_of_port p = p - 1

-- is the port in the set; 0 is no port
unfoldable pub has_port : ℕ → ℕ → Bool
has_port set zero = false
has_port set (suc bit) = bit_at set bit == 1

abbrev pub no_ports : ℕ
no_ports = 0

-- the set and this port
unfoldable pub with_port : ℕ → ℕ → ℕ
with_port set p = bit_or set (2 ^ (p - 1))

-- the set but for this port
unfoldable pub without_port : ℕ → ℕ → ℕ
without_port set p = bit_and set (bit_not w64 (2 ^ (p - 1)))

-- the ports of both sets
unfoldable pub common_ports : ℕ → ℕ → ℕ
common_ports set other = bit_and set other

-- the ports of the set after this number, ascending
unfoldable pub ports_after : ℕ → ℕ → List ℕ
ports_after set after = filter (has_port set) (range_with_len (after + 1) (64 - after))

-- all its ports, ascending
abbrev pub ports_of : ℕ → List ℕ
ports_of set = ports_after set 0

-- the first port of the set after this number, and which come after it
pub record IsNextPort (set after p : ℕ) : Type 0 where
  pub port : IsPort p
  pub later : after < p
  pub there : has_port set p ≡ true
  pub rest : ports_after set after ≡ p ∷ ports_after set p

-- each port of the set once, ascending, and no more
pub record ArePortsOf (set : ℕ) (ports : List ℕ) : Type 0 where
  pub ascending : IsStrictlyIncreasing ports
  pub exact : (p : ℕ) → Contains ports p ↔ (IsPort p × (has_port set p ≡ true))

-- ---- as text: their numbers with commas, or a dash for none

-- each number with a comma before it
abbrev pub comma_text : List ℕ → List ℕ
comma_text [] = []
comma_text (p ∷ ports) = codes "," ++ decimal p ++ comma_text ports

abbrev pub list_text : List ℕ → List ℕ
list_text [] = codes "-"
list_text (p ∷ ports) = decimal p ++ comma_text ports

abbrev pub ports_text : ℕ → List ℕ
ports_text set = list_text (ports_of set)
