-- The status with which a program ends.
use Rattle.std.specs.Prelude.{ℕ, Bool, true, false}
use Rattle.ev_report.specs.declared.status.Status.{Status}
use Rattle.ev_report.specs.declared.status.Status.TheVariants.{Done, Broken, Usage, Memory, Device}

-- the number with which the process exits
abbrev pub code_of : Status → ℕ
code_of Done = 0
code_of Broken = 1
code_of Usage = 2
code_of Memory = 3
code_of Device = 4

-- everything succeeded
abbrev pub is_done : Status → Bool
is_done Done = true
is_done Broken = false
is_done Usage = false
is_done Memory = false
is_done Device = false

-- the input has a fault, and nothing worse applies
abbrev pub is_broken : Status → Bool
is_broken Done = false
is_broken Broken = true
is_broken Usage = false
is_broken Memory = false
is_broken Device = false
