-- The originators that a command line lists.
use Rattle.std.specs.Prelude.{ℕ, List}
use Rattle.std.specs.Prelude.{Result, Ok, Err}
use Rattle.ev_report.specs.declared.originators.ListFault.{ListFault}
use Rattle.arrayvec.specs.ArrayVec.{ArrayVec}
use Rattle.ether_wire.specs.declared.addr.Addr.{Addr}

-- the list, or the fault
abbrev pub items_of : Result (ArrayVec Addr) ListFault → Result (List ℕ) ListFault
items_of (Ok originators) = Ok originators.items
items_of (Err fault) = Err fault
