-- The model of a writer over memory that grows.
use Rattle.std.specs.Prelude.{Some}
use Rattle.ether_wire.specs.Ends.{End, end_of}
use Rattle.ev_view.specs.declared.sheet.Sheet.{Sheet}

-- the octets written, and the number of failed calls
abbrev pub sheet_end : Sheet → End
sheet_end s = end_of (Some s.octets.items) s.failures
