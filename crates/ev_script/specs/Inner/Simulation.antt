-- The note about a bad line, and the status of a script that wasn't read to its end.
use Rattle.std.specs.Prelude.{ℕ, List, []}
use Rattle.std.specs.Prelude.{Option, Some, None}
use Rattle.ev_report.specs.declared.input.ReadError.{ReadError}
use Rattle.ev_report.specs.declared.input.ReadError.TheVariants.{Device, NoMemory}
use Rattle.ev_script.specs.declared.simulate.simulator.BadLine.{BadLine}
use Rattle.ev_script.specs.Simulation.{bad_line}
use Rattle.ev_report.specs.declared.status.Status.{Status}
use Rattle.ev_report.specs.declared.status.Status.TheVariants as statuses

-- the note about this line, if there is one
abbrev pub note_of_line : Option BadLine → List ℕ
note_of_line None = []
note_of_line (Some bad) = bad_line bad.number bad.line.now

-- the status of a script that wasn't read to its end
abbrev pub read_error_status : ReadError → Status
read_error_status Device = statuses.Device
read_error_status NoMemory = statuses.Memory
