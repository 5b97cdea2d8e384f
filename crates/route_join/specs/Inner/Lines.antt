-- A report as it is written: group by group, in each the registers' lines, followed by the owner's.
use Rattle.std.specs.Prelude.{◌≡◌, ℕ, List, [], ◌∷◌, ◌++◌, decimal, Option, Some, None}
use Rattle.route_wire.specs.declared.update.Register.{Register}
use Rattle.route_wire.specs.declared.update.Value.{Value}
use Rattle.route_wire.specs.Fields.{Fields}
use Rattle.route_join.specs.Subject.{Subject, subject_of}
use Rattle.route_join.specs.Table.{entries_of}
use Rattle.route_join.specs.Report.{station_text, register_line}
use Rattle.route_join.specs.Inner.Report.{report_lines}

-- a VNI, and the address in its network
abbrev pub place_text : ℕ → Option ℕ → List ℕ
place_text vni None = decimal vni
place_text vni (Some mac) = station_text vni mac

-- the text of the subject in each line of its group
abbrev pub subject_text : Subject → List ℕ
subject_text s = place_text s.vni s.mac

-- each of these registers has a subject with this text
abbrev pub HaveText : List ℕ → List (Register × Value) → Type 0
HaveText text [] = Unit {0}
HaveText text (e ∷ es) = (subject_text (subject_of e.0.key) ≡ text) × HaveText text es

-- only the registers' lines
abbrev pub register_lines : List (Register × Value) → List ℕ
register_lines [] = []
register_lines (e ∷ es) = register_line e.0 e.1 ++ register_lines es

-- each group's report, one after the other
abbrev pub group_lines : List (Subject × List Fields) → List ℕ
group_lines [] = []
group_lines (g ∷ gs) = report_lines (entries_of g.1) ++ group_lines gs
