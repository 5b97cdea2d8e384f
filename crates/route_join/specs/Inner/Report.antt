-- The octets of a report: a line for each register, and one for the owner of each station.
use Rattle.std.specs.Prelude.{ℕ, List, Option}
use Rattle.std.specs.Prelude.{None}
use Rattle.std.specs.Option.{option_map}
use Rattle.route_wire.specs.declared.update.Register.{Register}
use Rattle.route_wire.specs.declared.update.Advert.{Advert}
use Rattle.route_wire.specs.declared.update.Value.{Value}
use Rattle.route_join.specs.Owner.{best_among}
use Rattle.route_join.specs.Report.{lines_of}

-- the owner of a station among these registers
abbrev pub owner_among : List (Register × Value) → ℕ → ℕ → Option ℕ
owner_among all vni mac = option_map (λ (best : Register × Advert). best.0.originator) (best_among vni mac all None)

-- the report of these registers
abbrev pub report_lines : List (Register × Value) → List ℕ
report_lines all = lines_of (owner_among all) all
