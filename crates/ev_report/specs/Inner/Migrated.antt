-- The migrated updates of versions 1 and 2, in which a register was an originator's network and MAC
use Rattle.std.specs.Prelude.{if◌then◌else◌, List, [], ◌∷◌}
use Rattle.route_wire.specs.Fields.{Fields}
use Rattle.ev_report.specs.Migrated.{is_same_old, newer_old}

-- the updates behind those of the old register
abbrev pub behind : Fields → List Fields → List Fields
behind best [] = []
behind best (u ∷ us) = if is_same_old best.register u.register then behind (newer_old best u) us else u ∷ us
