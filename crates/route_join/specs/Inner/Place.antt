-- The place of a register among updates in the order of their registers (`Ok`), or its place after an insertion
-- (`Err`).
use Rattle.std.specs.Prelude.{ℕ, ◌+◌, List, [], ◌∷◌, Result, Ok, Err}
use Rattle.std.specs.FinMap.Entries.{by_order}
use Rattle.route_wire.specs.declared.update.Register.{Register}
use Rattle.route_wire.specs.Fields.{Fields}
use Rattle.route_wire.specs.Order.{register_cmp}

abbrev pub later_by : ℕ → Result ℕ ℕ → Result ℕ ℕ
later_by n (Ok at) = Ok (n + at)
later_by n (Err at) = Err (n + at)

abbrev pub place_of : List Fields → Register → Result ℕ ℕ
place_of [] q = Err 0
place_of (u ∷ us) q = by_order (register_cmp q u.register) (Err 0) (Ok 0) (later_by 1 (place_of us q))
