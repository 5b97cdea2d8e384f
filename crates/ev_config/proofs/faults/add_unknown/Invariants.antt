use Rattle.std.proofs.Common.{◌≡◌, ◌++◌, map, string_bytes}
use Rattle.toml.specs.View.{table_view}
use Rattle.ev_config.specs.Keys.{keys_of}
use Rattle.ev_config.specs.Faults.{unknown}
use Rattle.ev_config.specs.Inner.Faults.{spot_of, faults_view, row_of}
use Rattle.ev_config.proofs.faults.add_unknown.Given as goal

abbrev pub invariant-loop-key : goal.invariant-loop-key
invariant-loop-key l =
    faults_view l.faults.items ++ unknown (spot_of l.place) (map row_of l.rows) (map string_bytes l.key-iterator)
    ≡ faults_view l.initial.faults.items ++ unknown (spot_of l.place) (map row_of l.rows) (keys_of (table_view l.table))
