use Rattle.std.proofs.Common.{◌≡◌, drop}
use Rattle.toml.specs.View.{items_view}
use Rattle.ev_config.specs.Keys.{are_tables}
use Rattle.ev_config.proofs.values.are_tables.Given as goal

abbrev pub invariant-loop-value : goal.invariant-loop-value
invariant-loop-value l = are_tables (items_view (drop l.value-index l.array.items))
    ≡ are_tables (items_view l.array.items)
