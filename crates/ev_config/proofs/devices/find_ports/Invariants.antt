use Rattle.std.proofs.Common.{◌≡◌, ◌+◌, ◌++◌, drop}
use Rattle.toml.specs.View.{items_view}
use Rattle.ev_config.specs.Faults.{named_ports}
use Rattle.ev_config.specs.Inner.Faults.{named_view}
use Rattle.ev_config.proofs.devices.find_ports.Given as goal

abbrev pub invariant-loop-value : goal.invariant-loop-value
invariant-loop-value l = record {
  count : l.port ≡ l.value-index + 1;
  value : named_view l.found.items ++ named_ports l.edge l.port (items_view (drop l.value-index l.tables.items))
      ≡ named_view l.initial.found.items ++ named_ports l.edge 1 (items_view l.tables.items);
}
