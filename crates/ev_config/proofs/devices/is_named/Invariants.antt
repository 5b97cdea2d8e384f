use Rattle.std.proofs.Common.{◌≡◌, drop}
use Rattle.ev_config.specs.Faults.{is_named}
use Rattle.ev_config.specs.Inner.Faults.{named_view}
use Rattle.ev_config.proofs.devices.is_named.Given as goal

abbrev pub invariant-loop-port : goal.invariant-loop-port
invariant-loop-port l = is_named (named_view (drop l.port-index l.ports)) l.name ≡ is_named (named_view l.ports) l.name
