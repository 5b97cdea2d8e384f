use Rattle.std.proofs.Common.{rules, ◌≤◌, length, subst}
use Rattle.rstp_run.specs.Rules.{Tree}
use Rattle.rstp_run.specs.Events.{IsPort}
use Rattle.ev_script.specs.Printing.{port_text}
use Rattle.ev_script.specs.Simulation.{ShowsPort}
use Rattle.ev_script.proofs.Showing.{shows_port, shows_no_port}
use Rattle.ev_script.proofs.simulate.simulator.port_of.Goals as goal

pub returns-then-port-eq0 : goal.returns-then-port-eq0
returns-then-port-eq0 c =
    let outside : IsPort c.args.port (length c.args.edge.now.tree.ports) → ⊥ = search rules in
    λ e. shows_no_port e c.args.port c.args.edge.now.tree outside

pub returns : goal.returns
returns c =
    let some : 1 ≤ c.args.port = search rules in
    λ e. subst (λ (t : Tree). ShowsPort e c.args.port t (port_text e c.args.port c.port.result.now c.passes.result))
    c.bridge-bridge.ensures
    (shows_port e c.args.port c.bridge-bridge.result.now c.port.result.now c.passes.result some c.port.ensures.value
    c.passes.ensures.exact)
