use Rattle.std.proofs.Common.{rules, ◌≡◌, Some, None}
use Rattle.ev_fabric.specs.Fabric.{nth}
use Rattle.ev_script.specs.Inner.Printing.{seen_text}
use Rattle.ev_script.proofs.Showing.{shows_port_of, shows_no_edge}
use Rattle.ev_script.proofs.simulate.simulator.port_at.Goals as goal

pub returns-in-Some : goal.returns-in-Some
returns-in-Some c =
    let edge = c.in-Some.found.now in
    let there : nth c.args.fabric.now.edges c.args.edge ≡ Some edge = search rules in
    shows_port_of c.args.edge c.args.port (nth c.args.fabric.now.edges c.args.edge) edge
    (seen_text c.args.edge c.args.port c.port_of.result) there (c.port_of.ensures c.args.edge)

pub returns-in-None : goal.returns-in-None
returns-in-None c =
    let none : nth c.args.fabric.now.edges c.args.edge ≡ None = search rules in
    shows_no_edge c.args.edge c.args.port (nth c.args.fabric.now.edges c.args.edge) none
