use Rattle.std.proofs.Common.{rules, ℕ, List, [], refl, subst}
use Rattle.ev_fabric.specs.Fabric.{nth}
use Rattle.ev_script.specs.Simulation.{ShowsPortOf}
use Rattle.ev_script.specs.Inner.Printing.{seen_text}
use Rattle.ev_script.proofs.simulate.simulator.Simulator.port.Goals as goal

pub returns : goal.returns
returns g c =
    let number = c.port_number-number.result in
    let text : List ℕ = seen_text c.args.edge number c.port_at-seen.result in
    record {
      made = [];
      asked = refl;
      makes = search rules;
      text = text;
      answers = subst (λ (p : ℕ). ShowsPortOf c.args.edge p (nth c.args.self.now.fabric.edges c.args.edge) text)
          c.port_number-number.ensures c.port_at-seen.ensures;
      told = search rules;
    }
