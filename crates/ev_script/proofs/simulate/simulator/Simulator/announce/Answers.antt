use Rattle.std.proofs.Common.{rules, ℕ, List, [], ◌∷◌, length, sym, refl, append-nil}
use Rattle.ev_fabric.specs.declared.step.Step.TheVariants as steps
use Rattle.ev_script.specs.Printing.{announcement_text}
use Rattle.ev_script.proofs.simulate.simulator.Simulator.announce.Goals as goal

pub returns : goal.returns
returns g c =
    let answer = c.step-answer.result in
    let text : List ℕ = announcement_text c.args.edge (length c.step-answer.new.self.fabric.pool) answer in
    record {
      made = (steps.Announce c.args.edge, answer) ∷ [];
      asked = (answer, refl);
      makes = search rules;
      text = text;
      answers = sym (append-nil text);
      told = search rules;
    }
