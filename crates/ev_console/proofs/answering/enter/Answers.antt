use Rattle.std.proofs.Common.{[], ◌∷◌, refl}
use Rattle.ev_console.specs.Asking.{entered}
use Rattle.ev_console.specs.Answers.{entered_text}
use Rattle.ev_console.proofs.answering.enter.Goals as goal

pub returns-clause-does : goal.returns-clause-does
returns-clause-does g c = record {
  asked = entered c.args.edge c.args.step.now c.enter-answer.result ∷ [];
  text = entered_text c.args.edge c.enter-answer.result;
  said = (c.enter-answer.result, refl, refl);
  told = c.enter-answer.ensures.asked;
  written = c.put_entered.ensures;
}
