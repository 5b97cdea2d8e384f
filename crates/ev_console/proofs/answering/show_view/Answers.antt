use Rattle.std.proofs.Common.{[], ◌∷◌, refl}
use Rattle.ev_console.specs.Asking.{view_seen}
use Rattle.ev_console.specs.Answers.{view_seen_text}
use Rattle.ev_console.proofs.answering.show_view.Goals as goal

pub returns-clause-does : goal.returns-clause-does
returns-clause-does g c = record {
  asked = view_seen c.args.edge c.args.question.now c.view-answer.result ∷ [];
  text = view_seen_text c.args.edge c.view-answer.result;
  said = (c.view-answer.result, refl, refl);
  told = c.view-answer.ensures.asked;
  written = c.put_view_seen.ensures;
}
