use Rattle.std.proofs.Common.{[], ◌∷◌, refl}
use Rattle.ev_console.specs.Asking.{port_seen}
use Rattle.ev_console.specs.Answers.{port_seen_text}
use Rattle.ev_console.proofs.answering.show_port.Goals as goal

pub returns-clause-does : goal.returns-clause-does
returns-clause-does g c = record {
  asked = port_seen c.args.edge c.args.port c.port-answer.result ∷ [];
  text = port_seen_text c.args.edge c.args.port c.port-answer.result;
  said = (c.port-answer.result, refl, refl);
  told = c.port-answer.ensures.asked;
  written = c.put_port_seen.ensures;
}
