use Rattle.std.proofs.Common.{rules}
use Rattle.ev_book.specs.Entering.{answered}
use Rattle.ev_peers.proofs.answering.obey.Goals as goal

pub returns-clause-obeys : goal.returns-clause-obeys
returns-clause-obeys g c = record {
  passes = record {
    answer = answered c.give-answer.result.0 c.give-answer.new.self.scratch.reply;
    pending = c.give-answer.result.1;
    middle = c.give-answer.new.self.pass;
    entered = search rules;
    parcels = search rules;
    announces = search rules;
  };
  is = search rules;
}
