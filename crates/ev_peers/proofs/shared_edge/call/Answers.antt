use Rattle.std.proofs.Common.{rules}
use Rattle.ev_peers.proofs.shared_edge.call.Goals as goal

pub returns-clause-calls : goal.returns-clause-calls
returns-clause-calls g c = c.enter-answer.ensures

pub returns-clause-leaves : goal.returns-clause-leaves
returns-clause-leaves g c = record {
  entered = record {
    before = c.args.book.now;
    after = c.enter-answer.new.self;
    calls = c.enter-answer.ensures;
  };
  pending_is = search rules;
}
