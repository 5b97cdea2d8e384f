use Rattle.std.proofs.Common.{sym}
use Rattle.ev_book.specs.Entering.{answered}
use Rattle.ev_peers.proofs.shared_edge.request.Goals as goal

pub returns-clause-asked : goal.returns-clause-asked
returns-clause-asked g c = record {
  answer = answered c.announce.result.0 c.announce.new.reply;
  entered = record {
    before = c.args.book.now;
    after = c.announce.new.self;
    calls = c.announce.ensures.calls;
  };
  got = sym c.announce.ensures.told;
}
