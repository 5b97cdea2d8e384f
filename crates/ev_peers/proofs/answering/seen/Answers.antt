use Rattle.std.proofs.Common.{rules}
use Rattle.ev_peers.proofs.answering.seen.Goals as goal

pub returns-clause-looked : goal.returns-clause-looked
returns-clause-looked g c = record { book = c.args.book.now; shows = search rules }
