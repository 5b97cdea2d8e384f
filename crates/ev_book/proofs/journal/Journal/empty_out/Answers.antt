use Rattle.std.proofs.Common.{rules}
use Rattle.ev_book.proofs.Compacting.{no_more}
use Rattle.ev_book.proofs.journal.Journal.empty_out.Goals as goal

pub returns-else-len-self-clause-full : goal.returns-else-len-self-clause-full
returns-else-len-self-clause-full c = let most = no_more c.args.self.now.updates.items c.args.table.now
    c.requires.table in search (rules, most)
