use Rattle.std.proofs.Common.{rules}
use Rattle.ev_book.proofs.Compacting.{no_more}
use Rattle.ev_book.proofs.journal.Journal.keep_short.Goals as goal

pub is_due-requires : goal.is_due-requires
is_due-requires c = let most = no_more c.args.self.now.updates.items c.args.table.now c.requires.table in
    search (rules, most)
