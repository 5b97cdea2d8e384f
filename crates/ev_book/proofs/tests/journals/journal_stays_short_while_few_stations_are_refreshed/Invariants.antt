use Rattle.ev_book.proofs.tests.journals.journal_stays_short_while_few_stations_are_refreshed.Given as goal

abbrev pub ghosts-stays_short : goal.ghosts-stays_short
ghosts-stays_short g a = record { name = a.blank.name; parts = a.blank.parts }
