use Rattle.ev_book.proofs.tests.journals.compact_leaves_two_of_four_records.Given as goal

abbrev pub ghosts-works : goal.ghosts-works
ghosts-works g a = record { name = a.blank.name; parts = a.blank.parts }
