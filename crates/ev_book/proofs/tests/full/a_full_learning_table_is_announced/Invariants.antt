use Rattle.ev_book.proofs.tests.full.a_full_learning_table_is_announced.Given as goal

abbrev pub ghosts-counted : goal.ghosts-counted
ghosts-counted g a = record { name = a.blank.name; parts = a.blank.parts }
