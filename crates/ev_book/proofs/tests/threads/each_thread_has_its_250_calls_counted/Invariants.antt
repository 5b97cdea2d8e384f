use Rattle.ev_book.proofs.tests.threads.each_thread_has_its_250_calls_counted.Given as goal

abbrev pub ghosts-four_are_heard : goal.ghosts-four_are_heard
ghosts-four_are_heard g a = record { name = a.blank.name; parts = a.blank.parts }
