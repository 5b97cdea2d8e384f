use Rattle.ev_book.proofs.tests.threads.threads_see_what_they_took.Given as goal

abbrev pub ghosts-both_see : goal.ghosts-both_see
ghosts-both_see g a = record { name = a.blank.name; parts = a.blank.parts }
