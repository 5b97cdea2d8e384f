use Rattle.ev_book.proofs.tests.journals.later_incarnation_withdraws_what_the_journal_has.Given as goal

abbrev pub ghosts-first_incarnation : goal.ghosts-first_incarnation
ghosts-first_incarnation g a = record { name = a.blank.name; parts = a.blank.parts }

abbrev pub ghosts-second_incarnation : goal.ghosts-second_incarnation
ghosts-second_incarnation g a = record { name = a.blank.name; parts = a.blank.parts }
