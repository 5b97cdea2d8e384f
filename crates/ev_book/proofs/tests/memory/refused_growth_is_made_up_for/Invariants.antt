use Rattle.ev_book.proofs.tests.memory.refused_growth_is_made_up_for.Given as goal

abbrev pub ghosts-journals_all : goal.ghosts-journals_all
ghosts-journals_all g a = record { name = a.blank.name; parts = a.blank.parts }
