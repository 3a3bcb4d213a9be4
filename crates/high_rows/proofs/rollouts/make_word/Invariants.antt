use Rattle.high_rows.proofs.rollouts.make_word.Given as goal

abbrev pub ghosts-make_all : goal.ghosts-make_all
ghosts-make_all a = record { name = a.blank.name; parts = a.blank.parts }
