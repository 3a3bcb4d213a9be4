use Rattle.shared_run.proofs.run.run.Given as goal

abbrev pub ghosts-run_course : goal.ghosts-run_course
ghosts-run_course g a = record { link = a.link; cases = a.cases }
