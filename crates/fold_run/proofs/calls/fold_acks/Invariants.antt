use Rattle.fold_run.proofs.calls.fold_acks.Given as goal

abbrev pub ghosts-fold_with_counter : goal.ghosts-fold_with_counter
ghosts-fold_with_counter a = record { name = a.blank.name; parts = a.blank.parts }
