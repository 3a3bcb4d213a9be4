use Rattle.open_flow.proofs.cell.OpenCell.hear.Given as goal

abbrev pub ghosts-hear_in_ledger : goal.ghosts-hear_in_ledger
ghosts-hear_in_ledger a = record { name = a.blank.name; parts = a.blank.parts }
