use Rattle.high_rows.proofs.turns.next.Given as goal

abbrev pub ghosts-take_ack : goal.ghosts-take_ack
ghosts-take_ack a = record { name = a.blank.name; parts = a.blank.parts }
