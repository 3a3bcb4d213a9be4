use Rattle.campaign_gate.proofs.calls.acks.Given as goal

abbrev pub ghosts-make_by_workers : goal.ghosts-make_by_workers
ghosts-make_by_workers g a = record { cases = a.cases.now }
