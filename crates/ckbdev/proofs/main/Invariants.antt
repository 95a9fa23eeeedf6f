use Rattle.ckbdev.proofs.main.Given as goal

-- the ledger is that of the blank
abbrev pub ghosts-run_with : goal.ghosts-run_with
ghosts-run_with a = record { name = a.blank.name; parts = a.blank.parts }
