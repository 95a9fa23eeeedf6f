use Rattle.run_vectors.proofs.main.Given as goal

-- the ledger is that of the blank
abbrev pub ghosts-run_rows : goal.ghosts-run_rows
ghosts-run_rows a = record { name = a.blank.name; parts = a.blank.parts }
