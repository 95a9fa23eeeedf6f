use Rattle.ckbtrace.proofs.run.Given as goal

-- the ledger is that of the blank
abbrev pub ghosts-run_explain : goal.ghosts-run_explain
ghosts-run_explain a = record { name = a.blank.name; parts = a.blank.parts }
