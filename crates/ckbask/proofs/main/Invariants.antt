use Rattle.ckbask.proofs.main.Given as goal

-- the ledger is that of the blank
abbrev pub ghosts-ask_with : goal.ghosts-ask_with
ghosts-ask_with a = record { name = a.blank.name; parts = a.blank.parts }
