use Rattle.store_vectors.proofs.snaps.agrees_on_write.Given as goal

-- the ledger is that of the blank
abbrev pub ghosts-filled : goal.ghosts-filled
ghosts-filled a = record { name = a.blank.name; parts = a.blank.parts }
