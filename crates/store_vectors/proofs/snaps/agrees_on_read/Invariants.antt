use Rattle.store_vectors.proofs.snaps.agrees_on_read.Given as goal

-- the ledger is that of the blank
abbrev pub ghosts-load : goal.ghosts-load
ghosts-load a = record { name = a.blank.name; parts = a.blank.parts }
