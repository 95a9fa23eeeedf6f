use Rattle.made_chain.proofs.soaking.soak_counts_of.Given as goal

-- the ledger is that of the blank
abbrev pub ghosts-soak_made : goal.ghosts-soak_made
ghosts-soak_made g a = record { name = a.blank.name; parts = a.blank.parts }
