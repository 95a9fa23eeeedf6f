use Rattle.made_chain.proofs.counting.counts_of.Given as goal

-- the ledger is that of the blank
abbrev pub ghosts-count_made : goal.ghosts-count_made
ghosts-count_made g a = record { name = a.blank.name; parts = a.blank.parts }
