use Rattle.std.proofs.Common.{◌≡◌, ◌++◌, drop}
use Rattle.transaction_index.specs.Rows.{rows_from}
use Rattle.run_ask.proofs.over_blocks.push_rows.Given as goal

-- with the rows of what is left they are all
abbrev pub invariant-hashes : goal.invariant-hashes
invariant-hashes l = l.rows.items ++ rows_from l.number l.place (drop l.place l.hashes) ≡ l.fn.rows.items ++ rows_from l.number 0 l.hashes
