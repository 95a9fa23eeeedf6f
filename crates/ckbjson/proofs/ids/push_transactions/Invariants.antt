use Rattle.std.proofs.Common.{◌≡◌, ◌++◌, map, drop, string_bytes}
use Rattle.std.specs.List.{concat}
use Rattle.ckbjson.specs.Items.{transaction_line}
use Rattle.ckbjson.proofs.ids.push_transactions.Given as goal

-- the lines so far, and those of what is left
abbrev pub invariant-transactions : goal.invariant-transactions
invariant-transactions l = record {
  told : string_bytes l.lines ++ concat (map transaction_line (drop l.i l.block.transactions)) ≡ string_bytes l.fn.lines ++ concat (map transaction_line l.block.transactions);
}
