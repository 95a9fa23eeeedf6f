use Rattle.std.proofs.Common.{◌≡◌, List, length, Option}
use Rattle.chain_tree.specs.Told.{Stored}
use Rattle.tx_rules.specs.Copying.{IsBlockAt, AreRowsCopied}
use Rattle.tx_rules.proofs.copying.take_read.Given as goal

abbrev pub invariant-order : goal.invariant-order
invariant-order l = record {
  long : length l.taken ≡ length l.these.rows.now;
  taken : (told : Option (List Stored)) → IsBlockAt told l.block l.read → AreRowsCopied told l.at l.these.rows.now l.fn.taken → AreRowsCopied told l.at l.these.rows.now l.taken;
}
