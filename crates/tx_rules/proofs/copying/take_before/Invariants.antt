use Rattle.std.proofs.Common.{◌≡◌, List, length, Option}
use Rattle.std.specs.List.{All}
use Rattle.chain_tree.specs.Told.{Stored}
use Rattle.tx_rules.specs.At.{AtValue}
use Rattle.tx_rules.specs.Copying.{AreRowsCopied, ServesAgain}
use Rattle.tx_rules.proofs.copying.take_before.Given as goal

abbrev pub invariant-copies : goal.invariant-copies
invariant-copies l = record {
  long : length l.taken ≡ length l.rows;
  taken : (told : Option (List Stored)) (at : AtValue) → All (ServesAgain told at) l.fn.before.items → AreRowsCopied told at l.rows l.fn.taken
      → All (ServesAgain told at) l.before.items × AreRowsCopied told at l.rows l.taken;
}
