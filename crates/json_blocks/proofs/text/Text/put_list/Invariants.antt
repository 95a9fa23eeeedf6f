use Rattle.std.proofs.Common.{drop}
use Rattle.std.specs.Prelude.{nat_lt}
use Rattle.json_blocks.proofs.RowTexts.{Lists}
use Rattle.json_blocks.proofs.text.Text.put_list.Given as goal

-- what is put, and the text of the items that are left
abbrev pub invariant-items : goal.invariant-items
invariant-items g l = Lists l.fn.self l.self (nat_lt 0 l.i) (g.L.Items.trees l.of) (drop l.i (g.L.Items.trees l.of))
