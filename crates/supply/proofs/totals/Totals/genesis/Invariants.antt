use Rattle.std.proofs.Common.{◌≡◌, ◌+◌, ◌*◌, ◌≤◌, ◌^◌, ◌-◌, drop}
use Rattle.std.specs.Prelude.{sum_by}
use Rattle.rule_defs.specs.Capacity.{held_out}
use Rattle.rule_defs.specs.Field.{made_by}
use Rattle.supply.proofs.totals.Totals.genesis.Given as goal

-- with what is left they are all that the transactions' outputs hold and occupy
abbrev pub invariant-transactions : goal.invariant-transactions
invariant-transactions l = record {
  held : l.live + sum_by held_out (drop l.i l.block.transactions) ≡ sum_by held_out l.block.transactions;
  made : l.occupied + sum_by made_by (drop l.i l.block.transactions) ≡ sum_by made_by l.block.transactions;
  live : l.live ≤ l.i * (2 ^ 94 - 1);
  occupied : l.occupied ≤ l.i * (2 ^ 94 - 1);
}
