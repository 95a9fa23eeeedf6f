-- The DAO field of the next block of a branch (RFC 0023, "Calculation"; docs/RULES.md, "Capacity and the DAO field"). Capacities are in shannons.
use Rattle.std.specs.Prelude.{ℕ, suc, ◌+◌, ◌-◌, ℤ, pos, ◌+ℤ◌, List, [], ◌∷◌, length, drop, Option}
use Rattle.std.specs.List.{sum_by, enumerate_from}
use Rattle.chain_defs.specs.Schema.{CellOutput, Transaction, Block}
use Rattle.chain_defs.specs.Specification.{Specification}
use Rattle.chain_defs.specs.Dao.{DaoField, Movement, next_field}
use Rattle.chain_defs.specs.Cell.{occupied_by, data_of}
use Rattle.rule_defs.specs.Site.{Site, Found, site_at}
use Rattle.rule_defs.specs.Resolving.{inputs}
use Rattle.rule_defs.specs.Capacity.{interest}
use Rattle.rule_defs.specs.Shares.{primary_at, secondary_at}
use Rattle.rule_defs.specs.Reward.{field_at}

-- what an output at its place occupies with its data
abbrev pub occupied_output : Transaction → ℕ × CellOutput → ℕ
occupied_output t (index, output) = occupied_by output (data_of t index)

-- what the cells occupy that a transaction makes
unfoldable pub made_by : Transaction → ℕ
made_by t = sum_by (occupied_output t) (enumerate_from 0 t.raw.outputs)

abbrev pub occupied_found : Found → ℕ
occupied_found found = occupied_by found.cell.output found.cell.content

-- what the cells occupy that a transaction spends, whichever block made them
unfoldable pub freed_by : Site → Transaction → ℕ
freed_by site t = sum_by occupied_found (inputs site t)

-- what the transactions of a block free, from a place on
unfoldable pub freed_from : Specification → List Block → Block → ℕ → List Transaction → ℕ
freed_from spec branch b place [] = 0
freed_from spec branch b place (t ∷ later) = freed_by (site_at spec branch b place) t + freed_from spec branch b (suc place) later

-- the interest that they withdraw
unfoldable pub interest_from : Specification → List Block → Block → ℕ → List Transaction → ℤ
interest_from spec branch b place [] = pos 0
interest_from spec branch b place (t ∷ later) = interest (site_at spec branch b place) t +ℤ interest_from spec branch b (suc place) later

-- What the block after a branch moves: its shares, the interest that it withdraws, what all its outputs occupy, those of the cellbase too, and
-- what all cells occupy that it spends, those too that it made.
unfoldable pub movement : Specification → List Block → Block → Movement
movement spec branch b = record {
  primary = primary_at spec (length branch);
  secondary = secondary_at spec (length branch);
  interest = interest_from spec branch b 1 (drop 1 b.transactions);
  made = sum_by made_by b.transactions;
  freed = freed_from spec branch b 1 (drop 1 b.transactions);
}

-- Its field, by that of its parent. There is none where a number leaves u64.
unfoldable pub next_dao : Specification → List Block → Block → Option DaoField
next_dao spec branch b = next_field (field_at branch (length branch - 1)) (movement spec branch b)
