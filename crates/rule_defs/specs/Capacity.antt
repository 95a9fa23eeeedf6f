-- What a transaction's inputs count, and what its outputs hold (RFC 0022, "Cell"; RFC 0023, "Calculation"; docs/RULES.md, "Capacity and the
-- DAO field"). Capacities are in shannons.
use Rattle.std.specs.Prelude.{ℕ, suc, [], ◌∷◌, ◌-◌, ◌^◌, ℤ, pos, ◌-ℤ◌, Bool, ◌&&◌, not, nat_lt, nat_le, List, Option, Some, None, is_some, if◌then◌else◌}
use Rattle.std.specs.List.{list_any, enumerate_from, sum_by}
use Rattle.chain_defs.specs.Schema.{Transaction, Block}
use Rattle.chain_defs.specs.Specification.{Specification}
use Rattle.chain_defs.specs.Dao.{field_of_bytes, counted_capacity}
use Rattle.chain_defs.specs.Kept.{block_at}
use Rattle.chain_defs.specs.Cell.{Cell, occupied_by, outputs_hold_their_own}
use Rattle.chain_defs.specs.Events.{made_out_points}
use Rattle.rule_defs.specs.Site.{Site, Found, site_at}
use Rattle.rule_defs.specs.Resolving.{inputs, heights}
use Rattle.rule_defs.specs.Withdrawals.{is_withdrawing, deposit_height}

-- ---- J25: outputs

-- J25: each output holds what it occupies, and none of their out-points is live.
abbrev pub makes_good_cells : Site → Transaction → Bool
makes_good_cells site t = outputs_hold_their_own t && not (list_any (λ o. is_some (site.cell o)) (made_out_points t))

-- ---- What inputs count

-- the accumulated rate of the block at a height
abbrev pub rate_of : Option Block → ℕ
rate_of None = 0
rate_of (Some b) = (field_of_bytes b.header.dao).rate

abbrev pub rate_at : Site → ℕ → ℕ
rate_at site height = rate_of (block_at site.branch height)

-- what a withdrawing cell counts since its deposit
abbrev pub withdrawn : Site → Cell → Option ℕ → ℕ
withdrawn site cell None = cell.output.capacity
withdrawn site cell (Some deposit) =
    counted_capacity cell.output.capacity (occupied_by cell.output cell.content) (rate_at site cell.height) (rate_at site deposit)

-- What the input at a place counts: a withdrawing cell what lies above what it occupies, grown with the accumulated rate; any other its
-- capacity.
unfoldable pub counted : Site → Transaction → ℕ × Found → ℕ
counted site t (place, found) =
    if is_withdrawing site.spec found.cell then withdrawn site found.cell (deposit_height (heights site t) t place found.cell)
    else found.cell.output.capacity

-- what all inputs count
unfoldable pub counted_in : Site → Transaction → ℕ
counted_in site t = sum_by (counted site t) (enumerate_from 0 (inputs site t))

-- what all outputs hold
unfoldable pub held_out : Transaction → ℕ
held_out t = sum_by (λ output. output.capacity) t.raw.outputs

-- J27: both sums are at most the greatest u64, and the outputs hold no more than the inputs count. Where the sum is, each input is.
abbrev pub balances : Site → Transaction → Bool
balances site t = nat_lt (counted_in site t) (2 ^ 64) && nat_lt (held_out t) (2 ^ 64) && nat_le (held_out t) (counted_in site t)

-- The fee: what the inputs count beyond what the outputs hold.
abbrev pub fee : Site → Transaction → ℕ
fee site t = counted_in site t - held_out t

-- the fees of a block's transactions from a place on
unfoldable pub fees_from : Specification → List Block → Block → ℕ → List Transaction → List ℕ
fees_from spec branch b place [] = []
fees_from spec branch b place (t ∷ later) = fee (site_at spec branch b place) t ∷ fees_from spec branch b (suc place) later

-- The interest: what the inputs count beyond their capacities. It is below 0 only where the rate fell.
abbrev pub interest : Site → Transaction → ℤ
interest site t = pos (counted_in site t) -ℤ pos (sum_by (λ found. found.cell.output.capacity) (inputs site t))
