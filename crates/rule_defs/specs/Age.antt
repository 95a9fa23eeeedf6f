-- How old the cells of a transaction are (RFC 0017; RFC 0028; docs/RULES.md, "Since and time", "Deps").
use Rattle.std.specs.Prelude.{ℕ, zero, suc, Bool, ◌&&◌, ◌||◌, ◌==◌, not, List, ◌++◌, take, Option, Some, None, if◌then◌else◌}
use Rattle.std.specs.List.{list_all, zip}
use Rattle.chain_defs.specs.Schema.{Block, CellInput, Transaction}
use Rattle.chain_defs.specs.Epochs.{is_span_over}
use Rattle.chain_defs.specs.Since.{Spending, is_valid, is_met}
use Rattle.chain_defs.specs.Kept.{block_at}
use Rattle.chain_defs.specs.Median.{median_time}
use Rattle.chain_defs.specs.Cell.{is_cellbase_output}
use Rattle.rule_defs.specs.Site.{Site, Found, height_at}
use Rattle.rule_defs.specs.Resolving.{inputs, deps}

-- ---- J23: maturity

-- a cellbase output may be used once the span of maturity is over
abbrev pub is_mature : Site → Found → Bool
is_mature site found =
    not (is_cellbase_output found.cell) || is_span_over site.spec.maturity site.spec.epoch_length found.cell.height (height_at site)

-- J23: each input and each resolved dep may be used.
abbrev pub uses_mature_cells : Site → Transaction → Bool
uses_mature_cells site t = list_all (is_mature site) (inputs site t ++ deps site t)

-- ---- J24: since

abbrev pub timestamp_of : Option Block → ℕ
timestamp_of None = 0
timestamp_of (Some b) = b.header.timestamp

-- The time from which a cell of this height counts (docs/RULES.md, "Since and time"). Under the first edition it is the median time at the parent
-- of its block; for the genesis its own timestamp.
unfoldable pub median_start : List Block → ℕ → ℕ
median_start branch zero = timestamp_of (block_at branch 0)
median_start branch (suc parent) = median_time (take (suc parent) branch)

-- Under the second edition it is the timestamp of its block, which is the one that is judged at that one's own height.
unfoldable pub block_start : Site → ℕ → ℕ
block_start site height = if height == height_at site then site.timestamp else timestamp_of (block_at site.branch height)

-- By the edition under which it is spent.
abbrev pub start_at : Site → ℕ → ℕ
start_at site height = if site.second then block_start site height else median_start site.branch height

-- an input that is spent in the next block of the branch
abbrev pub spending : Site → Found → Spending
spending site found = record {
  number = height_at site;
  median = median_time site.branch;
  made = found.cell.height;
  start = start_at site found.cell.height;
  length = site.spec.epoch_length;
}

abbrev pub meets_since : Site → CellInput × Found → Bool
meets_since site (input, found) = is_valid input.since && is_met input.since (spending site found)

-- J24: the since of each input is valid and met.
abbrev pub meets_each_since : Site → Transaction → Bool
meets_each_since site t = list_all (meets_since site) (zip t.raw.inputs (inputs site t))
