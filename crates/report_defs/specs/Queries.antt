-- What queries tell of a chain: each is answered from the best branch, genesis to tip (docs/COMMANDS.md).
use Rattle.std.specs.Prelude.{ℕ, ◌-◌, ◌^◌, Bool, ◌&&◌, ◌==◌, nat_lt, List, [], ◌++◌, map, length, Option, Some, None, pos, if◌then◌else◌}
use Rattle.std.specs.Option.{option_map}
use Rattle.std.specs.List.{list_all, concat}
use Rattle.std.specs.Int.{w64, from_le_bytes}
use Rattle.chain_defs.specs.Shape.{encoded}
use Rattle.chain_defs.specs.Schema.{OutPoint, Block, header}
use Rattle.chain_defs.specs.Dao.{as_u64}
use Rattle.chain_defs.specs.Epochs.{epoch_number, epoch_index}
use Rattle.chain_defs.specs.Specification.{Specification}
use Rattle.chain_defs.specs.Kept.{block_at, block_hash}
use Rattle.chain_defs.specs.Tip.{tip, tip_place, best_branch}
use Rattle.chain_defs.specs.Cell.{Cell, script_hash, data_hash, occupied_by}
use Rattle.chain_defs.specs.Events.{live_cell}
use Rattle.chain_defs.specs.Row.{Row}
use Rattle.chain_defs.specs.ByLock.{cells_by_lock, capacity_of}
use Rattle.rule_defs.specs.Site.{site_after}
use Rattle.rule_defs.specs.Withdrawals.{is_dao_cell, is_withdrawing}
use Rattle.rule_defs.specs.Capacity.{withdrawn}
use Rattle.verdict_defs.specs.Chain.{Chain}
use Rattle.supply_defs.specs.Laws.{supply_balance, occupied_balance}
use Rattle.report_defs.specs.declared.dao.DaoState.{DaoState}
use Rattle.report_defs.specs.declared.dao.DaoState.TheVariants.{NotDao, Deposit, Withdrawing}
use Rattle.json_defs.specs.Blocks as json
use Rattle.report_defs.specs.Text.{line_feed, header_line, epoch_line, cell_line, listed_line, total_line, deposit_line, withdrawing_line, none_line, overflow_line, not_dao_line, audit_line}

-- ---- `header`

-- a block at this height, where there is one
abbrev pub header_of : ℕ → Option Block → List ℕ
header_of height None = none_line
header_of height (Some block) = header_line height (block_hash block) (encoded header block.header)

-- The header at a height of the best branch.
abbrev pub header_answer : ℕ → Chain → List ℕ
header_answer height chain = header_of height (block_at (best_branch chain.blocks) height)

-- ---- `json`

-- a block at this height, where there is one: its compact text, as one line
abbrev pub json_of : Option Block → List ℕ
json_of None = none_line
json_of (Some block) = json.text_of json.block block ++ line_feed

-- The block at a height of the best branch, as JSON.
abbrev pub json_answer : ℕ → Chain → List ℕ
json_answer height chain = json_of (block_at (best_branch chain.blocks) height)

-- ---- `epoch`

abbrev pub epoch_of : ℕ → Option Block → List ℕ
epoch_of epoch_length None = []
epoch_of epoch_length (Some block) =
    epoch_line (epoch_number epoch_length block.header.number) (epoch_index epoch_length block.header.number) epoch_length

-- The epoch of the tip.
abbrev pub epoch_answer : Chain → List ℕ
epoch_answer chain = epoch_of chain.spec.epoch_length (tip chain.blocks)

-- ---- `cell`

-- The index of an out-point stands in four bytes.
unfoldable pub index_bound : ℕ
index_bound = 2 ^ 32

-- The live cell that a transaction of the best branch made at an index: none where the index is of no out-point.
abbrev pub cell_at_tip : Chain → List ℕ → ℕ → Option Cell
cell_at_tip chain tx_hash index =
    if nat_lt index index_bound then live_cell (best_branch chain.blocks) (record { tx_hash = tx_hash; index = index }) else None

abbrev pub live_line : Cell → List ℕ
live_line cell = cell_line cell.output.capacity (occupied_by cell.output cell.content) cell.height (script_hash cell.output.lock)
    (option_map script_hash cell.output.type_script) (data_hash cell.content) (length cell.content)

abbrev pub cell_of : Option Cell → List ℕ
cell_of None = none_line
cell_of (Some cell) = live_line cell

-- What is live with an out-point.
abbrev pub cell_answer : List ℕ → ℕ → Chain → List ℕ
cell_answer tx_hash index chain = cell_of (cell_at_tip chain tx_hash index)

-- ---- `list`

-- the live cells of a lock on the branch of a place, where there is one
abbrev pub cells_on : List Block → List ℕ → Option ℕ → List (OutPoint × Row)
cells_on kept lock None = []
cells_on kept lock (Some place) = cells_by_lock kept place lock

-- The live cells of the best branch whose lock has a hash, in rising order of their out-points.
abbrev pub cells_at_tip : List ℕ → Chain → List (OutPoint × Row)
cells_at_tip lock chain = cells_on chain.blocks lock (tip_place chain.blocks)

-- how many they are, and what they hold together
abbrev pub total_of : List (OutPoint × Row) → ℕ × ℕ
total_of cells = (length cells, capacity_of cells)

abbrev pub line_of_listed : OutPoint × Row → List ℕ
line_of_listed listed = listed_line listed.0.tx_hash listed.0.index listed.1.capacity

-- a line for each of some cells, and then the line of all
abbrev pub lines_of_cells : List (OutPoint × Row) → List ℕ
lines_of_cells cells = concat (map line_of_listed cells) ++ total_line (total_of cells)

-- The live cells of a lock.
abbrev pub list_answer : List ℕ → Chain → List ℕ
list_answer lock chain = lines_of_cells (cells_at_tip lock chain)

-- ---- `dao`

-- A deposit: a DAO cell with 8 zero bytes of data (RFC 0023, "Deposit").
abbrev pub has_deposit_data : List ℕ → Bool
has_deposit_data content = (length content == 8) && list_all (λ b. b == 0) content

abbrev pub is_deposit : Specification → Cell → Bool
is_deposit spec cell = is_dao_cell spec cell && has_deposit_data cell.content

-- The height of the deposit block that the data of a withdrawing cell names (RFC 0023, "Withdraw Phase 1").
abbrev pub height_in : List ℕ → ℕ
height_in content = from_le_bytes w64 content

-- What a cell is to the DAO: a deposit, a withdrawing cell whose data names a height below its own, or neither.
abbrev pub dao_state : Specification → Cell → DaoState
dao_state spec cell =
    if is_deposit spec cell then Deposit
    else if is_withdrawing spec cell && nat_lt (height_in cell.content) cell.height then Withdrawing (height_in cell.content)
    else NotDao

-- what a withdrawing cell counts that was deposited at a height, where a u64 holds it
abbrev pub amount_of : Specification → List Block → Cell → ℕ → Option ℕ
amount_of spec branch cell deposit = as_u64 (pos (withdrawn (site_after spec branch) cell (Some deposit)))

-- the withdrawing cell that the last block of a branch would have made of a deposit
abbrev pub withdrawn_at_tip : List Block → Cell → Cell
withdrawn_at_tip branch cell = record cell { height = length branch - 1 }

-- a line with an amount that a u64 holds
abbrev pub amount_line : (ℕ → List ℕ) → Option ℕ → List ℕ
amount_line line None = overflow_line
amount_line line (Some amount) = line amount

-- What it counts: a deposit what it would if the last block of the branch had made the withdrawing cell.
abbrev pub dao_amount : Specification → List Block → Cell → DaoState → Option ℕ
dao_amount spec branch cell NotDao = None
dao_amount spec branch cell Deposit = amount_of spec branch (withdrawn_at_tip branch cell) cell.height
dao_amount spec branch cell (Withdrawing deposit) = amount_of spec branch cell deposit

-- the line of a cell that was made at a height and counts so much
abbrev pub dao_line_of : DaoState → ℕ → Option ℕ → List ℕ
dao_line_of NotDao height amount = not_dao_line
dao_line_of Deposit height amount = amount_line (deposit_line height) amount
dao_line_of (Withdrawing deposit) height amount = amount_line (withdrawing_line deposit height) amount

abbrev pub dao_line : Specification → List Block → Cell → List ℕ
dao_line spec branch cell = dao_line_of (dao_state spec cell) cell.height (dao_amount spec branch cell (dao_state spec cell))

abbrev pub dao_of : Specification → List Block → Option Cell → List ℕ
dao_of spec branch None = none_line
dao_of spec branch (Some cell) = dao_line spec branch cell

-- What the live cell with an out-point counts.
abbrev pub dao_answer : List ℕ → ℕ → Chain → List ℕ
dao_answer tx_hash index chain = dao_of chain.spec (best_branch chain.blocks) (cell_at_tip chain tx_hash index)

-- ---- `audit`

-- What the best branch issued, less what is saved, in live cells, unpaid or burned; and what its live cells occupy by the DAO field, less what they do.
abbrev pub audit_answer : Chain → List ℕ
audit_answer chain = audit_line (supply_balance chain.spec (best_branch chain.blocks)) (occupied_balance (best_branch chain.blocks))
