-- The lines that a run prints. Each ends with a line feed (docs/COMMANDS.md).
use Rattle.std.specs.Prelude.{ℕ, ℤ, List, [], ◌∷◌, ◌++◌, codes, Option, Some, None, Ok, Err}
use Rattle.std.specs.Fmt.{decimal, signed_decimal}
use Rattle.hex.specs.Hex.{encode_lower}
use Rattle.chain_defs.specs.Schema.{Block}
use Rattle.chain_defs.specs.Kept.{block_hash}
use Rattle.verdict_defs.specs.declared.verdict.Verdict.{Verdict}
use Rattle.verdict_defs.specs.declared.verdict.Verdict.TheVariants.{Joined, Known, Refused, Full}
use Rattle.verdict_defs.specs.declared.trial.Trial.{Trial}
use Rattle.verdict_defs.specs.declared.trial.Trial.TheVariants as trials
use Rattle.machine_defs.specs.declared.outcome.Outcome.{Outcome}
use Rattle.machine_defs.specs.declared.outcome.Outcome.TheVariants.{Exit, Fault, Spent}
use Rattle.machine_defs.specs.Program.{Execution}
use Rattle.report_defs.specs.declared.counts.Counts.{Counts}

abbrev pub line_feed : List ℕ
line_feed = 10 ∷ []

-- bytes: `0x` and two lower-case hex digits a byte
abbrev pub hex_text : List ℕ → List ℕ
hex_text bytes = codes "0x" ++ encode_lower bytes

-- a hash: its 32 bytes
abbrev pub hash_text : List ℕ → List ℕ
hash_text hash = hex_text hash

-- how many cells, and what they hold together, in shannons
abbrev pub total_text : ℕ × ℕ → List ℕ
total_text total = decimal total.0 ++ codes " " ++ decimal total.1

-- what is said of an item that was imported
abbrev pub verdict_text : Verdict → List ℕ
verdict_text (Joined number hash) = codes "joined " ++ decimal number ++ codes " " ++ hash_text hash
verdict_text (Known hash) = codes "known " ++ hash_text hash
verdict_text (Refused rule) = codes "refused J" ++ decimal rule
verdict_text Full = codes "full"

-- and of a lock that is watched
abbrev pub balance_text : Option (ℕ × ℕ) → List ℕ
balance_text None = []
balance_text (Some balance) = codes " balance " ++ total_text balance

-- the line of an item that was imported
abbrev pub line : Verdict → Option (ℕ × ℕ) → List ℕ
line verdict balance = verdict_text verdict ++ balance_text balance ++ line_feed

-- the line of a transaction that was judged alone
abbrev pub trial_line : Trial → List ℕ
trial_line (trials.Passes fee cycles) = codes "ok " ++ decimal fee ++ codes " " ++ decimal cycles ++ line_feed
trial_line (trials.Refused rule) = codes "refused J" ++ decimal rule ++ line_feed

-- the line of a tip of this number and hash
abbrev pub tip_line_of : ℕ → List ℕ → List ℕ
tip_line_of number hash = codes "tip " ++ decimal number ++ codes " " ++ hash_text hash ++ line_feed

abbrev pub tip_line : Option Block → List ℕ
tip_line None = []
tip_line (Some block) = tip_line_of block.header.number (block_hash block)

-- ---- Queries

-- where there is nothing to tell
abbrev pub none_line : List ℕ
none_line = codes "none" ++ line_feed

-- a header at a height: the hash of its block, and its bytes
abbrev pub header_line : ℕ → List ℕ → List ℕ → List ℕ
header_line height hash bytes = codes "header " ++ decimal height ++ codes " " ++ hash_text hash ++ codes " " ++ hex_text bytes ++ line_feed

abbrev pub epoch_line : ℕ → ℕ → ℕ → List ℕ
epoch_line number index length = codes "epoch " ++ decimal number ++ codes " " ++ decimal index ++ codes " " ++ decimal length ++ line_feed

-- the hash of a type script, where there is one
abbrev pub type_text : Option (List ℕ) → List ℕ
type_text None = codes "-"
type_text (Some hash) = hash_text hash

-- a live cell: its capacity and what it occupies, in shannons, the height at which it was made, its hashes, the bytes of its data
abbrev pub cell_line : ℕ → ℕ → ℕ → List ℕ → Option (List ℕ) → List ℕ → ℕ → List ℕ
cell_line capacity occupied height lock_hash type_hash data_hash data_len =
    codes "live " ++ decimal capacity ++ codes " " ++ decimal occupied ++ codes " " ++ decimal height ++ codes " " ++ hash_text lock_hash
    ++ codes " " ++ type_text type_hash ++ codes " " ++ hash_text data_hash ++ codes " " ++ decimal data_len ++ line_feed

-- one of the live cells of a lock: its out-point, and what it holds, in shannons
abbrev pub listed_line : List ℕ → ℕ → ℕ → List ℕ
listed_line tx_hash index capacity =
    codes "cell " ++ hash_text tx_hash ++ codes " " ++ decimal index ++ codes " " ++ decimal capacity ++ line_feed

-- how many there are, and what they hold together
abbrev pub total_line : ℕ × ℕ → List ℕ
total_line total = codes "total " ++ total_text total ++ line_feed

-- a deposit of this height, and what it counts
abbrev pub deposit_line : ℕ → ℕ → List ℕ
deposit_line deposit amount = codes "deposit " ++ decimal deposit ++ codes " " ++ decimal amount ++ line_feed

-- a withdrawing cell of a deposit of this height, made at this height, and what it counts
abbrev pub withdrawing_line : ℕ → ℕ → ℕ → List ℕ
withdrawing_line deposit made amount =
    codes "withdrawing " ++ decimal deposit ++ codes " " ++ decimal made ++ codes " " ++ decimal amount ++ line_feed

-- an amount that no u64 holds
abbrev pub overflow_line : List ℕ
overflow_line = codes "overflow" ++ line_feed

-- a live cell that is neither
abbrev pub not_dao_line : List ℕ
not_dao_line = codes "not dao" ++ line_feed

-- the balances of what was issued and of what live cells occupy, in shannons
abbrev pub audit_line : ℤ → ℤ → List ℕ
audit_line supply occupied = codes "audit " ++ signed_decimal supply ++ codes " " ++ signed_decimal occupied ++ line_feed

-- ---- `init`

-- the line of the genesis of a new store
abbrev pub genesis_line : Option Block → List ℕ
genesis_line None = []
genesis_line (Some block) = codes "genesis " ++ hash_text (block_hash block) ++ line_feed

-- the lines of a specification and of a genesis that break this rule
abbrev pub bad_spec_line : ℕ → List ℕ
bad_spec_line rule = codes "bad spec S" ++ decimal rule ++ line_feed

abbrev pub bad_genesis_line : ℕ → List ℕ
bad_genesis_line rule = codes "bad genesis G" ++ decimal rule ++ line_feed

-- ---- `migrate`

-- an edition, by the first of its epochs
abbrev pub edition_line : ℕ → List ℕ
edition_line first = codes "edition " ++ decimal first ++ line_feed

-- the epoch that a tip has reached, from which on an edition was asked for, or from an earlier one
abbrev pub too_early_line : ℕ → List ℕ
too_early_line reached = codes "too early " ++ decimal reached ++ line_feed

-- ---- The end of an input

-- the line of an input that ends before or inside an item at this offset, and of an item there whose size is outside its limits
abbrev pub cut_line : ℕ → List ℕ
cut_line offset = codes "cut " ++ decimal offset ++ line_feed

abbrev pub bad_size_line : ℕ → List ℕ
bad_size_line offset = codes "bad size " ++ decimal offset ++ line_feed

-- the line of an input that goes on at an offset where it should have ended
abbrev pub extra_line : ℕ → List ℕ
extra_line offset = codes "extra " ++ decimal offset ++ line_feed

-- ---- `exec`

-- the line of a program that ended so, after so many cycles
abbrev pub outcome_line : Outcome → ℕ → List ℕ
outcome_line (Exit code) cycles = codes "exit " ++ signed_decimal code ++ codes " " ++ decimal cycles ++ line_feed
outcome_line (Fault number) cycles = codes "fault " ++ decimal number ++ codes " " ++ decimal cycles ++ line_feed
outcome_line Spent cycles = codes "spent" ++ line_feed

-- the line of a file that was run, or in which something is wrong
abbrev pub execution_line : Execution → List ℕ
execution_line (Ok ended) = outcome_line ended.0 ended.1
execution_line (Err condition) = codes "bad elf " ++ decimal condition ++ line_feed

-- ---- `asm` and `unjson`

-- the line of a text whose first bad line has this number, counted from 1
abbrev pub bad_line : ℕ → List ℕ
bad_line number = codes "bad line " ++ decimal number ++ line_feed

-- the line of a text that is read as no block
abbrev pub bad_json : List ℕ
bad_json = codes "bad json" ++ line_feed

-- ---- `make` and `soak`

-- the line of so many generated blocks, by what was done with them and what is counted of them
abbrev pub counts_line : List ℕ → ℕ → Counts → List ℕ
counts_line done count counted =
    done ++ decimal count ++ codes " joined " ++ decimal counted.joined ++ codes " height " ++ decimal counted.height
    ++ codes " cells " ++ decimal counted.cells ++ line_feed

abbrev pub made_line : ℕ → Counts → List ℕ
made_line count counted = counts_line (codes "made ") count counted

abbrev pub soak_line : ℕ → Counts → List ℕ
soak_line count counted = counts_line (codes "soak ") count counted
