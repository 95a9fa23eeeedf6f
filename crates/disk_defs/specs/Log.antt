-- The log (docs/STORE.md): its first bytes, records after open gates, and the end.
use Rattle.std.specs.Prelude.{◌≡◌, ℕ, zero, suc, ◌+◌, ◌-◌, ◌==◌, ◌&&◌, not, nat_lt, nat_le, Bool, true, false, List, [], ◌∷◌, ◌++◌, codes, length, take, drop, slice_index, Option, Some, None, is_some, is_none, if◌then◌else◌}
use Rattle.std.specs.Option.{option_map, option_and_then}
use Rattle.std.specs.Str.{bytes_eq}
use Rattle.std.specs.List.{filter}
use Rattle.std.specs.Int.{w32, w64, to_le_bytes, from_le_bytes}
use Rattle.chain_defs.specs.Shape.{decoded}
use Rattle.chain_defs.specs.Schema.{Block, block}
use Rattle.chain_defs.specs.Kept.{block_hash, place_of, block_at, follows, kept_limit, blocks_of_item}
use Rattle.chain_defs.specs.Specification.{Specification, specification_of, with_edition, broken_specification_rule}
use Rattle.chain_defs.specs.Ext.{count_at, is_ext}
use Rattle.rule_defs.specs.Genesis.{broken_genesis_rule}

-- ---- Records

-- A record's kind: 1 for the specification, 2 for the genesis, 3 for a block with its ext, 4 for the edition.
pub record Record : Type 0 where
  pub kind : ℕ
  pub body : List ℕ

-- An open gate is the byte 1. After it stand the kind, the body's length and the body.
abbrev pub record_bytes : Record → List ℕ
record_bytes r = 1 ∷ r.kind ∷ to_le_bytes w32 (length r.body) ++ r.body

-- The whole record at the start of bytes: its gate is open, and at least one byte follows it.
unfoldable pub record_at : List ℕ → Option Record
record_at bytes =
    let size = count_at bytes 2 in
    if (slice_index bytes 0 == 1) && nat_lt (6 + size) (length bytes)
    then Some (record { kind = slice_index bytes 1; body = take size (drop 6 bytes) })
    else None

-- the records at the start of bytes, one after the other, at most so many of them
abbrev pub records_within : ℕ → List ℕ → List Record
records_within zero bytes = []
records_within (suc most) bytes = elim (record_at bytes) [
  | None ↦ []
  | Some r ↦ r ∷ records_within most (drop (length (record_bytes r)) bytes)
]

unfoldable pub records_of : List ℕ → List Record
records_of bytes = records_within (length bytes) bytes

-- the bytes of records one after the other
abbrev pub all_record_bytes : List Record → List ℕ
all_record_bytes [] = []
all_record_bytes (r ∷ records) = record_bytes r ++ all_record_bytes records

-- `CKBDEV01`
abbrev pub magic : List ℕ
magic = codes "CKBDEV01"

-- ---- Blocks in records

-- The body of a record of kind 3: the block's length, the block, and its ext.
abbrev pub body_of_parts : List ℕ → List ℕ → List ℕ
body_of_parts item ext = to_le_bytes w32 (length item) ++ item ++ ext

-- the block and the ext of such a body
unfoldable pub parts_of_body : List ℕ → Option (List ℕ × List ℕ)
parts_of_body body =
    let size = count_at body 0 in
    if nat_le 4 (length body) && nat_le (4 + size) (length body)
    then Some (take size (drop 4 body), drop (4 + size) body)
    else None

-- its parent is among these blocks, its number is that one's plus 1, and its hash is new
abbrev pub may_stand_on : List Block → Block → Bool
may_stand_on kept b =
    follows b (option_and_then (block_at kept) (place_of kept b.header.parent_hash)) && not (is_some (place_of kept (block_hash b)))

abbrev pub block_if : Bool → Option Block → Option Block
block_if holds found = if holds then found else None

-- the block of a record that may stand after these blocks
abbrev pub block_of_parts : List Block → Option (List ℕ × List ℕ) → Option Block
block_of_parts kept None = None
block_of_parts kept (Some parts) =
    option_and_then (λ b. block_if (is_ext parts.1 && may_stand_on kept b) (Some b)) (decoded block parts.0)

abbrev pub block_of_record : List Block → Record → Option Block
block_of_record kept r = block_if (r.kind == 3) (block_of_parts kept (parts_of_body r.body))

-- the blocks after these, if each record has one that may stand there
abbrev pub blocks_over : List Block → List Record → Option (List Block)
blocks_over kept [] = Some kept
blocks_over kept (r ∷ records) = option_and_then (λ b. blocks_over (kept ++ b ∷ []) records) (block_of_record kept r)

-- ---- The edition

-- The record of an edition: the epoch from which the second edition of the rules holds, in 8 bytes.
abbrev pub edition_record : ℕ → Record
edition_record epoch = record { kind = 4; body = to_le_bytes w64 epoch }

abbrev pub is_of_edition : Record → Bool
is_of_edition r = r.kind == 4

-- an epoch fits its 8 bytes
abbrev pub is_edition : Record → Bool
is_edition r = is_of_edition r && (length r.body == 8)

abbrev pub epoch_in : Record → ℕ
epoch_in r = from_le_bytes w64 r.body

-- those of editions among records, in order
abbrev pub of_editions : List Record → List Record
of_editions records = filter is_of_edition records

-- and all others, which are those of blocks
abbrev pub of_blocks : List Record → List Record
of_blocks records = filter (λ r. not (is_of_edition r)) records

-- at most one, of 8 bytes
abbrev pub at_most_one : List Record → Bool
at_most_one [] = true
at_most_one (r ∷ []) = is_edition r
at_most_one (r ∷ other ∷ more) = false

abbrev pub first_epoch : List Record → Option ℕ
first_epoch [] = None
first_epoch (r ∷ more) = Some (epoch_in r)

-- The edition that records tell: the epoch from which the second edition of the rules holds, or none.
abbrev pub edition_of : List Record → Option ℕ
edition_of records = first_epoch (of_editions records)

-- ---- The log

pub record LogContent : Type 0 where
  pub specification : List ℕ
  pub genesis : List ℕ
  -- all that stand after the genesis, in order: those of blocks, and that of an edition in its place
  pub records : List Record
  -- all of them, genesis first
  pub blocks : List Block

-- The specification of a log's chain: that of its first record, with the edition that the later ones tell.
abbrev pub specification_in : LogContent → Specification
specification_in log = with_edition (edition_of log.records) (specification_of log.specification)

-- the most records of blocks: one for each kept block after the genesis
unfoldable pub record_limit : ℕ
record_limit = kept_limit - 1

abbrev pub are_first : Record → Record → Bool
are_first one two =
    (one.kind == 1) && is_none (broken_specification_rule one.body) && (two.kind == 2) && is_none (broken_genesis_rule two.body)

-- no more are of blocks than may be, and at most one is of an edition
abbrev pub may_be_later : List Record → Bool
may_be_later records = nat_le (length (of_blocks records)) record_limit && at_most_one (of_editions records)

-- what the records of a log say, if they are of its grammar
abbrev pub content_of_records : List Record → Option LogContent
content_of_records [] = None
content_of_records (one ∷ []) = None
content_of_records (one ∷ two ∷ records) =
    if are_first one two && may_be_later records
    then option_map (λ blocks. record { specification = one.body; genesis = two.body; records = records; blocks = blocks })
    (blocks_over (blocks_of_item two.body) (of_blocks records))
    else None

-- The bytes of a log, if they are one. What stands after the last whole record is not looked at.
unfoldable pub log_of : List ℕ → Option LogContent
log_of bytes = if bytes_eq (take 8 bytes) magic then content_of_records (records_of (drop 8 bytes)) else None

-- where the records end
unfoldable pub end_of_log : List ℕ → ℕ
end_of_log bytes = 8 + length (all_record_bytes (records_of (drop 8 bytes)))

-- ---- Where bytes stop being a log

-- the record of a specification
abbrev pub is_specification : Record → Bool
is_specification r = (r.kind == 1) && is_none (broken_specification_rule r.body)

-- the record of a genesis
abbrev pub is_genesis : Record → Bool
is_genesis r = (r.kind == 2) && is_none (broken_genesis_rule r.body)

-- Records stand one after the other from a place on. They stop being those of a log at the body of the first that may not stand where it does, or after
-- the last, where one that is missing should begin.

-- after those of these blocks, where one of an edition may come or may not
abbrev pub stop_of_later : List Block → Bool → ℕ → List Record → ℕ
stop_of_later kept may place [] = place
stop_of_later kept may place (r ∷ records) =
    if is_of_edition r
    then if may && is_edition r then stop_of_later kept false (place + length (record_bytes r)) records else place + 6
    else elim (block_if (nat_le (length kept) record_limit) (block_of_record kept r)) [
      | None ↦ place + 6
      | Some b ↦ stop_of_later (kept ++ b ∷ []) may (place + length (record_bytes r)) records
    ]

-- the record of the genesis and those after it
abbrev pub stop_of_genesis : ℕ → List Record → ℕ
stop_of_genesis place [] = place
stop_of_genesis place (r ∷ records) =
    if is_genesis r then stop_of_later (blocks_of_item r.body) true (place + length (record_bytes r)) records else place + 6

-- all records of a log
abbrev pub stop_of_records : ℕ → List Record → ℕ
stop_of_records place [] = place
stop_of_records place (r ∷ records) =
    if is_specification r then stop_of_genesis (place + length (record_bytes r)) records else place + 6

-- Where bytes stop being a log: at their start, or at a record. For a log this is where its records end.
unfoldable pub stop_of_log : List ℕ → ℕ
stop_of_log bytes = if bytes_eq (take 8 bytes) magic then stop_of_records 8 (records_of (drop 8 bytes)) else 0

-- Bytes are no log, and this is where they stop being one.
pub record IsNoLogFrom (bytes : List ℕ) (place : ℕ) : Type 0 where
  pub none : log_of bytes ≡ None
  pub stops : place ≡ stop_of_log bytes

-- ---- A new log

-- the two records that each log begins with
abbrev pub first_records : List ℕ → List ℕ → List Record
first_records specification genesis = record { kind = 1; body = specification } ∷ record { kind = 2; body = genesis } ∷ []

-- a new log: its first bytes, the two records, and a gate that is not open
abbrev pub new_log : List ℕ → List ℕ → List ℕ
new_log specification genesis = magic ++ (all_record_bytes (first_records specification genesis) ++ 0 ∷ [])
