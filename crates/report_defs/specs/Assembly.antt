-- What `assemble` tells: what becomes of each item, and then the block (docs/COMMANDS.md, "assemble").
use Rattle.std.specs.Prelude.{ℕ, Bool, true, false, ◌||◌, is_some, List, ◌∷◌, ◌++◌, replicate, codes, Option, Some, None, if◌then◌else◌}
use Rattle.std.specs.List.{list_any}
use Rattle.std.specs.Fmt.{decimal}
use Rattle.chain_defs.specs.Shape.{encoded}
use Rattle.chain_defs.specs.Schema as schema
use Rattle.pool_defs.specs.Assembly.{Assembled}
use Rattle.pool_defs.specs.Size.{most_items}
use Rattle.pool_defs.specs.declared.line.Line.{Line}
use Rattle.pool_defs.specs.declared.line.Line.TheVariants.{Commit, Propose, Refused, Later}
use Rattle.report_defs.specs.declared.status.Status.{Status}
use Rattle.report_defs.specs.declared.status.Status.TheVariants.{Done, SomeRefused}
use Rattle.report_defs.specs.Text.{line_feed, hex_text}

-- ---- The input

-- the limits of the witness and of each item after it, a transaction, where an item has at most so many bytes
unfoldable pub assembly_items : ℕ → List ℕ
assembly_items item_limit = item_limit ∷ replicate most_items item_limit

-- ---- The lines

-- the line of an item
abbrev pub pool_line : Line → List ℕ
pool_line (Commit fee cycles) = codes "commit " ++ decimal fee ++ codes " " ++ decimal cycles ++ line_feed
pool_line Propose = codes "propose" ++ line_feed
pool_line (Refused rule) = codes "refused J" ++ decimal rule ++ line_feed
pool_line Later = codes "later" ++ line_feed

-- the line of a block that breaks this rule
abbrev pub no_block_line : ℕ → List ℕ
no_block_line rule = codes "no block J" ++ decimal rule ++ line_feed

-- the last line, by the bytes of the block and the first rule that it breaks
abbrev pub block_line : List ℕ → Option ℕ → List ℕ
block_line bytes None = codes "block " ++ hex_text bytes ++ line_feed
block_line bytes (Some rule) = no_block_line rule

abbrev pub last_line : Assembled → List ℕ
last_line all = block_line (encoded schema.block all.block) all.broken

-- ---- The status

abbrev pub refuses : Line → Bool
refuses (Commit fee cycles) = false
refuses Propose = false
refuses (Refused rule) = true
refuses Later = false

-- an item is refused, or there is no block
abbrev pub status_of_lines : List Line → Option ℕ → Status
status_of_lines lines broken = if list_any refuses lines || is_some broken then SomeRefused else Done
