-- What a block is judged over, and what that stands for.
use Rattle.std.specs.Prelude.{◌≡◌, ◌⊎◌, ℕ, ◌≤◌, Bool, ◌∷◌, ◌++◌, List, Option, Some, None, Result, IsTrue, IsSome}
use Rattle.chain_defs.specs.Schema.{OutPoint, Block}
use Rattle.chain_defs.specs.Specification.{Specification}
use Rattle.chain_defs.specs.Branch.{branch}
use Rattle.chain_defs.specs.First.{first_failing}
use Rattle.rule_defs.specs.Cellbase.{forms_cellbase}
use Rattle.verdict_defs.specs.Transactions.{rules_of_transactions}
use Rattle.verdict_defs.specs.Rules.{broken_at_sight}
use Rattle.verdict_defs.specs.Ext.{ext_of}
use Rattle.verdict_defs.specs.Judged.{unless_broken}
use Rattle.rule_defs.specs.RewardRules.{end_rules}
use Rattle.chain_tree.specs.declared.entry.Entry.{Entry}
use Rattle.chain_tree.specs.Blocks.{IndexesBlocks}
use Rattle.chain_tree.specs.Told.{Stored, blocks_of}
use Rattle.chain_defs.specs.Cell.{Cell, holds_its_own}
use Rattle.chain_defs.specs.Events.{live_cell}
use Rattle.chain_defs.specs.Row.{Row, live_row}
use Rattle.chain_defs.specs.Ext.{Ext}
use Rattle.uncle_rules.specs.Embedded.{UnclesValue, IndexesUncles}
use Rattle.rewards.specs.Own.{HaveOwnFees}
use Rattle.block_judge.specs.declared.context.Context.{Context}

-- Over kept blocks that are known the tree indexes them, and the rows are those of the live cells of the parent's branch, of which those with a
-- type script hold what they occupy.
pub record Stands (stored : List Stored) (entries : List Entry) (parent : ℕ) (rows : OutPoint → Option Row) : Type 0 where
  pub indexed : IndexesBlocks (blocks_of stored) entries
  pub live : (o : OutPoint) → rows o ≡ live_row (blocks_of stored) parent o
  pub typed : (o : OutPoint) (cell : Cell) → live_cell (branch (blocks_of stored) parent) o ≡ Some cell → IsSome cell.output.type_script
      → IsTrue (holds_its_own cell.output cell.content)

-- All that a whole block is judged over: so it stands, the index of uncles is that of the kept blocks, and their exts have their own fees.
pub record StandsWhole (spec : Specification) (stored : List Stored) (entries : List Entry) (parent : ℕ) (rows : OutPoint → Option Row)
    (index : UnclesValue) : Type 0 where
  pub stands : Stands stored entries parent rows
  pub uncles : IndexesUncles (blocks_of stored) index
  pub fees : HaveOwnFees spec stored

-- What is judged on: the specification, the kept blocks as the tree and the index of uncles have them, the rows of the cells, and the place of
-- the parent.
pub record ContextValue : Type 0 where
  pub spec : Specification
  pub entries : List Entry
  pub uncles : UnclesValue
  pub rows : OutPoint → Option Row
  pub parent : ℕ

-- a context by what its cells have as rows
abbrev pub seen : {C : Type 0} → (C → OutPoint → Option Row) → Context C → ContextValue
seen rows context = record {
  spec = context.spec.now;
  entries = context.tree.now.entries;
  uncles = context.uncles.now;
  rows = rows context.cells.now;
  parent = context.parent;
}

-- The kept blocks for which a context stands, of a transaction and of a whole block.
abbrev pub ContextStandsFor : List Stored → ContextValue → Type 0
ContextStandsFor stored on = Stands stored on.entries on.parent on.rows

abbrev pub ContextStandsForAll : List Stored → ContextValue → Type 0
ContextStandsForAll stored on = StandsWhole on.spec stored on.entries on.parent on.rows on.uncles

-- A block has passed at sight: over these kept blocks it breaks none of the rules that ask for no live cell.
abbrev pub PassesAtSight : List Block → ContextValue → Block → Type 0
PassesAtSight kept on b = broken_at_sight on.spec (branch kept on.parent) b ≡ None

-- The rules that are left of such a block: J17, over the live cells, and those after it.
abbrev pub rules_left : Specification → List Block → Block → List (ℕ × Bool)
rules_left spec branch b = (17, forms_cellbase (live_cell branch) b) ∷ (rules_of_transactions spec branch b ++ end_rules spec branch b)

-- What comes of one by these: its ext, or the first that it breaks.
abbrev pub judged_left : Specification → List Block → ℕ → Block → Result Ext ℕ
judged_left spec kept parent b = unless_broken (ext_of spec kept parent b) (first_failing (rules_left spec (branch kept parent) b))

-- the rules that are tried on a block that has passed at sight
abbrev pub IsTried : ℕ → Type 0
IsTried rule = (17 ≤ rule) × (rule ≤ 32)

-- those that are tried on a transaction alone
abbrev pub IsTriedAlone : ℕ → Type 0
IsTriedAlone rule = (rule ≡ 18) ⊎ ((20 ≤ rule) × (rule ≤ 30))

-- those on scripts
abbrev pub IsScriptRule : ℕ → Type 0
IsScriptRule rule = (28 ≤ rule) × (rule ≤ 30)

-- those on a transaction
abbrev pub IsTriedOnTransaction : ℕ → Type 0
IsTriedOnTransaction rule = (18 ≤ rule) × (rule ≤ 30)
