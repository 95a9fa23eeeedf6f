-- What may be relied on of a block that is assembled, in words (docs/RULES.md, "A block that is assembled").
use Rattle.std.specs.Prelude.{◌≡◌, ℕ, suc, ◌<◌, ◌==◌, List, [], ◌∷◌, ◌++◌, take, drop, length, Some, None, IfSome, IsTrue, slice_get}
use Rattle.std.specs.List.{list_any}
use Rattle.chain_defs.specs.Shape.{encoded, decoded}
use Rattle.chain_defs.specs.Schema.{Transaction, transaction, Block, CellbaseWitness}
use Rattle.chain_defs.specs.Schema as shapes
use Rattle.chain_defs.specs.First.{AllHold}
use Rattle.chain_defs.specs.Specification.{Specification}
use Rattle.chain_defs.specs.Kept.{block_hash, block_at, IsKept, kept_limit}
use Rattle.chain_defs.specs.Tip.{best_branch}
use Rattle.rule_defs.specs.Site.{site_at}
use Rattle.rule_defs.specs.Capacity.{fee}
use Rattle.verdict_defs.specs.Scene.{scene_of}
use Rattle.verdict_defs.specs.ScriptRules.{cycles_of}
use Rattle.verdict_defs.specs.Transactions.{transaction_rules, left_after, rules_of_transactions}
use Rattle.verdict_defs.specs.Chain.{Chain, verdict_over}
use Rattle.verdict_defs.specs.declared.verdict.Verdict.TheVariants.{Joined}
use Rattle.pool_defs.specs.Assembly.{assembled}
use Rattle.pool_defs.specs.declared.line.Line.{Line}
use Rattle.pool_defs.specs.declared.line.Line.TheVariants.{Commit}

-- ---- What becomes of the items

-- Law: each item has a line, which does not depend on the items after it.
abbrev pub LinesStay : Type 0
LinesStay = (chain : Chain) (witness : CellbaseWitness) (items more : List (List ℕ))
    → (length (assembled chain witness items).lines ≡ length items)
    × ((rest : List Line) × ((assembled chain witness (items ++ more)).lines ≡ (assembled chain witness items).lines ++ rest))

-- Law: the transactions of the block keep J18 to J30 in it.
abbrev pub TransactionsKeepTheirRules : Type 0
TransactionsKeepTheirRules = (chain : Chain) (witness : CellbaseWitness) (items : List (List ℕ))
    → AllHold (rules_of_transactions chain.spec (best_branch chain.blocks) (assembled chain witness items).block)

-- what transactions of a block, the first of them at a place, leave of so many cycles
unfoldable pub left_from : Specification → List Block → Block → ℕ → ℕ → List Transaction → ℕ
left_from spec branch b place left [] = left
left_from spec branch b place left (t ∷ later) = left_from spec branch b (suc place) (left_after (site_at spec branch b place) left t) later

-- the cycles that the transactions of a block before a place, after the cellbase, leave
abbrev pub left_before : Specification → List Block → Block → ℕ → ℕ
left_before spec branch b place = left_from spec branch b 1 spec.max_cycles (drop 1 (take place b.transactions))

-- A transaction stands in a block after its cellbase. There it keeps J18 to J30, and pays this fee and takes these cycles.
pub record IsCommitted (spec : Specification) (branch : List Block) (b : Block) (t : Transaction) (paid cycles : ℕ) : Type 0 where
  pub place : ℕ
  pub after_cellbase : 0 < place
  pub there : slice_get b.transactions place ≡ Some t
  pub kept : AllHold (transaction_rules (site_at spec branch b place) (left_before spec branch b place) t)
  pub fee_is : paid ≡ fee (site_at spec branch b place) t
  pub cycles_are : cycles ≡ cycles_of (scene_of (site_at spec branch b place) t) (left_before spec branch b place)

-- Law: so does each that has the line of one.
abbrev pub CommitsStand : Type 0
CommitsStand = (chain : Chain) (witness : CellbaseWitness) (items : List (List ℕ)) (i paid cycles : ℕ)
    → slice_get (assembled chain witness items).lines i ≡ Some (Commit paid cycles)
    → (item : List ℕ) × (t : Transaction) × (slice_get items i ≡ Some item) × (decoded transaction item ≡ Some t)
    × IsCommitted chain.spec (best_branch chain.blocks) (assembled chain witness items).block t paid cycles

-- ---- What becomes of the block

-- Kept blocks begin with a genesis of number 0.
pub record IsFounded (kept : List Block) : Type 0 where
  pub is_kept : IsKept kept
  pub some : 0 < length kept
  pub genesis : IfSome (block_at kept 0) (λ block. block.header.number ≡ 0)

-- The rules that the block may break: its hash may be kept already, no number may be above the median time, and the witness, the items, the
-- specification and the branch may leave no block that keeps the others.
abbrev pub breakable : List ℕ
breakable = 2 ∷ 8 ∷ 9 ∷ 16 ∷ 17 ∷ 31 ∷ 32 ∷ []

-- Law: it breaks none but these.
abbrev pub BreaksFew : Type 0
BreaksFew = (chain : Chain) (witness : CellbaseWitness) (items : List (List ℕ)) (rule : ℕ) → IsFounded chain.blocks
    → (assembled chain witness items).broken ≡ Some rule → IsTrue (list_any (λ other. other == rule) breakable)

-- Law: where it breaks none, its bytes are a canonical `Block`, and there is room, they join.
abbrev pub UnbrokenJoins : Type 0
UnbrokenJoins = (chain : Chain) (witness : CellbaseWitness) (items : List (List ℕ)) (b : Block) → IsFounded chain.blocks
    → (assembled chain witness items).block ≡ b → (assembled chain witness items).broken ≡ None
    → decoded shapes.block (encoded shapes.block b) ≡ Some b → length chain.blocks < kept_limit
    → verdict_over chain (encoded shapes.block b) ≡ Joined b.header.number (block_hash b)
