-- The block that is assembled of a list of items, each a transaction, and what becomes of each (docs/RULES.md, "A block that is assembled").
use Rattle.std.specs.Prelude.{ℕ, ◌&&◌, not, List, [], ◌∷◌, ◌++◌, length, Option, Some, None, is_some, if◌then◌else◌}
use Rattle.chain_defs.specs.Shape.{decoded}
use Rattle.chain_defs.specs.Schema.{Transaction, transaction, Block, CellbaseWitness}
use Rattle.chain_defs.specs.First.{first_failing}
use Rattle.chain_defs.specs.Fold.{keep}
use Rattle.chain_defs.specs.Specification.{Specification}
use Rattle.chain_defs.specs.Kept.{block_hash, place_of}
use Rattle.chain_defs.specs.Tip.{best_branch}
use Rattle.chain_defs.specs.Hashes.{proposal_id}
use Rattle.rule_defs.specs.Body.{fits_length, has_proposals}
use Rattle.rule_defs.specs.Cellbase.{has_cellbase}
use Rattle.rule_defs.specs.Site.{Site, site_at}
use Rattle.rule_defs.specs.Capacity.{fee}
use Rattle.verdict_defs.specs.Scene.{scene_of}
use Rattle.verdict_defs.specs.ScriptRules.{cycles_of}
use Rattle.verdict_defs.specs.Transactions.{is_proposed, transaction_rules, left_after}
use Rattle.verdict_defs.specs.Rules.{first_broken}
use Rattle.verdict_defs.specs.Chain.{Chain}
use Rattle.pool_defs.specs.Start.{started, sealed}
use Rattle.pool_defs.specs.declared.line.Line.{Line}
use Rattle.pool_defs.specs.declared.line.Line.TheVariants.{Commit, Propose, Refused, Later}

-- What the items so far came to.
pub record Assembly : Type 0 where
  -- the block so far, whose header does not commit to it yet
  pub block : Block
  -- the cycles that its transactions leave
  pub left : ℕ
  -- what became of each item
  pub lines : List Line

-- ---- One item

-- a block with a transaction, or a proposal id, after those that it has
abbrev pub with_transaction : Block → Transaction → Block
with_transaction b t = record b { transactions = b.transactions ++ t ∷ [] }

abbrev pub with_proposal : Block → List ℕ → Block
with_proposal b id = record b { proposals = b.proposals ++ id ∷ [] }

-- an item that changes nothing but for its line
abbrev pub with_line : Assembly → Line → Assembly
with_line so_far line = record so_far { lines = so_far.lines ++ line ∷ [] }

-- where the next transaction of a block stands
abbrev pub next_site : Specification → List Block → Block → Site
next_site spec branch b = site_at spec branch b (length b.transactions)

abbrev pub proposed : Assembly → List ℕ → Assembly
proposed so_far id = record {
  block = with_proposal so_far.block id;
  left = so_far.left;
  lines = so_far.lines ++ Propose ∷ [];
}

abbrev pub committed_at : Site → Assembly → Transaction → Assembly
committed_at site so_far t = record {
  block = with_transaction so_far.block t;
  left = left_after site so_far.left t;
  lines = so_far.lines ++ Commit (fee site t) (cycles_of (scene_of site t) so_far.left) ∷ [];
}

-- The id of a transaction that may not be committed yet is put into the block where the block then keeps J9 and J10, so where it is not there.
abbrev pub propose : Specification → Assembly → Transaction → Assembly
propose spec so_far t =
    if fits_length spec (with_proposal so_far.block (proposal_id t)) && has_proposals spec (with_proposal so_far.block (proposal_id t))
    then proposed so_far (proposal_id t) else with_line so_far Later

-- A transaction that breaks no rule is put into the block where the block then keeps J9.
abbrev pub commit : Specification → List Block → Assembly → Transaction → Assembly
commit spec branch so_far t =
    if fits_length spec (with_transaction so_far.block t) then committed_at (next_site spec branch so_far.block) so_far t else with_line so_far Later

-- by the first of J18 and J20 to J30 that it breaks after the block's transactions, with the cycles that they leave. J19 is kept.
abbrev pub judge : Specification → List Block → Assembly → Transaction → Option ℕ → Assembly
judge spec branch so_far t (Some rule) = with_line so_far (Refused rule)
judge spec branch so_far t None = commit spec branch so_far t

-- A transaction with which the block breaks J16 is a cellbase, or in the block already. One that is not proposed for the block's height is proposed.
abbrev pub take_transaction : Specification → List Block → Assembly → Transaction → Assembly
take_transaction spec branch so_far t =
    if not (has_cellbase (with_transaction so_far.block t)) then with_line so_far (Refused 16)
    else if not (is_proposed spec branch t) then propose spec so_far t
    else judge spec branch so_far t (first_failing (transaction_rules (next_site spec branch so_far.block) so_far.left t))

-- J1: an item is a canonical `Transaction`.
abbrev pub take_decoded : Specification → List Block → Assembly → Option Transaction → Assembly
take_decoded spec branch so_far None = with_line so_far (Refused 1)
take_decoded spec branch so_far (Some t) = take_transaction spec branch so_far t

unfoldable pub take_item : Specification → List Block → Assembly → List ℕ → Assembly
take_item spec branch so_far item = take_decoded spec branch so_far (decoded transaction item)

-- ---- All items

abbrev pub start : Specification → List Block → CellbaseWitness → Assembly
start spec branch witness = record { block = started spec branch witness; left = spec.max_cycles; lines = [] }

-- What items come to after a branch, one after the other.
unfoldable pub assembly : Specification → List Block → CellbaseWitness → List (List ℕ) → Assembly
assembly spec branch witness items = keep (take_item spec branch) (start spec branch witness) items

-- ---- The block

-- what is assembled: a line for each item, the block, and the first rule that it breaks
pub record Assembled : Type 0 where
  pub lines : List Line
  pub block : Block
  pub broken : Option ℕ

-- J2, and else the first of the rules on a block on its branch
abbrev pub broken_by : Chain → Block → Option ℕ
broken_by chain b =
    if is_some (place_of chain.blocks (block_hash b)) then Some 2 else first_broken chain.spec (best_branch chain.blocks) b

abbrev pub assembled_of : Chain → Assembly → Assembled
assembled_of chain all =
    let b : Block = sealed chain.spec (best_branch chain.blocks) all.block in
    record { lines = all.lines; block = b; broken = broken_by chain b }

-- What is assembled over a chain, after its best branch, with the witness of the cellbase, of items.
unfoldable pub assembled : Chain → CellbaseWitness → List (List ℕ) → Assembled
assembled chain witness items = assembled_of chain (assembly chain.spec (best_branch chain.blocks) witness items)
