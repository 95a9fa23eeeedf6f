-- A chain: its specification and the blocks that are kept. Items are judged one after the other, each over what is kept by then
-- (docs/COMMANDS.md, "The text").
use Rattle.std.specs.Prelude.{ℕ, List}
use Rattle.chain_defs.specs.Schema.{Block}
use Rattle.chain_defs.specs.Fold.{keep, verdicts}
use Rattle.chain_defs.specs.Specification.{Specification, specification_of}
use Rattle.verdict_defs.specs.Verdict.{verdict, kept_after}
use Rattle.chain_defs.specs.Kept.{blocks_of_item}
use Rattle.verdict_defs.specs.declared.verdict.Verdict.{Verdict}

pub record Chain : Type 0 where
  pub spec : Specification
  pub blocks : List Block

-- the chain of a specification and a genesis, as handed in, where the genesis stands alone
abbrev pub chain_of_genesis : List ℕ → List ℕ → Chain
chain_of_genesis specification genesis = record { spec = specification_of specification; blocks = blocks_of_item genesis }

-- the verdict on an item, and the chain after it
abbrev pub verdict_over : Chain → List ℕ → Verdict
verdict_over chain item = verdict chain.spec chain.blocks item

abbrev pub chain_after : Chain → List ℕ → Chain
chain_after chain item = record { spec = chain.spec; blocks = kept_after chain.spec chain.blocks item }

-- the verdict on each of several items, and the chain after them
abbrev pub verdicts_over : Chain → List (List ℕ) → List Verdict
verdicts_over chain items = verdicts chain_after verdict_over chain items

abbrev pub chain_over : Chain → List (List ℕ) → Chain
chain_over chain items = keep chain_after chain items
