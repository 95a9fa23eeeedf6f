-- What is counted where the blocks of a generated chain are imported (docs/COMMANDS.md, "make" and "soak").
use Rattle.std.specs.Prelude.{◌≡◌, ℕ, ◌<◌, ◌≤◌, List, [], ◌∷◌, map, length, Option, Some, None}
use Rattle.std.specs.List.{filter}
use Rattle.chain_defs.specs.Shape.{encoded}
use Rattle.chain_defs.specs.Schema.{Block, block}
use Rattle.chain_defs.specs.Kept.{block_hash}
use Rattle.chain_defs.specs.Tip.{tip, best_branch}
use Rattle.chain_defs.specs.Events.{events}
use Rattle.chain_defs.specs.LiveCells.{live_cells}
use Rattle.verdict_defs.specs.Verdict.{joins}
use Rattle.verdict_defs.specs.Chain.{Chain, chain_of_genesis, verdicts_over, chain_over}
use Rattle.gen_defs.specs.Start.{specification, specification_bytes, genesis}
use Rattle.gen_defs.specs.Chain.{block_made, blocks_made}
use Rattle.report_defs.specs.declared.counts.Counts.{Counts}

-- the height of a tip
abbrev pub height_of : Option Block → ℕ
height_of None = 0
height_of (Some b) = b.header.number

-- What is counted of items over a chain: those that join it, and the height and the live cells of the tip after them.
abbrev pub counts_over : Chain → List (List ℕ) → Counts
counts_over chain items = record {
  joined = length (filter joins (verdicts_over chain items));
  height = height_of (tip (chain_over chain items).blocks);
  cells = length (live_cells (events (best_branch (chain_over chain items).blocks)));
}

-- the chain of a generated genesis, which stands alone
abbrev pub generated_start : Chain
generated_start = chain_of_genesis (specification_bytes specification) (encoded block genesis)

-- the blocks of a seed, so many of them, as items
abbrev pub generated_items : ℕ → ℕ → List (List ℕ)
generated_items seed count = map (encoded block) (blocks_made seed count)

-- What is counted where they are imported over it.
unfoldable pub generated_counts : ℕ → ℕ → Counts
generated_counts seed count = counts_over generated_start (generated_items seed count)

-- The hashes of the genesis and of the blocks of a seed, so many of them, all differ. Block 0 is the genesis.
abbrev pub HashesDiffer : ℕ → ℕ → Type 0
HashesDiffer seed count = (i j : ℕ) → i < j → j ≤ count → block_hash (block_made seed i) ≡ block_hash (block_made seed j) → ⊥

-- What is counted where they are imported again and again, stopped at each call of the disk: the same, where these hashes differ. Where two are equal, nothing
-- is said of it.
abbrev pub AreSoakCounts : ℕ → ℕ → Counts → Type 0
AreSoakCounts seed count counts = HashesDiffer seed count → counts ≡ generated_counts seed count
