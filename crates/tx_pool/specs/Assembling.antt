-- What is assembled, as the code answers it.
use Rattle.std.specs.Prelude.{◌≡◌, ℕ, ◌≤◌, List, length, Some, is_some, if◌then◌else◌}
use Rattle.std.specs.List.{All}
use Rattle.chain_defs.specs.Shape.{IsEncoding, encoded}
use Rattle.chain_defs.specs.Schema as schema
use Rattle.chain_defs.specs.Schema.{Block, CellbaseWitness}
use Rattle.chain_defs.specs.Specification.{Specification}
use Rattle.chain_defs.specs.Kept.{block_hash, place_of}
use Rattle.verdict_defs.specs.Rules.{first_broken}
use Rattle.verdict_defs.specs.Chain.{Chain}
use Rattle.pool_defs.specs.Start.{sealed}
use Rattle.pool_defs.specs.Assembly as pool
use Rattle.pool_defs.specs.Size.{most_items, most_bytes}
use Rattle.pool_defs.specs.declared.line.Line.{Line}
use Rattle.tx_pool.specs.declared.assembling.Assembled.{Assembled}

-- What it is made of is few and small: at most so many items, the bytes of each of at most so many, and a witness of at most as many.
pub record AreSmall {T : Type 0} (bytes_of : T → List ℕ) (witness : CellbaseWitness) (items : List T) : Type 0 where
  pub items_fit : length items ≤ most_items
  pub bytes_fit : All (λ item. length (bytes_of item) ≤ most_bytes) items
  pub witness_fits : length (encoded schema.cellbase_witness witness) ≤ most_bytes

-- an answer is what is assembled
pub record IsAssembled (all : pool.Assembled) (made : Assembled) : Type 0 where
  pub lines_are : made.lines.items ≡ all.lines
  pub block_is : made.block.items ≡ encoded schema.block all.block
  pub broken_is : made.broken ≡ all.broken

-- Lines and the bytes of a block are what the items came to after a branch.
pub record IsMade (spec : Specification) (on : List Block) (all : pool.Assembly) (lines : List Line) (bytes : List ℕ) : Type 0 where
  pub lines_are : lines ≡ all.lines
  pub block_is : IsEncoding schema.block bytes (sealed spec on all.block)

abbrev pub chain_on : Specification → List Block → Chain
chain_on spec blocks = record { spec = spec; blocks = blocks }

-- What is assembled after a branch of kept blocks, be it the best one or another.
abbrev pub assembled_on : Specification → List Block → List Block → CellbaseWitness → List (List ℕ) → pool.Assembled
assembled_on spec kept on witness items =
    let all : pool.Assembly = pool.assembly spec on witness items in
    let b : Block = sealed spec on all.block in record {
      lines = all.lines;
      block = b;
      broken = if is_some (place_of kept (block_hash b)) then Some 2 else first_broken spec on b;
    }
