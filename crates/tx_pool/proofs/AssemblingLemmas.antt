-- What is assembled after the tip.
use Rattle.std.proofs.Common.{◌≡◌, ℕ, ◌^◌, ◌<◌, ◌≤◌, Bool, true, false, cond, List, [], length, Option, Some, None, refl, sym, ap, ◌∙◌, subst, arith}
use Rattle.std.specs.Prelude.{IsTrue, is_some, ◌==◌}
use Rattle.std.specs.List.{list_any}
use Rattle.chain_defs.specs.Shape.{Shape, IsEncoding, encoded}
use Rattle.chain_defs.specs.Schema as schema
use Rattle.chain_defs.specs.Schema.{Transaction, Block, CellbaseWitness}
use Rattle.chain_defs.proofs.RowLaws.{block-check}
use Rattle.chain_defs.proofs.ShapeLaws.{decoded-is}
use Rattle.chain_defs.specs.Fold.{keep}
use Rattle.chain_defs.specs.Specification.{Specification}
use Rattle.chain_defs.specs.Kept.{block_hash, place_of, kept_limit}
use Rattle.chain_defs.specs.Branch.{branch}
use Rattle.chain_defs.specs.Tip.{tip_place, best_branch}
use Rattle.chain_tree.specs.declared.entry.Entry.{Entry}
use Rattle.chain_tree.specs.Told.{Stored, blocks_of}
use Rattle.chain_tree.specs.Blocks.{IndexesBlocks}
use Rattle.chain_tree.proofs.BlockLemmas.{len-same}
use Rattle.verdict_defs.specs.Rules.{first_broken}
use Rattle.block_judge.specs.Standing.{ContextValue}
use Rattle.verdict_defs.specs.Chain.{verdict_over}
use Rattle.verdict_defs.specs.declared.verdict.Verdict.TheVariants.{Joined}
use Rattle.pool_defs.specs.Start.{sealed}
use Rattle.pool_defs.specs.Assembly as pool
use Rattle.pool_defs.specs.Assembly.{assembly, assembled}
use Rattle.pool_defs.specs.Laws.{IsFounded, breakable}
use Rattle.pool_defs.proofs.JoiningLaws.{breaks-few, unbroken-joins}
use Rattle.pool_defs.specs.Size.{most_bytes}
use Rattle.tx_pool.specs.Assembling.{IsAssembled, IsMade, assembled_on, chain_on}
use Rattle.tx_pool.specs.Draft.{DraftValue, IsDraftSoFar}
use Rattle.tx_pool.specs.Sealing.{Fills}
use Rattle.tx_pool.specs.declared.assembling.Assembled.{Assembled}

-- whether a block is kept, by its hash
pub known-as : (kept : List Block) (b : Block) (hash : List ℕ) (found : Option ℕ) (test : Bool) → found ≡ place_of kept hash → hash ≡ block_hash b → is_some found ≡ test
    → is_some (place_of kept (block_hash b)) ≡ test
known-as kept b hash found test is same answered = ap (λ (h : List ℕ). is_some (place_of kept h)) (sym same) ∙ ap is_some (sym is) ∙ answered

-- J2 is broken by it, or what comes after that
pub breaks-2 : (known : Bool) (later : Option ℕ) → known ≡ true → Some 2 ≡ cond known (Some 2) later
breaks-2 known later is = sym (ap (λ (test : Bool). cond test (Some 2) later) is)

pub after-2 : (known : Bool) (later answer : Option ℕ) → known ≡ false → answer ≡ later → answer ≡ cond known (Some 2) later
after-2 known later answer is same = same ∙ sym (ap (λ (test : Bool). cond test (Some 2) later) is)

-- what kept blocks are founded on that a tree indexes
pub founded : (kept : List Block) (entries : List Entry) (parent : ℕ) → IndexesBlocks kept entries → parent < length entries → IsFounded kept
founded kept entries parent indexes within =
    let long = len-same kept entries indexes in
    record { is_kept = indexes.is_kept; some = omega (arith, long, within); genesis = indexes.genesis }

best-is : (kept : List Block) (parent : ℕ) → tip_place kept ≡ Some parent → best_branch kept ≡ branch kept parent
best-is kept parent top = ap (λ (place : Option ℕ). elim place [ None ↦ [] | Some it ↦ branch kept it ]) top

pub assembled-is : (spec : Specification) (kept : List Block) (parent : ℕ) (witness : CellbaseWitness) (items : List (List ℕ)) → tip_place kept ≡ Some parent
    → pool.assembled (chain_on spec kept) witness items ≡ assembled_on spec kept (branch kept parent) witness items
unfolding assembled
assembled-is spec kept parent witness items top = ap (λ (on : List Block). assembled_on spec kept on witness items) (best-is kept parent top)

-- ---- An answer

module _ (spec : Specification) (kept : List Block) (parent : ℕ) (witness : CellbaseWitness) (items : List (List ℕ)) (answer : Assembled)
    (made : IsMade spec (branch kept parent) (pool.assembly spec (branch kept parent) witness items) answer.lines.items answer.block.items)
    (broken : (b : Block) → IsEncoding schema.block answer.block.items b
    → answer.broken ≡ cond (is_some (place_of kept (block_hash b))) (Some 2) (first_broken spec (branch kept parent) b)) where
  pub answer-on : IsAssembled (assembled_on spec kept (branch kept parent) witness items) answer
  answer-on = record {
    lines_are = made.lines_are;
    block_is = made.block_is.encoding;
    broken_is = broken (sealed spec (branch kept parent) (pool.assembly spec (branch kept parent) witness items).block) made.block_is;
  }

-- after the best branch
module _ (spec : Specification) (kept : List Block) (parent : ℕ) (witness : CellbaseWitness) (items : List (List ℕ)) (top : tip_place kept ≡ Some parent)
    (answer : Assembled)
    (made : IsMade spec (branch kept parent) (pool.assembly spec (branch kept parent) witness items) answer.lines.items answer.block.items)
    (broken : (b : Block) → IsEncoding schema.block answer.block.items b
    → answer.broken ≡ cond (is_some (place_of kept (block_hash b))) (Some 2) (first_broken spec (branch kept parent) b)) where
  abbrev pub all : pool.Assembled
  all = pool.assembled (chain_on spec kept) witness items

  is : all ≡ assembled_on spec kept (branch kept parent) witness items
  is = assembled-is spec kept parent witness items top

  block-is : all.block ≡ sealed spec (branch kept parent) (pool.assembly spec (branch kept parent) witness items).block
  block-is = ap (λ (it : pool.Assembled). it.block) is

  on-branch : IsAssembled (assembled_on spec kept (branch kept parent) witness items) answer
  on-branch = answer-on spec kept parent witness items answer made broken

  broken-is : answer.broken ≡ all.broken
  broken-is = on-branch.broken_is ∙ sym (ap (λ (it : pool.Assembled). it.broken) is)

  pub answer-is : IsAssembled all answer
  answer-is = subst (λ (it : pool.Assembled). IsAssembled it answer) (sym is) on-branch

  pub answer-joins : (b : Block) → b ≡ all.block → IsFounded kept → length kept < kept_limit → answer.broken ≡ None
      → verdict_over (chain_on spec kept) answer.block.items ≡ Joined b.header.number (block_hash b)
  answer-joins b same begins room unbroken =
      let bytes_are : answer.block.items ≡ encoded schema.block b = answer-is.block_is ∙ ap (encoded schema.block) (sym same) in
      let its : IsEncoding schema.block answer.block.items b =
      subst (λ (it : Block). IsEncoding schema.block answer.block.items it) (sym (same ∙ block-is)) made.block_is in
      let own : IsEncoding schema.block (encoded schema.block b) b = record { fits = its.fits; encoding = refl } in
      ap (verdict_over (chain_on spec kept)) bytes_are
      ∙ unbroken-joins (chain_on spec kept) witness items b begins (sym same) (sym broken-is ∙ unbroken) (decoded-is schema.block block-check (encoded schema.block b) b own) room

  pub answer-breaks : (rule : ℕ) → IsFounded kept → answer.broken ≡ Some rule → IsTrue (list_any (λ other. other == rule) breakable)
  answer-breaks rule begins broke = breaks-few (chain_on spec kept) witness items rule begins (sym broken-is ∙ broke)

-- ---- What the items came to

pub bytes-as : {V : Type 0} (shape : Shape V) (bytes other : List ℕ) (v : V) → other ≡ bytes → IsEncoding shape bytes v → IsEncoding shape other v
bytes-as shape bytes other v same is = subst (λ (these : List ℕ). IsEncoding shape these v) (sym same) is

pub made-of : (stored : List Stored) (on : ContextValue) (witness : CellbaseWitness) (items : List (List ℕ)) (draft : DraftValue) (bytes : List ℕ)
    → IsDraftSoFar stored on (keep (pool.take_item on.spec (branch (blocks_of stored) on.parent)) (pool.start on.spec (branch (blocks_of stored) on.parent) witness) items) draft
    → IsEncoding schema.block bytes (sealed on.spec (branch (blocks_of stored) on.parent)
    (keep (pool.take_item on.spec (branch (blocks_of stored) on.parent)) (pool.start on.spec (branch (blocks_of stored) on.parent) witness) items).block)
    → IsMade on.spec (branch (blocks_of stored) on.parent) (pool.assembly on.spec (branch (blocks_of stored) on.parent) witness items) draft.lines bytes
unfolding assembly
made-of stored on witness items draft bytes is block = record { lines_are = is.lines_are; block_is = block }

pub fills-with : (stored : List Stored) (on : ContextValue) (so_far : pool.Assembly) (draft : DraftValue) (txs : List Transaction) (ids : List (List ℕ)) → IsDraftSoFar stored on so_far draft
    → txs ≡ draft.transactions → ids ≡ draft.proposals → Fills on.spec (branch (blocks_of stored) on.parent) so_far.block txs ids
fills-with stored on so_far draft txs ids is same named = record {
  header_is = is.fills.header_is;
  no_uncles = is.fills.no_uncles;
  transactions_are = same ∙ is.fills.transactions_are;
  ids_are = named ∙ is.fills.ids_are;
}

pub small-witness : (n : ℕ) → n ≤ most_bytes → n < 2 ^ 28
unfolding most_bytes
small-witness n small = omega (arith, small)
