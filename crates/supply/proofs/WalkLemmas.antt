-- A branch that is walked from its genesis on, block by block.
use Rattle.std.proofs.Common.{◌≡◌, ℕ, ◌+◌, ◌-◌, ◌<◌, List, [], ◌∷◌, ◌++◌, length, take, Option, Some, sym, ap, subst, ◌∙◌, arith}
use Rattle.std.specs.Prelude.{slice_get, IfSome}
use Rattle.std.proofs.lemmas.List.{take_more, take_all}
use Rattle.std.proofs.lemmas.Option.{slice_get_within, get_or_from_slice_get}
use Rattle.chain_defs.specs.Schema.{Block}
use Rattle.chain_defs.specs.Kept.{block_at, parent_place, IsKept}
use Rattle.chain_defs.specs.Branch.{branch_places, branch, IsBranch}
use Rattle.chain_defs.proofs.KeptLaws.{slice_get-below}
use Rattle.chain_defs.proofs.BranchLaws.{branch_before, branch-step, IsBranch-branch}
use Rattle.chain_tree.specs.declared.entry.Entry.{Entry}
use Rattle.chain_tree.specs.Entries.{entry_at}
use Rattle.chain_tree.specs.Blocks.{IndexesBlocks}
use Rattle.chain_tree.proofs.BlockLemmas.{DescribedAt, described}
use Rattle.rewards.proofs.BranchLemmas.{StandsAt, stands-at}

-- its genesis alone
pub walk-first : (kept : List Block) (place : ℕ) (genesis : Block) → IsKept kept → place < length kept → block_at kept 0 ≡ Some genesis
    → take 1 (branch kept place) ≡ genesis ∷ []
walk-first kept place genesis is within there =
    let first : block_at (branch kept place) 0 ≡ Some genesis = (IsBranch-branch kept place is within).first ∙ there in
    take_more (branch kept place) 0 genesis (slice_get_within (branch kept place) 0 genesis first)
    ∙ ap (λ (b : Block). b ∷ []) (get_or_from_slice_get (branch kept place) 0 genesis genesis first)

-- What comes before a height and up to it: the branches of the block there and of its parent.
pub record WalksTo (kept : List Block) (top height place : ℕ) : Type 0 where
  pub parent : ℕ
  pub on : parent_place kept place ≡ Some parent
  pub before : take height (branch kept top) ≡ branch kept parent
  pub after : take (height + 1) (branch kept top) ≡ branch kept place

pub walks-to : (kept : List Block) (entries : List Entry) (top height place : ℕ) (entry : Entry) → IndexesBlocks kept entries → top < length kept
    → slice_get (branch_places kept top) height ≡ Some place → entry_at entries place ≡ Some entry → 0 < place → WalksTo kept top height place
walks-to kept entries top height place entry indexes within at there later =
    let stands : StandsAt kept top height place = stands-at kept top height place within at in
    let on : parent_place kept place ≡ Some entry.parent = indexes.parents place entry later there in
    let here : DescribedAt kept place entry = described kept entries place entry indexes.each there in
    let before : take height (branch kept top) ≡ branch kept entry.parent = stands.before ∙ ap (branch_before kept) on in
    record {
      parent = entry.parent;
      on = on;
      before = before;
      after = take_more (branch kept top) height here.block stands.below
          ∙ (λ i. before i ++ get_or_from_slice_get (branch kept top) height here.block here.block (stands.here ∙ here.there) i ∷ [])
          ∙ sym (branch-step kept place here.block here.there ∙ ap (λ (found : Option ℕ). branch_before kept found ++ here.block ∷ []) on);
    }

-- It has one block a number, from 0 to that of the block at its end.
pub walk-long : (kept : List Block) (entries : List Entry) (place : ℕ) (entry : Entry) → IndexesBlocks kept entries → entry_at entries place ≡ Some entry
    → length (branch kept place) ≡ entry.number + 1
walk-long kept entries place entry indexes there =
    let within : place < length kept = slice_get_within kept place here.block here.there in
    let genesis = slice_get-below kept 0 (omega (arith, within)) in
    let first : genesis.0.header.number ≡ 0 = subst (λ (found : Option Block). IfSome found (λ b. b.header.number ≡ 0)) genesis.1 indexes.genesis in
    let is : IsBranch kept place (branch kept place) = IsBranch-branch kept place indexes.is_kept within in
    let end : ℕ = length (branch kept place) - 1 in
    let last : block_at (branch kept place) end ≡ Some here.block = is.last ∙ here.there in
    let some : end < length (branch kept place) = slice_get_within (branch kept place) end here.block last in
    let number : here.block.header.number ≡ genesis.0.header.number + end = is.numbered end genesis.0 here.block genesis.1 last in
    omega (arith, some, number, first, here.is.number)
  where
    here : DescribedAt kept place entry
    here = described kept entries place entry indexes.each there

-- all of it
pub walk-whole : (kept : List Block) (entries : List Entry) (place : ℕ) (entry : Entry) (height : ℕ) → IndexesBlocks kept entries → entry_at entries place ≡ Some entry
    → entry.number < height → take height (branch kept place) ≡ branch kept place
walk-whole kept entries place entry height indexes there past =
    let long : length (branch kept place) ≡ entry.number + 1 = walk-long kept entries place entry indexes there in
    take_all height (branch kept place) (omega (arith, long, past))
