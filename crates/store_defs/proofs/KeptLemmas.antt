-- The branch of a block of a chain that has joined, by that of its parent.
use Rattle.std.proofs.Common.{◌≡◌, ℕ, zero, suc, ◌<◌, List, [], ◌∷◌, ◌++◌, length, take, drop, Some, sym, ap, ◌∙◌, arith}
use Rattle.std.specs.Prelude.{slice_get}
use Rattle.std.proofs.lemmas.List.{append_assoc, length_push, length-take-le}
use Rattle.std.proofs.lemmas.Option.{slice_get_within, same_Some}
use Rattle.chain_defs.specs.Schema.{Block}
use Rattle.chain_defs.specs.Kept.{block_at}
use Rattle.chain_defs.specs.Branch.{branch}
use Rattle.chain_defs.proofs.KeptLaws.{place_of-below}
use Rattle.chain_defs.proofs.BranchLaws.{branch-join}
use Rattle.verdict_defs.specs.Chain.{Chain}
use Rattle.verdict_defs.specs.Laws.{MayJoin}
use Rattle.verdict_defs.proofs.VerdictLaws.{branch-more}
use Rattle.store_defs.specs.Store.{IsJoined}

pub parts-at : (kept : List Block) (place : ℕ) (b : Block) → slice_get kept place ≡ Some b → kept ≡ take place kept ++ b ∷ drop (suc place) kept
parts-at [] place b there = absurd (cc)
parts-at (first ∷ later) zero b there = ap (λ (x : Block). x ∷ later) (same_Some first b there)
parts-at (first ∷ later) (suc place) b there = ap (λ (xs : List Block). first ∷ xs) (parts-at later place b there)

-- A block after the genesis stands on an earlier one, and its branch is that one's and the block.
pub record Grows (chain : Chain) (place : ℕ) (b : Block) : Type 0 where
  pub may : MayJoin chain.spec (take place chain.blocks) b
  pub below : may.parent < place
  pub on : branch (take place chain.blocks) may.parent ≡ branch chain.blocks may.parent
  pub grown : branch chain.blocks place ≡ branch chain.blocks may.parent ++ b ∷ []

pub grows : (chain : Chain) (place : ℕ) (b : Block) → IsJoined chain → 0 < place → block_at chain.blocks place ≡ Some b → Grows chain place b
grows chain place b joined above there = record { may = may; below = below; on = on; grown = grown }
  where
    before : List Block
    before = take place chain.blocks

    within : place < length chain.blocks
    within = slice_get_within chain.blocks place b there

    long : length before ≡ place
    long = length-take-le place chain.blocks (omega (arith, within))

    may : MayJoin chain.spec before b
    may = joined.each place b above there

    under : may.parent < length before
    under = place_of-below before b.header.parent_hash may.parent may.on_kept

    below : may.parent < place
    below = omega (arith, under, long)

    parts : chain.blocks ≡ before ++ b ∷ drop (suc place) chain.blocks
    parts = parts-at chain.blocks place b there

    on : branch before may.parent ≡ branch chain.blocks may.parent
    on = sym (ap (λ (blocks : List Block). branch blocks may.parent) parts ∙ branch-more before (b ∷ drop (suc place) chain.blocks) may.parent under)

    grown : branch chain.blocks place ≡ branch chain.blocks may.parent ++ b ∷ []
    grown =
        ap (λ (blocks : List Block). branch blocks place) (parts ∙ sym (append_assoc before (b ∷ []) (drop (suc place) chain.blocks)))
        ∙ branch-more (before ++ b ∷ []) (drop (suc place) chain.blocks) place (omega (arith, long, length_push before b))
        ∙ ap (branch (before ++ b ∷ [])) (sym long) ∙ branch-join before b may.parent may.on_kept
        ∙ ap (λ (blocks : List Block). blocks ++ b ∷ []) on
