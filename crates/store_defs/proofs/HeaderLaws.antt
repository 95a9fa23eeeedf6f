-- What the headers of a chain that has joined hold: each DAO field is rated, and along a branch numbers are heights.
use Rattle.std.proofs.Common.{◌≡◌, ℕ, zero, suc, ◌-◌, ◌<◌, List, length, take, Option, Some, sym, ap, ◌∙◌, subst, arith}
use Rattle.std.specs.Prelude.{IsTrue}
use Rattle.std.proofs.lemmas.Bool.{eqb-true}
use Rattle.std.proofs.lemmas.Option.{slice_get_within, same_Some}
use Rattle.chain_defs.specs.Schema.{Block}
use Rattle.chain_defs.specs.Dao.{is_rated}
use Rattle.chain_defs.specs.Kept.{block_at}
use Rattle.chain_defs.specs.Branch.{branch}
use Rattle.chain_defs.proofs.KeptLaws.{slice_get-below}
use Rattle.chain_defs.proofs.BranchLaws.{branch-last, IsBranch-branch}
use Rattle.rule_defs.specs.Reward.{dao_of}
use Rattle.rule_defs.proofs.DaoLaws.{stays-rated}
use Rattle.verdict_defs.specs.Chain.{Chain}
use Rattle.store_defs.specs.Store.{IsJoined}
use Rattle.store_defs.proofs.JoinedLemmas.{is_kept_of_joined}
use Rattle.store_defs.specs.JoinedLaws.{BlocksAreRated, NumbersAreHeights}
use Rattle.store_defs.proofs.KeptLemmas.{Grows, grows}
use Rattle.store_defs.proofs.RuleLemmas.{dao-unbroken, rated-good, first-good}

-- By G4, and since a block that keeps J32 is rated where its parent is, which is an earlier one.
rated-below : (most : ℕ) (chain : Chain) (place : ℕ) (b : Block) → place < most → IsJoined chain → block_at chain.blocks place ≡ Some b
    → IsTrue (is_rated b.header.dao)
rated-below zero chain place b few joined there = absurd (omega (arith, few))
rated-below (suc most) chain zero b few joined there =
    subst (λ (x : Block). IsTrue (is_rated x.header.dao)) (same_Some joined.genesis b (sym joined.first ∙ there))
    (rated-good joined.genesis joined.good)
rated-below (suc most) chain (suc place) b few joined there =
    stays-rated chain.spec (branch (take (suc place) chain.blocks) its.may.parent) b
    (subst (λ (it : Option Block). IsTrue (is_rated (dao_of it))) (sym last) (rated-below most chain its.may.parent parent.0 (omega (arith, few, its.below)) joined parent.1))
    (dao-unbroken chain.spec (branch (take (suc place) chain.blocks) its.may.parent) b its.may.unbroken)
  where
    its : Grows chain (suc place) b
    its = grows chain (suc place) b joined (omega arith) there

    within : its.may.parent < length chain.blocks
    within = let below = its.below in let here = slice_get_within chain.blocks (suc place) b there in omega (arith, below, here)

    parent : (x : Block) × (block_at chain.blocks its.may.parent ≡ Some x)
    parent = slice_get-below chain.blocks its.may.parent within

    last : block_at (branch (take (suc place) chain.blocks) its.may.parent) (length (branch (take (suc place) chain.blocks) its.may.parent) - 1) ≡ Some parent.0
    last =
        ap (λ (on : List Block). block_at on (length on - 1)) its.on
        ∙ branch-last chain.blocks its.may.parent within ∙ parent.1

pub blocks-are-rated : BlocksAreRated
blocks-are-rated chain place b joined there = rated-below (suc place) chain place b (omega arith) joined there

-- By G2, and since each block of a branch has its parent's number plus 1.
pub numbers-are-heights : NumbersAreHeights
numbers-are-heights chain place height b joined below there =
    let is = IsBranch-branch chain.blocks place (is_kept_of_joined chain joined) below in
    let first : joined.genesis.header.number ≡ 0 = eqb-true joined.genesis.header.number 0 (first-good joined.genesis joined.good) in
    omega (arith, first, is.numbered height joined.genesis b joined.first there)
