-- The laws of a block that is assembled and breaks no rule.
use Rattle.std.proofs.Common.{◌≡◌, ℕ, ◌^◌, ◌<◌, Bool, true, false, cond, List, [], ◌∷◌, ◌++◌, length, Option, Some, None, refl, sym, ap, subst, arith}
use Rattle.std.specs.Prelude.{IsTrue, is_some}
use Rattle.std.proofs.lemmas.List.Elements.{All-head, All-tail}
use Rattle.chain_defs.specs.Shape.{encoded, decoded}
use Rattle.chain_defs.specs.Schema.{Block, block}
use Rattle.chain_defs.proofs.ShapeLaws.{decoded-is}
use Rattle.chain_defs.proofs.RowLaws.{block-check}
use Rattle.chain_defs.specs.First.{AllHold}
use Rattle.chain_defs.proofs.FirstLemmas.{finds_none}
use Rattle.chain_defs.specs.Specification.{Specification}
use Rattle.chain_defs.specs.Kept.{kept_limit, block_hash, place_of}
use Rattle.chain_defs.specs.Branch.{branch}
use Rattle.chain_defs.specs.Median.{median_time}
use Rattle.chain_defs.specs.Tip.{tip_place, best_branch}
use Rattle.chain_defs.proofs.TipLaws.{tip_place-there, tip_place-below}
use Rattle.rule_defs.specs.Header.{parent_of, has_version, has_epoch, has_target, is_later}
use Rattle.chain_defs.specs.Kept.{follows}
use Rattle.rule_defs.specs.Body.{fits_length, has_proposals, commits_to_proposals, commits_to_transactions, has_few_uncles, commits_to_uncles}
use Rattle.rule_defs.specs.FamilyRules.{uncle_and_cellbase_rules}
use Rattle.rule_defs.specs.RewardRules.{end_rules}
use Rattle.verdict_defs.specs.Transactions.{rules_of_transactions}
use Rattle.verdict_defs.specs.Rules.{all_rules, first_broken}
use Rattle.pool_defs.specs.Start.{cellbase, sealed}
use Rattle.pool_defs.specs.Assembly.{Assembly, assembly, assembled}
use Rattle.pool_defs.proofs.ItemLemmas.{Holds}
use Rattle.pool_defs.proofs.AssemblyLaws.{holds-all}
use Rattle.pool_defs.proofs.JoiningLaws.{unbroken-joins}
use Rattle.report_laws.specs.CanonicalLaws.{UnbrokenIsCanonical, UnbrokenIsJoined}
use Rattle.report_laws.proofs.NumberLemmas.{median-below, branch-few, on-branch}
use Rattle.report_laws.proofs.ItemLemmas.{AreOfShape, shape-all}
use Rattle.report_laws.proofs.BlockLemmas.{cellbase-fits, header-fits, block-fits, whole-short}

sixth : (a b c d e f : ℕ × Bool) (rest : List (ℕ × Bool)) → AllHold (a ∷ b ∷ c ∷ d ∷ e ∷ f ∷ rest) → IsTrue f.1
sixth a b c d e f rest all =
    All-head (λ rule. IsTrue rule.1) f rest (All-tail (λ rule. IsTrue rule.1) e (f ∷ rest) (All-tail (λ rule. IsTrue rule.1) d (e ∷ f ∷ rest)
    (All-tail (λ rule. IsTrue rule.1) c (d ∷ e ∷ f ∷ rest) (All-tail (λ rule. IsTrue rule.1) b (c ∷ d ∷ e ∷ f ∷ rest)
    (All-tail (λ rule. IsTrue rule.1) a (b ∷ c ∷ d ∷ e ∷ f ∷ rest) all)))))

keeps-length : (spec : Specification) (on : List Block) (b : Block) → first_broken spec on b ≡ None → IsTrue (fits_length spec b)
unfolding first_broken all_rules
keeps-length spec on b none =
    sixth (4, has_version b.header) (5, follows b (parent_of on)) (6, has_epoch spec b.header) (7, has_target spec b.header) (8, is_later on b.header)
    (9, fits_length spec b)
    ((10, has_proposals spec b) ∷ (11, commits_to_proposals b) ∷ (12, commits_to_transactions b) ∷ (13, has_few_uncles b) ∷ (14, commits_to_uncles b)
    ∷ (uncle_and_cellbase_rules spec on b ++ (rules_of_transactions spec on b ++ end_rules spec on b)))
    ((finds_none (all_rules spec on b)).0 none)

none-broken : (known : Bool) (broken : Option ℕ) → cond known (Some 2) broken ≡ None → broken ≡ None
none-broken true broken is = absurd (cc)
none-broken false broken is = is

few-kept : (n : ℕ) → n < kept_limit → n < 2 ^ 23
unfolding kept_limit
few-kept n few = omega (arith, few)

pub unbroken-canonical : UnbrokenIsCanonical
unfolding assembled
unbroken-canonical chain witness items is = decoded-is block block-check (encoded block made) made (record { fits = fits; encoding = refl })
  where
    on : List Block
    on = best_branch chain.blocks

    all : Assembly
    all = assembly chain.spec on witness items

    made : Block
    made = sealed chain.spec on all.block

    holds : Holds chain.spec on items all
    holds = holds-all chain.spec on witness items

    shape : AreOfShape (cellbase chain.spec on witness) all
    shape = shape-all chain.spec on witness items

    tip : (place : ℕ) × (tip_place chain.blocks ≡ Some place)
    tip = tip_place-there chain.blocks is.founded.some

    below : tip.0 < length chain.blocks
    below = tip_place-below chain.blocks tip.0 tip.1

    best : on ≡ branch chain.blocks tip.0
    best = ap (λ (at : Option ℕ). elim at [ None ↦ [] | Some place ↦ branch chain.blocks place ]) tip.1

    high : length on < 2 ^ 24
    high = let few = few-kept (length chain.blocks) is.room in omega (arith, ap length best, branch-few chain.blocks tip.0, below, few)

    median : median_time on < 2 ^ 64
    median = subst (λ (line : List Block). median_time line < 2 ^ 64) (sym best)
        (median-below (branch chain.blocks tip.0) (2 ^ 64) (omega arith)
        (on-branch chain.blocks tip.0 (λ (b : Block). b.header.timestamp < 2 ^ 64) is.founded.is_kept below is.in_range.timestamps))

    short : length (encoded block made) < 2 ^ 32
    short = whole-short chain.spec made holds.uncles is.in_range.max_block_bytes
        (keeps-length chain.spec on made (none-broken (is_some (place_of chain.blocks (block_hash made))) (first_broken chain.spec on made) is.unbroken))

    fits : IsTrue (block.encoding made).fits
    fits = block-fits made (cellbase chain.spec on witness) shape.later
        (header-fits chain.spec on all.block holds.header is.in_range.compact_target is.in_range.epoch_length high median) holds.uncles shape.transactions_are
        (λ first_short. cellbase-fits chain.spec on witness (omega (arith, high)) is.witness_fits first_short) shape.later_fit shape.ids_fit short

pub unbroken-joined : UnbrokenIsJoined
unbroken-joined chain witness items b is same =
    unbroken-joins chain witness items b is.founded same is.unbroken
    (subst (λ (it : Block). decoded block (encoded block it) ≡ Some it) same (unbroken-canonical chain witness items is)) is.room
