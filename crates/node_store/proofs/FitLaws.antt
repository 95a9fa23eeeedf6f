-- The exts of canonical blocks that join fit their bytes.
use Rattle.std.proofs.Common.{◌≡◌, ℕ, suc, ◌<◌, ◌^◌, List, [], ◌∷◌, length, take, drop, Option, refl, sym, ap, ◌∙◌, subst, arith}
use Rattle.std.specs.Option.{option_and_then}
use Rattle.std.specs.List.{All}
use Rattle.std.proofs.lemmas.List.{length-drop, length-take-le}
use Rattle.std.proofs.lemmas.Option.{slice_get_within, same_Some}
use Rattle.chain_defs.specs.Schema.{OutPoint, Transaction, Block}
use Rattle.chain_defs.specs.Specification.{Specification}
use Rattle.chain_defs.specs.Kept.{place_of}
use Rattle.chain_defs.specs.Branch.{branch}
use Rattle.chain_defs.proofs.KeptLaws.{slice_get-take, place_of-below}
use Rattle.chain_defs.proofs.BranchLaws.{parent_place-below}
use Rattle.chain_defs.specs.Events.{events_of_block}
use Rattle.chain_defs.specs.Row.{Row, live_row}
use Rattle.rule_defs.specs.Capacity.{fees_from}
use Rattle.chain_defs.specs.Undo.{spent_of}
use Rattle.verdict_defs.specs.Ext.{ext_of}
use Rattle.verdict_defs.specs.Laws.{MayJoin}
use Rattle.store_defs.specs.Store.{first_of}
use Rattle.store_defs.proofs.RuleLemmas.{transactions-unbroken, fees-fit}
use Rattle.store_defs.proofs.ExtLaws.{exts-hold-spent-rows}
use Rattle.chain_defs.specs.Fits.{FitsRow, FitsExt}
use Rattle.chain_defs.specs.FitLaws.{IsCanonical, AreCanonical}
use Rattle.chain_defs.proofs.ShapeLemmas.{few-transactions}
use Rattle.chain_defs.proofs.CountLemmas.{inputs-are-few}
use Rattle.node_store.specs.ReorgLaws.{ExtsFit, JoinedExtsFit}
use Rattle.node_store.proofs.BranchLemmas.{row-fits}
use Rattle.node_store.proofs.SpentLemmas.{spent-are-of, few-spent}

-- ---- Fees

count-fees : (spec : Specification) (on : List Block) (b : Block) (place : ℕ) (txs : List Transaction) → length (fees_from spec on b place txs) ≡ length txs
unfolding fees_from
count-fees spec on b place [] = refl
count-fees spec on b place (t ∷ later) = ap suc (count-fees spec on b (suc place) later)

few-fees : (spec : Specification) (kept : List Block) (parent : ℕ) (b : Block) → IsCanonical b → length (ext_of spec kept parent b).fees < 2 ^ 32
unfolding ext_of
few-fees spec kept parent b canonical =
    let many = count-fees spec (branch kept parent) b 1 (drop 1 b.transactions) in
    let later = length-drop 1 b.transactions in
    omega (arith, many, later, few-transactions b canonical)

-- each stays below the inputs that its rule bounds
small-fees : (spec : Specification) (kept : List Block) (b : Block) (may : MayJoin spec kept b) → All (λ fee. fee < 2 ^ 64) (ext_of spec kept may.parent b).fees
unfolding ext_of
small-fees spec kept b may =
    fees-fit spec (branch kept may.parent) b 1 spec.max_cycles (drop 1 b.transactions)
    (transactions-unbroken spec (branch kept may.parent) b may.unbroken)

-- ---- Exts

pub exts-fit : ExtsFit
exts-fit chain b may canonical own = record {
  few_fees = few-fees chain.spec chain.blocks may.parent b own;
  fees = small-fees chain.spec chain.blocks b may;
  few_rows = let same = ap length spent in let fewer = few-spent height b rows in let few = inputs-are-few b own in omega (arith, same, fewer, few);
  rows = subst (All FitsRow) (sym spent)
      (spent-are-of FitsRow (events_of_block height b) rows (λ o row is. row-fits chain.blocks may.parent o row canonical may.room below is));
}
  where
    height : ℕ
    height = length (branch chain.blocks may.parent)

    rows : OutPoint → Option Row
    rows = live_row chain.blocks may.parent

    below : may.parent < length chain.blocks
    below = place_of-below chain.blocks b.header.parent_hash may.parent may.on_kept

    spent : (ext_of chain.spec chain.blocks may.parent b).spent ≡ spent_of (events_of_block height b) rows
    spent = exts-hold-spent-rows chain b may

pub joined-exts-fit : JoinedExtsFit
joined-exts-fit chain joined canonical place parent b there on =
    subst (λ (p : ℕ). FitsExt (ext_of chain.spec before p b)) same (exts-fit (first_of chain place) b may earlier (canonical place b there))
  where
    before : List Block
    before = take place chain.blocks

    low : parent < place
    low = parent_place-below chain.blocks place parent on

    may : MayJoin chain.spec before b
    may = joined.each place b (omega (arith, low)) there

    within : place < length chain.blocks
    within = slice_get_within chain.blocks place b there

    long : length before ≡ place
    long = length-take-le place chain.blocks (omega (arith, within))

    same : may.parent ≡ parent
    same =
        same_Some may.parent parent (sym may.on_kept
        ∙ sym (ap (option_and_then (λ (x : Block). place_of before x.header.parent_hash)) there) ∙ on)

    earlier : AreCanonical before
    earlier other block found =
        let there_before = slice_get_within before other block found in
        canonical other block (sym (slice_get-take place chain.blocks other (omega (arith, there_before, long))) ∙ found)
