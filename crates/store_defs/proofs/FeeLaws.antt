-- The fees in the ext of a block of a chain that has joined.
use Rattle.std.proofs.Common.{◌≡◌, ℕ, zero, suc, ◌+◌, ◌-◌, ◌*◌, ◌<◌, ◌^◌, List, [], ◌∷◌, ◌++◌, length, map, take, drop, refl, sym, ap, ◌∙◌, subst, append_assoc, arith}
use Rattle.std.specs.Prelude.{slice_index}
use Rattle.std.specs.Option.{option_and_then}
use Rattle.std.specs.List.{All, slice_range, concat}
use Rattle.std.specs.Int.{w32, w64, to_le_bytes, from_le_bytes}
use Rattle.std.proofs.lemmas.Nat.{from_le_bytes-to_le_bytes_8}
use Rattle.std.proofs.lemmas.List.{drop-drop, take_at, drop_at}
use Rattle.std.proofs.lemmas.Option.{same_Some}
use Rattle.chain_defs.specs.Schema.{Block}
use Rattle.chain_defs.specs.Kept.{place_of}
use Rattle.chain_defs.specs.Branch.{branch}
use Rattle.chain_defs.specs.Ext.{Ext, row_bytes, ext_bytes, fee_of}
use Rattle.rule_defs.specs.Capacity.{fees_from}
use Rattle.verdict_defs.specs.Ext.{ext_of}
use Rattle.store_defs.specs.Store.{first_of, own_ext, ext_on}
use Rattle.store_defs.proofs.ExtLemmas.{counts-fees}
use Rattle.store_defs.specs.JoinedLaws.{HoldsFees, ExtsHoldFees}
use Rattle.store_defs.proofs.RuleLemmas.{transactions-unbroken, fees-fit}
use Rattle.store_defs.proofs.KeptLemmas.{Grows, grows}

-- ---- The bytes of an ext

-- the eight bytes of a fee among those of all
fee-piece : (fees : List ℕ) (rest : List ℕ) (i : ℕ) → i < length fees
    → take 8 (drop (8 * i) (concat (map (to_le_bytes w64) fees) ++ rest)) ≡ to_le_bytes w64 (slice_index fees i)
fee-piece [] rest i within = absurd (omega (arith, within))
fee-piece (fee ∷ fees) rest zero within =
    ap (take 8) (append_assoc (to_le_bytes w64 fee) (concat (map (to_le_bytes w64) fees)) rest)
    ∙ take_at (to_le_bytes w64 fee) (concat (map (to_le_bytes w64) fees) ++ rest) 8 refl
fee-piece (fee ∷ fees) rest (suc i) within =
    let bytes : List ℕ = concat (map (to_le_bytes w64) (fee ∷ fees)) ++ rest in
    let later : drop 8 bytes ≡ concat (map (to_le_bytes w64) fees) ++ rest =
    ap (drop 8) (append_assoc (to_le_bytes w64 fee) (concat (map (to_le_bytes w64) fees)) rest)
    ∙ drop_at (to_le_bytes w64 fee) (concat (map (to_le_bytes w64) fees) ++ rest) 8 refl in
    let at : 8 * suc i ≡ 8 + 8 * i = omega arith in
    ap (λ (n : ℕ). take 8 (drop n bytes)) at ∙ ap (take 8) (sym (drop-drop (8 * i) 8 bytes)) ∙ ap (λ (l : List ℕ). take 8 (drop (8 * i) l)) later
    ∙ fee-piece fees rest i (omega (arith, within))

split : (count fees rows spent : List ℕ) → ((count ++ fees) ++ rows) ++ spent ≡ count ++ (fees ++ (rows ++ spent))
split count fees rows spent = simp append_assoc

fee-bytes : (count fees rows spent : List ℕ) (i : ℕ) → length count ≡ 4
    → slice_range (((count ++ fees) ++ rows) ++ spent) (8 * (i + 1) - 4) (8 * (i + 1) + 4) ≡ take 8 (drop (8 * i) (fees ++ (rows ++ spent)))
fee-bytes count fees rows spent i four =
    let bytes : List ℕ = ((count ++ fees) ++ rows) ++ spent in
    let size : 8 * (i + 1) + 4 - (8 * (i + 1) - 4) ≡ 8 = omega arith in
    let at : 8 * (i + 1) - 4 ≡ 4 + 8 * i = omega arith in
    let later : drop 4 bytes ≡ fees ++ (rows ++ spent) = ap (drop 4) (split count fees rows spent) ∙ drop_at count (fees ++ (rows ++ spent)) 4 four in
    ap (λ (n : ℕ). take n (drop (8 * (i + 1) - 4) bytes)) size ∙ ap (λ (n : ℕ). take 8 (drop n bytes)) at
    ∙ ap (take 8) (sym (drop-drop (8 * i) 4 bytes)) ∙ ap (λ (l : List ℕ). take 8 (drop (8 * i) l)) later

fee-there : (ext : Ext) (i : ℕ) → All (λ paid. paid < 2 ^ 64) ext.fees → i < length ext.fees → fee_of (ext_bytes ext) (i + 1) ≡ slice_index ext.fees i
unfolding ext_bytes fee_of
fee-there ext i fit within =
    let fees : List ℕ = concat (map (to_le_bytes w64) ext.fees) in
    let rows : List ℕ = to_le_bytes w32 (length ext.spent) in
    let spent : List ℕ = concat (map row_bytes ext.spent) in
    ap (from_le_bytes w64) (fee-bytes (to_le_bytes w32 (length ext.fees)) fees rows spent i refl ∙ fee-piece ext.fees (rows ++ spent) i within)
    ∙ from_le_bytes-to_le_bytes_8 (slice_index ext.fees i) (fit i 0 within)

pub holds-fees : (ext : Ext) → All (λ paid. paid < 2 ^ 64) ext.fees → HoldsFees (ext_bytes ext) ext.fees
holds-fees ext fit = record { count = counts-fees ext; each = λ i within. fee-there ext i fit within }

-- ---- Along a chain

pub exts-hold-fees : ExtsHoldFees
unfolding ext_of
exts-hold-fees chain exts place parent b ext joined have above there beside found =
    subst (λ (on : ℕ). HoldsFees ext (fees_from chain.spec (branch chain.blocks on) b 1 (drop 1 b.transactions))) same
    (subst (λ (on : List Block). HoldsFees ext (fees_from chain.spec on b 1 (drop 1 b.transactions))) its.on
    (subst (λ (bytes : List ℕ). HoldsFees bytes own.fees) ext_is (holds-fees own fit)))
  where
    before : List Block
    before = take place chain.blocks

    its : Grows chain place b
    its = grows chain place b joined above there

    same : its.may.parent ≡ parent
    same = same_Some its.may.parent parent
        (sym its.may.on_kept ∙ ap (option_and_then (λ (x : Block). place_of before x.header.parent_hash)) (sym there) ∙ found)

    own : Ext
    own = ext_of chain.spec before its.may.parent b

    ext_is : ext_bytes own ≡ ext
    ext_is = sym (ap (ext_on (first_of chain place) b) its.may.on_kept) ∙ same_Some (own_ext (first_of chain place) b) ext (sym (have.own place b above there) ∙ beside)

    fit : All (λ paid. paid < 2 ^ 64) own.fees
    fit = fees-fit chain.spec (branch before its.may.parent) b 1 chain.spec.max_cycles (drop 1 b.transactions)
        (transactions-unbroken chain.spec (branch before its.may.parent) b its.may.unbroken)
