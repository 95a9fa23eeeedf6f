-- Each generated block names an earlier one as its parent.
use Rattle.std.proofs.Common.{◌≡◌, ℕ, zero, suc, ◌+◌, ◌<◌, ◌≤◌, List, [], ◌∷◌, length, map, Some, refl, sym, ap, ◌∙◌, subst, arith}
use Rattle.std.specs.List.{range_with_len}
use Rattle.chain_defs.specs.Shape.{encoded, decoded}
use Rattle.chain_defs.specs.Schema.{Block, block}
use Rattle.chain_defs.specs.Kept.{header_hash, block_hash}
use Rattle.gen_defs.specs.Chain.{block_after, child, block_made, blocks_made}
use Rattle.gen_defs.specs.Laws.{ParentsAreEarlier}
use Rattle.chain_defs.specs.FitLaws.{HashesHave32}
use Rattle.report_defs.specs.Simulation.{HashesDiffer, generated_items}
use Rattle.report_defs.specs.SoakLaws.{NoneHasHash, NamesNoLater, GeneratedNameNoLater}
use Rattle.report_defs.proofs.HeaderLemmas.{same_hash, same_parent}

names_parent : (parent : Block) (i : ℕ) → (child parent i).header.parent_hash ≡ block_hash parent
unfolding block_after
names_parent parent i = refl

module _ (earlier_parents : ParentsAreEarlier) (hash_size : HashesHave32) (seed count : ℕ) (differ : HashesDiffer seed count) where
  abbrev items_from : ℕ → ℕ → List (List ℕ)
  items_from first n = map (encoded block) (map (block_made seed) (range_with_len first n))

  hash_has_32 : (b : Block) → length (block_hash b) ≡ 32
  unfolding header_hash
  hash_has_32 b = hash_size _

  -- none of the blocks from a place on has the hash of one before it
  none_from : (earlier first n : ℕ) → earlier < first → first + n ≤ count + 1 → NoneHasHash (block_hash (block_made seed earlier)) (items_from first n)
  none_from earlier first zero before within = tt
  none_from earlier first (suc n) before within = (
    λ b is same. differ earlier first before (omega (arith, within)) (sym same ∙ same_hash (block_made seed first) b is),
    none_from earlier (first + 1) n (omega (arith, before)) (omega (arith, within)),
  )

  -- the hash that a block after the genesis names as its parent's
  parent_named : (i : ℕ) (b : Block) → decoded block (encoded block (block_made seed (suc i))) ≡ Some b
      → (earlier : ℕ) × (earlier ≤ i) × (b.header.parent_hash ≡ block_hash (block_made seed earlier))
  parent_named i b is =
      let made = earlier_parents seed i in
      let names : (block_made seed (suc i)).header.parent_hash ≡ block_hash (block_made seed made.0) =
      ap (λ (b : Block). b.header.parent_hash) made.2 ∙ names_parent (block_made seed made.0) (suc i) in
      (made.0, made.1, same_parent (block_made seed (suc i)) b (ap length names ∙ hash_has_32 (block_made seed made.0)) is ∙ names)

  names_from : (i n : ℕ) → suc i + n ≤ count + 1 → NamesNoLater (items_from (suc i) n)
  names_from i zero within = tt
  names_from i (suc n) within = (
    λ b is.
        let parent = parent_named i b is in
        subst (λ (hash : List ℕ). NoneHasHash hash (items_from (suc i) (suc n))) (sym parent.2)
        (none_from parent.0 (suc i) (suc n) (omega (arith, parent.1)) within),
    let next : suc (suc i) ≡ suc i + 1 = omega arith in
        subst (λ (first : ℕ). NamesNoLater (items_from first n)) next (names_from (suc i) n (omega (arith, within))),
  )

  pub all_name : NamesNoLater (generated_items seed count)
  unfolding blocks_made
  all_name = names_from 0 count (omega arith)

pub generated-name-no-later : ParentsAreEarlier → HashesHave32 → GeneratedNameNoLater
generated-name-no-later earlier size seed count differ = all_name earlier size seed count differ
