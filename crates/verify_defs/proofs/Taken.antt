-- The records of blocks of a log, each with the block that it is taken as.
use Rattle.std.proofs.Common.{◌≡◌, ℕ, zero, suc, ◌+◌, true, List, [], ◌∷◌, ◌++◌, length, take, Option, Some, None, refl, sym, ap, ◌∙◌, subst, arith}
use Rattle.std.specs.Prelude.{is_none, slice_get}
use Rattle.std.specs.Option.{option_and_then}
use Rattle.std.proofs.lemmas.List.{length_push, take_at, append_assoc}
use Rattle.chain_defs.specs.Schema.{Block}
use Rattle.chain_defs.specs.Kept.{block_at, blocks_of_item}
use Rattle.chain_defs.proofs.KeptLaws.{slice_get-before, slice_get-push}
use Rattle.rule_defs.specs.Genesis.{broken_genesis_rule}
use Rattle.disk_defs.specs.Log.{Record, LogContent, of_blocks, content_of_records, blocks_over, block_of_record}
use Rattle.disk_defs.specs.LogLaws.{IsSaidBy}
use Rattle.disk_defs.proofs.Contents.{one_genesis, good_genesis, says_by_parts}
use Rattle.store_defs.proofs.JoinedLemmas.{over-front}

-- A record is taken over the first blocks, so many of them, and its block is the next.
pub record IsTaken (all : List Block) (at : ℕ) (r : Record) : Type 0 where
  pub block : Block
  pub there : block_at all at ≡ Some block
  pub taken : block_of_record (take at all) r ≡ Some block

over-taken : (kept : List Block) (records : List Record) (all : List Block) → blocks_over kept records ≡ Some all → (place : ℕ) (r : Record)
    → slice_get records place ≡ Some r → IsTaken all (length kept + place) r
over-taken kept [] all over place r there = absurd (cc)
over-taken kept (first ∷ records) all over place r there =
    by_found (λ x. over-taken (kept ++ x ∷ []) records all) (block_of_record kept first) refl over place there
  where
    by_found : ((x : Block) → blocks_over (kept ++ x ∷ []) records ≡ Some all → (place : ℕ) (r : Record) → slice_get records place ≡ Some r
        → IsTaken all (length (kept ++ x ∷ []) + place) r)
        → (o : Option Block) → block_of_record kept first ≡ o → option_and_then (λ x. blocks_over (kept ++ x ∷ []) records) o ≡ Some all
        → (place : ℕ) → slice_get (first ∷ records) place ≡ Some r → IsTaken all (length kept + place) r
    by_found again None is over place there = absurd (cc)
    by_found again (Some x) is over zero there =
        let front = over-front (kept ++ x ∷ []) records all over in
        let same : first ≡ r = (cc) in
        let at : length kept ≡ length kept + 0 = omega arith in
        let before : take (length kept) all ≡ kept =
        ap (take (length kept)) (front.1 ∙ append_assoc kept (x ∷ []) front.0) ∙ take_at kept (x ∷ front.0) (length kept) refl in
        let here : block_at all (length kept) ≡ Some x =
        ap (λ (blocks : List Block). slice_get blocks (length kept)) front.1
        ∙ slice_get-before (kept ++ x ∷ []) front.0 (length kept) (omega (arith, length_push kept x)) ∙ slice_get-push kept x in
        subst (λ (n : ℕ). IsTaken all n r) at (record {
          block = x;
          there = here;
          taken = ap (λ (blocks : List Block). block_of_record blocks r) before ∙ ap (block_of_record kept) (sym same) ∙ is;
        })
    by_found again (Some x) is over (suc place) there =
        let at : length (kept ++ x ∷ []) + place ≡ length kept + suc place = omega (arith, length_push kept x) in
        subst (λ (n : ℕ). IsTaken all n r) at (again x over place r there)

pub content_taken : (records : List Record) (log : LogContent) → content_of_records records ≡ Some log → (place : ℕ) (r : Record)
    → slice_get (of_blocks log.records) place ≡ Some r → IsTaken log.blocks (place + 1) r
content_taken records log says place r there =
    let is : IsSaidBy records log = (says_by_parts records log).0 says in
    let good : is_none (broken_genesis_rule log.genesis) ≡ true =
    ap (λ (item : List ℕ). is_none (broken_genesis_rule item)) (sym is.genesis) ∙ good_genesis is.one is.two is.first in
    let at : length (blocks_of_item log.genesis) + place ≡ place + 1 = omega (arith, one_genesis log.genesis good) in
    subst (λ (n : ℕ). IsTaken log.blocks n r) at (over-taken (blocks_of_item log.genesis) (of_blocks log.records) log.blocks is.over place r there)
