-- The walk over blocks, one step.
use Rattle.std.proofs.Common.{◌≡◌, ℕ, suc, ◌+◌, ◌<◌, Bool, true, false, List, [], ◌∷◌, ◌++◌, Some, length, inl, inr, refl, ap, sym, subst, ◌∙◌, arith, length-append}
use Rattle.std.specs.Prelude.{if◌then◌else◌, slice_get}
use Rattle.std.proofs.lemmas.Bool.{cases_eq}
use Rattle.chain_defs.specs.CkbHash.{ckbhash}
use Rattle.chain_defs.specs.Shape.{encoded}
use Rattle.chain_defs.specs.Schema as schema
use Rattle.chain_defs.specs.Kept.{header_hash}
use Rattle.chain_defs.proofs.KeptLaws.{slice_get-before, slice_get-push}
use Rattle.gen_defs.specs.Start.{genesis, genesis_field, genesis_hash, coin_capacity}
use Rattle.gen_defs.specs.Heights.{coin_after, field_after}
use Rattle.gen_defs.specs.Chain as chain
use Rattle.gen_defs.specs.Chain.{standing_after, parent_of, is_beside, grown, child, block_made}
use Rattle.gen_defs.proofs.Walks.{parent_holds, grown_is, made_is}
use Rattle.chain_gen.specs.declared.growth.HeaderFields.{HeaderFields}
use Rattle.chain_gen.specs.declared.growth.Head.{Head}
use Rattle.chain_gen.specs.declared.growth.Standing.{Standing}
use Rattle.chain_gen.specs.declared.heights.After.{After}
use Rattle.chain_gen.specs.Headers.{header_of}
use Rattle.chain_gen.specs.Content.{after_height, KeepsHeights}
use Rattle.chain_gen.specs.Walk.{IsHead, StandsAt, IsAt}

pub head_is : (b : schema.Block) (fields : HeaderFields) (hash row : List ℕ) → row ≡ encoded schema.header (header_of fields) → hash ≡ ckbhash row
    → b.header ≡ header_of fields → IsHead (record { hash = hash; number = fields.number; timestamp = fields.timestamp }) b
unfolding header_hash
head_is b fields hash row row_is hash_is b_is = record {
  hash_is = hash_is ∙ ap ckbhash row_is ∙ ap (λ (h : schema.Header). ckbhash (encoded schema.header h)) (sym b_is);
  number_is = ap (λ (h : schema.Header). h.number) (sym b_is);
  timestamp_is = ap (λ (h : schema.Header). h.timestamp) (sym b_is);
}

-- ---- What a branch comes to, by its heights

pub kept_more : (after : List After) (more : After) → KeepsHeights after → more ≡ after_height (length after) → KeepsHeights (after ++ more ∷ [])
kept_more after more keeps is = record {
  at = λ height within. elim (cases_eq height (length after)) [
    | inl same ↦ ap (λ (place : ℕ). slice_get (after ++ more ∷ []) place) same ∙ slice_get-push after more ∙ ap Some is ∙ ap (λ (place : ℕ). Some (after_height place)) (sym same)
    | inr other ↦
        let below : height < length after = omega (arith, other, within, length-append after (more ∷ [])) in
        slice_get-before after (more ∷ []) height below ∙ keeps.at height below
  ];
}

no_heights : KeepsHeights []
no_heights = record { at = λ height within. absurd (omega arith) }

pub first_height : after_height 0 ≡ record { coin = record { out_point = record { tx_hash = genesis_hash; index = 1 }; capacity = coin_capacity }; field = genesis_field }
unfolding coin_after field_after
first_height = refl

-- ---- A chain of its genesis

genesis_head : (hash row : List ℕ) → row ≡ encoded schema.header genesis.header → hash ≡ ckbhash row → IsHead (record { hash = hash; number = 0; timestamp = 1000 }) genesis
unfolding header_hash genesis
genesis_head hash row row_is hash_is = record { hash_is = hash_is ∙ ap ckbhash row_is; number_is = refl; timestamp_is = refl }

genesis_stands : (seed : ℕ) (head : Head) (first : After) → IsHead head genesis → KeepsHeights (first ∷ [])
    → IsAt (record { tip = head; before_tip = head; last = head; is_sibling = false }) (first ∷ []) seed 0
unfolding standing_after genesis
genesis_stands seed head first is keeps = record {
  stands = record { tip_is = is; before_tip_is = is; last_is = is; is_sibling_is = refl };
  heights_are = keeps;
  count_is = refl;
}

pub genesis_at : (seed : ℕ) (hash row : List ℕ) (first : After) → row ≡ encoded schema.header genesis.header → hash ≡ ckbhash row → first ≡ after_height 0
    → let head : Head = record { hash = hash; number = 0; timestamp = 1000 } in
    IsAt (record { tip = head; before_tip = head; last = head; is_sibling = false }) (first ∷ []) seed 0
genesis_at seed hash row first row_is hash_is first_is =
    genesis_stands seed (record { hash = hash; number = 0; timestamp = 1000 }) first (genesis_head hash row row_is hash_is) (kept_more [] first no_heights first_is)

-- ---- A block more

pub standing_is : (seed before i : ℕ) → i ≡ suc before → standing_after seed i ≡ grown seed i (standing_after seed before)
standing_is seed before i is =
    subst (λ (place : ℕ). standing_after seed place ≡ grown seed place (standing_after seed before)) (sym is) (grown_is seed before)

pub block_is : (seed before i : ℕ) → i ≡ suc before → block_made seed i ≡ child (parent_of seed i (standing_after seed before)) i
block_is seed before i is =
    subst (λ (place : ℕ). block_made seed place ≡ child (parent_of seed place (standing_after seed before)) place) (sym is) (made_is seed before)

heights_with : (seed before i : ℕ) (after : List After) (more : After) (beside : Bool) → beside ≡ is_beside seed i (standing_after seed before) → KeepsHeights after
    → length after ≡ (standing_after seed before).tip.header.number + 1 → more ≡ after_height ((parent_of seed i (standing_after seed before)).header.number + 1)
    → KeepsHeights (if beside then after else after ++ more ∷ [])
    × (length (if beside then after else after ++ more ∷ []) ≡ (grown seed i (standing_after seed before)).tip.header.number + 1)
heights_with seed before i after more true beside_is keeps count more_is =
    (keeps, omega (arith, count, (parent_holds seed before i).tip_stays (sym beside_is)))
heights_with seed before i after more false beside_is keeps count more_is =
    let parent = parent_holds seed before i in
    let tip = parent.at_tip (sym beside_is) in
    let place : (parent_of seed i (standing_after seed before)).header.number + 1 ≡ length after = omega (arith, count, tip) in (
      kept_more after more keeps (more_is ∙ ap after_height place),
      omega (arith, count, parent.tip_moves (sym beside_is), length-append after (more ∷ [])),
    )

pub grown_at : (seed before i : ℕ) (kept next : Standing) (after heights : List After) (more : After) (beside : Bool) → i ≡ suc before → IsAt kept after seed before
    → beside ≡ is_beside seed i (standing_after seed before) → heights ≡ (if beside then after else after ++ more ∷ [])
    → more ≡ after_height ((parent_of seed i (standing_after seed before)).header.number + 1)
    → StandsAt next (grown seed i (standing_after seed before)) → IsAt next heights seed i
grown_at seed before i kept next after heights more beside is at beside_is heights_are more_is stands =
    let all = heights_with seed before i after more beside beside_is at.heights_are at.count_is more_is in
    let same = standing_is seed before i is in
    record {
      stands = subst (λ (place : chain.Standing). StandsAt next place) (sym same) stands;
      heights_are = subst KeepsHeights (sym heights_are) all.0;
      count_is = ap length heights_are ∙ all.1 ∙ ap (λ (place : chain.Standing). place.tip.header.number + 1) (sym same);
    }
