-- What the moves of the live cells suppose: canonical blocks, each of which can be taken back.
use Rattle.std.proofs.Common.{◌≡◌, ℕ, zero, suc, ◌<◌, ◌≤◌, List, [], ◌∷◌, ◌++◌, length, take, Some, refl, sym, ap, ◌∙◌, subst, inl, inr, ◌⊎◌, arith}
use Rattle.std.specs.Prelude.{slice_get}
use Rattle.std.proofs.lemmas.List.{length_push}
use Rattle.std.proofs.lemmas.Option.{slice_get_within}
use Rattle.chain_defs.specs.Shape.{decoded}
use Rattle.chain_defs.specs.Schema.{Block, block}
use Rattle.chain_defs.proofs.ShapeLaws.{IsEncoding-decoded}
use Rattle.chain_defs.specs.Kept.{block_at}
use Rattle.chain_defs.proofs.KeptLaws.{slice_get-pushed, slice_get-before}
use Rattle.chain_defs.specs.Specification.{Specification}
use Rattle.chain_defs.specs.FitLaws.{IsCanonical, AreCanonical}
use Rattle.chain_tree.specs.declared.entry.Entry.{Entry}
use Rattle.chain_tree.specs.Told.{Stored}
use Rattle.uncle_rules.specs.Embedded.{UnclesValue}
use Rattle.verdict_defs.specs.Chain.{Chain}
use Rattle.verdict_defs.specs.Laws.{MayJoin}
use Rattle.store_defs.specs.Store.{own_ext, IsJoined, HaveOwnExts, AreJoined}
use Rattle.cell_state.specs.Moves.{CanGoDown}
use Rattle.node_store.proofs.WayLaws.{joined-can-be-taken-back}
use Rattle.node_store.specs.Kept.{KeptValue, kept_of, AreKept}

-- ---- Canonical blocks

pub canonical-read : (item : List ℕ) (b : Block) → decoded block item ≡ Some b → IsCanonical b
canonical-read item b is = (IsEncoding-decoded block item b is).fits

pub canonical-push : (kept : List Block) (b : Block) (item : List ℕ) → AreCanonical kept → decoded block item ≡ Some b → AreCanonical (kept ++ b ∷ [])
canonical-push kept b item canonical is place other there = by_place (slice_get-pushed kept b place other there)
  where
    by_place : ((place < length kept) × (slice_get kept place ≡ Some other)) ⊎ ((place ≡ length kept) × (b ≡ other)) → IsCanonical other
    by_place (inl before) = canonical place other before.1
    by_place (inr last) = subst IsCanonical last.1 (canonical-read item b is)

-- ---- The way

pub way-back : (spec : Specification) (stored : List Stored) (entries : List Entry) (index : UnclesValue) (kept : KeptValue) → kept_of spec stored entries ≡ kept
    → AreKept stored entries index → (from to : ℕ) → AreJoined kept.chain kept.exts → CanGoDown stored from to
way-back spec stored entries index kept whole are from to joined place parent it on off =
    joined-can-be-taken-back (kept_of spec stored entries).chain stored refl (subst (λ (k : KeptValue). AreJoined k.chain k.exts) (sym whole) joined) are.canonical
    place parent it

-- ---- What had joined before a block

take-before : (place : ℕ) (xs ys : List Block) → place ≤ length xs → take place (xs ++ ys) ≡ take place xs
take-before zero xs ys within = refl
take-before (suc place) [] ys within = absurd (omega (arith, within))
take-before (suc place) (x ∷ xs) ys within = ap (λ (later : List Block). x ∷ later) (take-before place xs ys (omega (arith, within)))

module _ (chain : Chain) (b : Block) (some : 0 < length chain.blocks) where
  abbrev with_more : Chain
  with_more = record { spec = chain.spec; blocks = chain.blocks ++ b ∷ [] }

  first_before : (genesis : Block) → block_at (chain.blocks ++ b ∷ []) 0 ≡ Some genesis → block_at chain.blocks 0 ≡ Some genesis
  first_before genesis there = sym (slice_get-before chain.blocks (b ∷ []) 0 some) ∙ there

  there_before : (place : ℕ) (it : Block) → block_at chain.blocks place ≡ Some it → block_at (chain.blocks ++ b ∷ []) place ≡ Some it
  there_before place it there = slice_get-before chain.blocks (b ∷ []) place (slice_get_within chain.blocks place it there) ∙ there

  take_before : (place : ℕ) (it : Block) → block_at chain.blocks place ≡ Some it → take place (chain.blocks ++ b ∷ []) ≡ take place chain.blocks
  take_before place it there =
      take-before place chain.blocks (b ∷ []) (omega (arith, slice_get_within chain.blocks place it there))

  joined_before : IsJoined with_more → IsJoined chain
  joined_before joined = record {
    genesis = joined.genesis;
    first = first_before joined.genesis joined.first;
    good = joined.good;
    each = λ place it above there. subst (λ (blocks : List Block). MayJoin chain.spec blocks it) (take_before place it there)
        (joined.each place it above (there_before place it there));
  }

  own_before : (exts : List (List ℕ)) (ext : List ℕ) → HaveOwnExts with_more (exts ++ ext ∷ []) → HaveOwnExts chain exts
  own_before exts ext own = record {
    as_many = as_many;
    own = λ place it above there.
        sym (slice_get-before exts (ext ∷ []) place (omega (arith, as_many, slice_get_within chain.blocks place it there)))
        ∙ own.own place it above (there_before place it there)
        ∙ ap (λ (blocks : List Block). Some (own_ext (record { spec = chain.spec; blocks = blocks }) it)) (take_before place it there);
  }
    where
      as_many : length exts ≡ length chain.blocks
      as_many = omega (arith, own.as_many, length_push exts ext, length_push chain.blocks b)
