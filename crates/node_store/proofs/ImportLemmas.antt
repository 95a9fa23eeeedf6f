-- An item that joins: it can, its record is its own, and what is kept with it.
use Rattle.std.proofs.Common.{◌≡◌, ℕ, ◌+◌, ◌-◌, ◌<◌, ◌≤◌, ◌^◌, List, [], ◌∷◌, ◌++◌, length, Option, Some, sym, ap, ◌∙◌, subst, arith}
use Rattle.std.specs.Prelude.{Bool, true, false, IsTrue, IfSome}
use Rattle.std.proofs.lemmas.List.{length_push}
use Rattle.chain_defs.specs.Shape.{decoded}
use Rattle.chain_defs.specs.Schema.{Block, block}
use Rattle.chain_defs.specs.Kept.{block_hash, kept_limit}
use Rattle.chain_defs.specs.Ext.{ext_bytes, is_ext, count_at}
use Rattle.cell_state.specs.ListBlocks.{IsExtFor}
use Rattle.verdict_defs.specs.Ext.{ext_of}
use Rattle.verdict_defs.specs.Verdict.{joins}
use Rattle.verdict_defs.specs.Chain.{Chain, chain_after, verdict_over}
use Rattle.verdict_defs.specs.Laws.{CanJoin}
use Rattle.verdict_defs.specs.declared.verdict.Verdict.TheVariants.{Joined}
use Rattle.verdict_defs.proofs.VerdictLaws.{verdict-joined, keeps-what-joins, kept_after-stays}
use Rattle.store_defs.specs.JoinLaws.{record_over}
use Rattle.store_defs.specs.Store.{ext_on, own_ext, ext_of_found, ext_over, HaveOwnExts}
use Rattle.store_defs.proofs.ExtLemmas.{own_push}
use Rattle.log_file.specs.Pieces.{block_record}
use Rattle.chain_tree.specs.declared.entry.Entry.{Entry}
use Rattle.node_store.specs.declared.decision.Joining.{Joining}
use Rattle.node_store.specs.declared.decision.Decision.{Decision}
use Rattle.node_store.specs.declared.decision.Decision.TheVariants.{Joins}
use Rattle.node_store.specs.Judging.{IsReadyItem, IsJudged, IsDecided, MayWantMemory}
use Rattle.node_store.specs.Kept.{KeptValue, kept_with}
use Rattle.node_store.specs.Node.{IsWithin}
use Rattle.log_file.specs.Grammar.{edition_room}

pub joined_stays_not : ◌≡◌ {A = Bool} true false → ⊥
joined_stays_not is = absurd (cc)

-- ---- What was decided

-- what is ready over this chain, where the decision was taken apart
pub ready_on : (inside chain : Chain) (item : List ℕ) (decision is : Decision) → inside ≡ chain → decision ≡ is
    → IsReadyItem inside item decision → IsReadyItem chain item is
ready_on inside chain item decision is same found ready =
    subst (λ (d : Decision). IsReadyItem chain item d) found (subst (λ (k : Chain). IsReadyItem k item decision) same ready)

-- it can join
pub can_join : (chain : Chain) (item : List ℕ) (joining : Joining) → IsDecided chain item (Joins joining) → CanJoin chain.spec chain.blocks item
can_join chain item joining (b, is, judged) = record { block = b; canonical = is; may = judged.may }

own_is : (chain : Chain) (b : Block) (joining : Joining) → IsJudged chain b joining → own_ext chain b ≡ ext_bytes joining.ext
own_is chain b joining judged =
    ap (ext_on chain b) judged.may.on_kept ∙ ap (λ (parent : ℕ). ext_bytes (ext_of chain.spec chain.blocks parent b)) judged.on
    ∙ ap ext_bytes (sym judged.ext)

ext_is : (chain : Chain) (item : List ℕ) (joining : Joining) → IsDecided chain item (Joins joining) → ext_over chain item ≡ ext_bytes joining.ext
unfolding ext_over
ext_is chain item joining (b, is, judged) = ap (ext_of_found chain) is ∙ own_is chain b joining judged

-- its ext is its own
pub record_is : (chain : Chain) (item : List ℕ) (joining : Joining) → IsDecided chain item (Joins joining)
    → block_record item (ext_bytes joining.ext) ≡ record_over chain item
record_is chain item joining decided = ap (block_record item) (sym (ext_is chain item joining decided))

pub form_is : (chain : Chain) (item bytes : List ℕ) (joining : Joining) → IsDecided chain item (Joins joining) → bytes ≡ ext_bytes joining.ext
    → IsTrue (is_ext bytes) → IsTrue (is_ext (ext_over chain item))
form_is chain item bytes joining decided same form =
    subst (λ (l : List ℕ). IsTrue (is_ext l)) (same ∙ sym (ext_is chain item joining decided)) form

-- its verdict
pub verdict_is : (chain : Chain) (item : List ℕ) (joining : Joining) → IsDecided chain item (Joins joining) → IsReadyItem chain item (Joins joining)
    → Joined joining.entry.number joining.entry.hash ≡ verdict_over chain item
unfolding can_join
verdict_is chain item joining (b, is, judged) (other, is_other, may) =
    let found : Some other ≡ Some b = sym is_other ∙ is in
    let same : other ≡ b = (cc) in
    ap (λ (number : ℕ). Joined number joining.entry.hash) (may.ready.entry.describes.number ∙ ap (λ (x : Block). x.header.number) same)
    ∙ ap (λ (hash : List ℕ). Joined b.header.number hash) (may.ready.entry.describes.hash ∙ ap block_hash same)
    ∙ sym (verdict-joined chain.spec chain.blocks item (can_join chain item joining (b, is, judged)))

-- memory may be wanted for it
pub wants-joining : (chain : Chain) (item : List ℕ) (joining : Joining) → IsReadyItem chain item (Joins joining) → MayWantMemory chain item
wants-joining chain item joining (b, is, may) = (b, is, may.wants)

-- what is kept after an item that stays out
pub stays_so : (chain : Chain) (item : List ℕ) → joins (verdict_over chain item) ≡ false → chain ≡ chain_after chain item
stays_so chain item left =
    ap (λ (blocks : List Block). record { spec = chain.spec; blocks = blocks }) (sym (kept_after-stays chain.spec chain.blocks item left))

-- ---- What is put beside it

-- bytes of the form of an ext with as many fees may stand beside it
pub is_ext_for : (chain : Chain) (item ext : List ℕ) (joining : Joining) → IsReadyItem chain item (Joins joining) → IsTrue (is_ext ext)
    → count_at ext 0 ≡ length joining.ext.fees → IsExtFor item ext
is_ext_for chain item ext joining (b, is, may) form count = record {
  form = form;
  fees = subst (λ (o : Option Block). IfSome o (λ x. count_at ext 0 ≡ length x.transactions - 1)) (sym is) (count ∙ may.ready.fees);
}

-- ---- What is kept with it

-- the place is within the limit of the log
pub place_limit : (count place : ℕ) (edition : Option ℕ) → count ≤ kept_limit → IsWithin count edition place → place ≤ 2 ^ 61
unfolding kept_limit
place_limit count place edition few within = omega (arith, few, within)

module _ (inside next : KeptValue) (chain : Chain) (item ext : List ℕ) (entry : Entry) (joining : Joining) (same : inside.chain ≡ chain)
    (kept : (b : Block) → decoded block item ≡ Some b → next ≡ kept_with inside b ext entry) where
  -- the chain after it
  pub is_after : IsDecided chain item (Joins joining) → next.chain ≡ chain_after chain item
  unfolding can_join
  is_after (b, is, judged) =
      ap (λ (k : KeptValue). k.chain) (kept b is) ∙ ap (λ (c : Chain). record { spec = c.spec; blocks = c.blocks ++ b ∷ [] }) same
      ∙ ap (λ (blocks : List Block). record { spec = chain.spec; blocks = blocks })
      (sym ((keeps-what-joins chain.spec chain.blocks item).0 (can_join chain item joining (b, is, judged))).1)

  -- where each block had its own ext, so it is with this one
  pub own_after : IsDecided chain item (Joins joining) → ext ≡ ext_bytes joining.ext → (exts : List (List ℕ)) → inside.exts ≡ exts → HaveOwnExts chain exts
      → HaveOwnExts next.chain next.exts
  own_after (b, is, judged) bytes exts beside have =
      let own : ext ≡ own_ext chain b = bytes ∙ sym (own_is chain b joining judged) in
      let whole : next ≡ kept_with (record { chain = chain; exts = exts; entries = inside.entries }) b (own_ext chain b) entry =
      kept b is ∙ (λ i. kept_with (record { chain = same i; exts = beside i; entries = inside.entries }) b (own i) entry) in
      subst (λ (k : KeptValue). HaveOwnExts k.chain k.exts) (sym whole) (own_push chain exts b have)

  module _ (ready : IsReadyItem chain item (Joins joining)) where
    one_more : length next.chain.blocks ≡ length chain.blocks + 1
    one_more =
        ap (λ (k : KeptValue). length k.chain.blocks) (kept ready.0 ready.1) ∙ length_push inside.chain.blocks ready.0
        ∙ ap (λ (c : Chain). length c.blocks + 1) same

    pub few_after : length next.chain.blocks ≤ kept_limit
    few_after = omega (arith, one_more, ready.2.ready.room)

    same_edition : next.chain.spec.second_from ≡ inside.chain.spec.second_from
    same_edition = ap (λ (k : KeptValue). k.chain.spec.second_from) (kept ready.0 ready.1)

    pub within_after : (place end size : ℕ) → IsWithin (length inside.chain.blocks) inside.chain.spec.second_from place → end ≡ place + size → size < 2 ^ 33
        → IsWithin (length next.chain.blocks) next.chain.spec.second_from end
    within_after place end size within sum short =
        omega (arith, one_more, ap (λ (c : Chain). length c.blocks) same, ap edition_room same_edition, within, sum, short)
