-- Why the block of a record has not joined.
use Rattle.std.proofs.Common.{◌≡◌, ℕ, zero, suc, ◌+◌, Bool, true, false, cond, List, [], ◌∷◌, ◌++◌, length, take, drop, Option, Some, None, refl, sym, ap, ◌∙◌, arith}
use Rattle.std.specs.Prelude.{slice_get}
use Rattle.std.specs.Option.{option_map}
use Rattle.std.proofs.lemmas.List.{length_push}
use Rattle.chain_defs.specs.Shape.{decoded}
use Rattle.chain_defs.specs.Schema.{Block, block}
use Rattle.chain_defs.specs.Kept.{block_at, block_list}
use Rattle.verdict_defs.specs.Verdict.{joins, kept_after}
use Rattle.verdict_defs.specs.Chain.{Chain, verdict_over}
use Rattle.verdict_defs.specs.Laws.{CanJoin}
use Rattle.verdict_defs.proofs.VerdictLaws.{joins-exactly, kept_after-joins}
use Rattle.chain_defs.specs.Ext.{count_at}
use Rattle.disk_defs.specs.Log.{Record, LogContent, records_of, of_blocks, content_of_records, parts_of_body}
use Rattle.store_defs.specs.Store.{ext_over, HasJoined, chain_before}
use Rattle.store_defs.proofs.ExtLemmas.{HoldsBlock, holds_of_taken}
use Rattle.store_defs.proofs.JoinedLemmas.{joined_item}
use Rattle.verify_defs.specs.declared.fault.Cause.TheVariants.{StaysOut, OtherExt}
use Rattle.verify_defs.specs.Fault.{first_difference, part_at, other_part, cause_beside, cause_of_parts, cause_of_record}
use Rattle.verify_defs.proofs.Taken.{IsTaken, content_taken}
use Rattle.verify_defs.proofs.Differences.{none_of_same, same_of_none}

-- ---- An item with what stands beside it

none-mapped : {T U : Type 0} (f : T → U) (o : Option T) → option_map f o ≡ None → o ≡ None
none-mapped f None is = refl
none-mapped f (Some it) is = absurd (cc)

-- one that joins with its own ext
pub none_beside : (before : Chain) (item ext : List ℕ) → joins (verdict_over before item) ≡ true → ext ≡ ext_over before item → cause_beside before item ext ≡ None
none_beside before item ext joined own =
    ap (λ (t : Bool). cond t (option_map (OtherExt (length before.blocks)) (other_part (ext_over before item) ext)) (Some (StaysOut (length before.blocks) (verdict_over before item)))) joined
    ∙ ap (λ (bytes : List ℕ). option_map (OtherExt (length before.blocks)) (other_part (ext_over before item) bytes)) own
    ∙ ap (λ (o : Option ℕ). option_map (OtherExt (length before.blocks)) (option_map (part_at (count_at (ext_over before item) 0)) o)) (none_of_same (ext_over before item))

-- and only such a one
pub record JoinsWith (before : Chain) (item ext : List ℕ) : Type 0 where
  pub joined : joins (verdict_over before item) ≡ true
  pub own : ext ≡ ext_over before item

pub joins_of_none : (before : Chain) (item ext : List ℕ) → cause_beside before item ext ≡ None → JoinsWith before item ext
joins_of_none before item ext none = by_joins (joins (verdict_over before item)) refl none
  where
    own : List ℕ
    own = ext_over before item

    by_joins : (t : Bool) → joins (verdict_over before item) ≡ t
        → cond t (option_map (OtherExt (length before.blocks)) (other_part own ext)) (Some (StaysOut (length before.blocks) (verdict_over before item))) ≡ None
        → JoinsWith before item ext
    by_joins false is none = absurd (cc)
    by_joins true is none =
        let part : other_part own ext ≡ None = none-mapped (OtherExt (length before.blocks)) (other_part own ext) none in
        let difference : first_difference own ext ≡ None = none-mapped (part_at (count_at own 0)) (first_difference own ext) part in
        record { joined = is; own = sym (same_of_none own ext difference) }

-- ---- The record of a block

-- none is found of one that has joined
pub none_of_joined : (before after : Chain) (r : Record) → HasJoined before r after → cause_of_record before r ≡ None
none_of_joined before after r has =
    let grown : length (kept_after before.spec before.blocks has.item) ≡ length before.blocks + 1 = ap (λ (c : Chain). length c.blocks) (sym has.kept) ∙ has.grown in
    let can : CanJoin before.spec before.blocks has.item = (joined_item before.spec before.blocks has.item grown).0 in
    ap (cause_of_parts before) has.parts
    ∙ none_beside before has.item (ext_over before has.item) ((joins-exactly before.spec before.blocks has.item).1 can) refl

-- the parts of a record of which none is found
pub record HasParts (before : Chain) (r : Record) : Type 0 where
  pub item : List ℕ
  pub ext : List ℕ
  pub parts : parts_of_body r.body ≡ Some (item, ext)
  pub joins_with : JoinsWith before item ext

pub parts_of_none : (before : Chain) (r : Record) → cause_of_record before r ≡ None → HasParts before r
parts_of_none before r none = by_parts (parts_of_body r.body) refl none
  where
    by_parts : (o : Option (List ℕ × List ℕ)) → parts_of_body r.body ≡ o → cause_of_parts before o ≡ None → HasParts before r
    by_parts None is none = absurd (cc)
    by_parts (Some (item, ext)) is none = record { item = item; ext = ext; parts = is; joins_with = joins_of_none before item ext none }

-- the first of several blocks and the next one
next_block : (all : List Block) (at : ℕ) (b : Block) → block_at all at ≡ Some b → take (suc at) all ≡ take at all ++ b ∷ []
next_block [] at b there = absurd (cc)
next_block (x ∷ all) zero b there = let same : x ≡ b = (cc) in ap (λ (y : Block). y ∷ []) same
next_block (x ∷ all) (suc at) b there = ap (λ (l : List Block). x ∷ l) (next_block all at b there)

one_part : (item other ext more : List ℕ) → ◌≡◌ {A = Option (List ℕ × List ℕ)} (Some (item, ext)) (Some (other, more)) → item ≡ other
one_part item other ext more is = ap first is
  where
    first : Option (List ℕ × List ℕ) → List ℕ
    first None = []
    first (Some parts) = parts.0

-- it has joined where none is found, as a record of a log
pub joined_of_none : (bytes : List ℕ) (log : LogContent) → content_of_records (records_of (drop 8 bytes)) ≡ Some log → (place : ℕ) (r : Record)
    → slice_get (of_blocks log.records) place ≡ Some r → cause_of_record (chain_before log (place + 1)) r ≡ None
    → HasJoined (chain_before log (place + 1)) r (chain_before log (place + 2))
joined_of_none bytes log says place r there none =
    let before : Chain = chain_before log (place + 1) in
    let took : IsTaken log.blocks (place + 1) r = content_taken (records_of (drop 8 bytes)) log says place r there in
    let holds : HoldsBlock r took.block = holds_of_taken (take (place + 1) log.blocks) r took.block took.taken in
    let found : HasParts before r = parts_of_none before r none in
    let same : found.item ≡ holds.item = one_part found.item holds.item found.ext holds.ext (sym found.parts ∙ holds.parts) in
    let canonical : decoded block found.item ≡ Some took.block = ap (decoded block) same ∙ holds.canonical in
    let after : kept_after before.spec before.blocks found.item ≡ before.blocks ++ took.block ∷ [] =
    kept_after-joins before.spec before.blocks found.item found.joins_with.joined ∙ ap (λ (o : Option Block). before.blocks ++ block_list o) canonical in
    let two : place + 2 ≡ suc (place + 1) = omega arith in
    let next : take (place + 2) log.blocks ≡ before.blocks ++ took.block ∷ [] =
    ap (λ (n : ℕ). take n log.blocks) two ∙ next_block log.blocks (place + 1) took.block took.there in
    record {
      item = found.item;
      parts = found.parts ∙ ap (λ (e : List ℕ). Some (found.item, e)) found.joins_with.own;
      kept = λ i. record { spec = before.spec; blocks = (next ∙ sym after) i };
      grown = ap length next ∙ length_push before.blocks took.block;
    }
