-- The blocks that a chain keeps are canonical, since each was read.
use Rattle.std.proofs.Common.{◌≡◌, ℕ, zero, suc, Bool, true, false, List, [], ◌∷◌, ◌++◌, length, take, drop, Option, Some, None, if◌then◌else◌, refl, subst}
use Rattle.std.specs.Prelude.{◌==◌, ◌&&◌, nat_le}
use Rattle.std.specs.Option.{option_map, option_and_then}
use Rattle.std.specs.Str.{bytes_eq}
use Rattle.std.proofs.lemmas.Option.{same_Some}
use Rattle.chain_defs.specs.Shape.{decoded}
use Rattle.chain_defs.specs.Schema.{Block, block}
use Rattle.chain_defs.proofs.ShapeLaws.{IsEncoding-decoded}
use Rattle.chain_defs.specs.Specification.{Specification}
use Rattle.chain_defs.specs.Kept.{block_list, blocks_of_item}
use Rattle.chain_defs.specs.Ext.{is_ext}
use Rattle.disk_defs.proofs.Contents.{says_by_parts}
use Rattle.disk_defs.specs.Log.{Record, LogContent, records_of, of_blocks, magic, log_of, content_of_records, blocks_over, block_of_record, block_of_parts, block_if, may_stand_on, parts_of_body}
use Rattle.verdict_defs.specs.Chain.{Chain}
use Rattle.verdict_defs.specs.Verdict.{verdict, joins, kept_after}
use Rattle.chain_defs.specs.FitLaws.{IsCanonical, AreCanonical}
use Rattle.node_store.specs.ReorgLaws.{KeptAreCanonical, StoredAreCanonical}

-- ---- Items

read-is : (item : List ℕ) (b : Block) → decoded block item ≡ Some b → IsCanonical b
read-is item b found = (IsEncoding-decoded block item b found).fits

one-is : (b : Block) → IsCanonical b → AreCanonical (b ∷ [])
one-is b canonical zero other there = subst IsCanonical (same_Some b other there) canonical
one-is b canonical (suc place) other there = absurd (cc)

item-is : (item : List ℕ) → AreCanonical (blocks_of_item item)
item-is item = by_found (decoded block item) refl
  where
    by_found : (found : Option Block) → decoded block item ≡ found → AreCanonical (block_list found)
    by_found None is place b there = absurd (cc)
    by_found (Some b) is place other there = one-is b (read-is item b is) place other there

both-are : (blocks more : List Block) → AreCanonical blocks → AreCanonical more → AreCanonical (blocks ++ more)
both-are [] more first second place b there = second place b there
both-are (x ∷ blocks) more first second zero b there = first 0 b there
both-are (x ∷ blocks) more first second (suc place) b there = both-are blocks more (λ i. first (suc i)) second place b there

after-is : (spec : Specification) (kept : List Block) (item : List ℕ) → AreCanonical kept → AreCanonical (kept_after spec kept item)
unfolding kept_after
after-is spec kept item canonical = by_verdict (joins (verdict spec kept item))
  where
    by_verdict : (joined : Bool) → AreCanonical (if joined then kept ++ blocks_of_item item else kept)
    by_verdict true = both-are kept (blocks_of_item item) canonical (item-is item)
    by_verdict false = canonical

pub kept-are-canonical : KeptAreCanonical
kept-are-canonical = (λ specification genesis. item-is genesis, λ chain item canonical. after-is chain.spec chain.blocks item canonical)

-- ---- A log

where-some : {X : Type 0} (t : Bool) (found : Option X) (x : X) → (if t then found else None) ≡ Some x → found ≡ Some x
where-some true found x is = is
where-some false found x is = absurd (cc)

record-is : (kept : List Block) (r : Record) (b : Block) → block_of_record kept r ≡ Some b → IsCanonical b
record-is kept r b is = by_parts (parts_of_body r.body) (where-some (r.kind == 3) (block_of_parts kept (parts_of_body r.body)) b is)
  where
    by_item : (item ext : List ℕ) (found : Option Block) → decoded block item ≡ found
        → option_and_then (λ x. block_if (is_ext ext && may_stand_on kept x) (Some x)) found ≡ Some b → IsCanonical b
    by_item item ext None at found = absurd (cc)
    by_item item ext (Some x) at found =
        subst IsCanonical (same_Some x b (where-some (is_ext ext && may_stand_on kept x) (Some x) b found)) (read-is item x at)

    by_parts : (parts : Option (List ℕ × List ℕ)) → block_of_parts kept parts ≡ Some b → IsCanonical b
    by_parts None found = absurd (cc)
    by_parts (Some parts) found = by_item parts.0 parts.1 (decoded block parts.0) refl found

over-are : (kept : List Block) (records : List Record) (all : List Block) → AreCanonical kept → blocks_over kept records ≡ Some all → AreCanonical all
over-are kept [] all canonical over = subst AreCanonical (same_Some kept all over) canonical
over-are kept (r ∷ records) all canonical over = by_found (λ x. over-are (kept ++ x ∷ []) records all) (block_of_record kept r) refl over
  where
    by_found : ((x : Block) → AreCanonical (kept ++ x ∷ []) → blocks_over (kept ++ x ∷ []) records ≡ Some all → AreCanonical all)
        → (found : Option Block) → block_of_record kept r ≡ found → option_and_then (λ x. blocks_over (kept ++ x ∷ []) records) found ≡ Some all
        → AreCanonical all
    by_found again None is over = absurd (cc)
    by_found again (Some x) is over = again x (both-are kept (x ∷ []) canonical (one-is x (record-is kept r x is))) over

content-is : (records : List Record) (log : LogContent) → content_of_records records ≡ Some log → AreCanonical log.blocks
content-is records log says =
    over-are (blocks_of_item log.genesis) (of_blocks log.records) log.blocks (item-is log.genesis) ((says_by_parts records log).0 says).over

log-is : (bytes : List ℕ) (log : LogContent) → log_of bytes ≡ Some log → AreCanonical log.blocks
unfolding log_of
log-is bytes log is =
    content-is (records_of (drop 8 bytes)) log (where-some (bytes_eq (take 8 bytes) magic) (content_of_records (records_of (drop 8 bytes))) log is)

pub stored-are-canonical : StoredAreCanonical
stored-are-canonical chain image stands = subst (λ (c : Chain). AreCanonical c.blocks) stands.keeps (log-is image.log stands.log stands.is_log)
