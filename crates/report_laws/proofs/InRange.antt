-- The numbers of a chain that a store keeps are as bytes hold them.
use Rattle.std.proofs.Common.{◌≡◌, ℕ, zero, suc, ◌^◌, ◌<◌, Bool, true, false, cond, leb, List, [], ◌∷◌, ◌++◌, length, drop, Option, Some, None, refl, subst, arith}
use Rattle.std.specs.Prelude.{IsTrue, slice_get, ◌==◌, ◌&&◌}
use Rattle.std.specs.Option.{option_and_then}
use Rattle.std.specs.List.{All}
use Rattle.std.proofs.lemmas.Bool.{and_parts, ltb-true, leb-true}
use Rattle.std.proofs.lemmas.Option.{same_Some}
use Rattle.std.proofs.lemmas.List.Elements.{All-nil, All-cons, All-head, All-tail, All-push}
use Rattle.chain_defs.specs.Shape.{decoded}
use Rattle.chain_defs.specs.Schema.{Header, header, Block, block}
use Rattle.chain_defs.proofs.ShapeLaws.{IsEncoding-decoded}
use Rattle.chain_defs.specs.First.{AllHold}
use Rattle.chain_defs.proofs.FirstLemmas.{finds_none}
use Rattle.chain_defs.specs.Specification.{specification_of, broken_specification_rule, keeps_s1, keeps_s2, keeps_s3, keeps_s4, keeps_s5, keeps_s6, keeps_s7}
use Rattle.chain_defs.specs.Kept.{block_list, blocks_of_item}
use Rattle.disk_defs.specs.Log.{Record, LogContent, of_blocks, parts_of_body, may_stand_on, block_if, block_of_parts, block_of_record, blocks_over, content_of_records, records_of}
use Rattle.chain_defs.specs.Ext.{is_ext}
use Rattle.disk_defs.proofs.Contents.{says_by_parts, begins_well}
use Rattle.verdict_defs.specs.Chain.{Chain}
use Rattle.store_defs.proofs.JoinedLemmas.{content_of_log}
use Rattle.report_laws.specs.CanonicalLaws.{KeptIsInRange}

-- ---- The blocks of a log are canonical

abbrev HasEncoding : Block → Type 0
HasEncoding b = IsTrue (block.encoding b).fits

of-decoded : (item : List ℕ) (b : Block) → decoded block item ≡ Some b → HasEncoding b
of-decoded item b is = (IsEncoding-decoded block item b is).fits

of-test : (holds : Bool) (found : Option Block) (b : Block) → block_if holds found ≡ Some b → found ≡ Some b
of-test true found b is = is
of-test false found b is = absurd (cc)

of-parts : (kept : List Block) (parts : Option (List ℕ × List ℕ)) (b : Block) → block_of_parts kept parts ≡ Some b → HasEncoding b
of-parts kept None b is = absurd (cc)
of-parts kept (Some parts) b is = by_decoded (decoded block parts.0) refl is
  where
    by_decoded : (found : Option Block) → decoded block parts.0 ≡ found
        → option_and_then (λ x. block_if (is_ext parts.1 && may_stand_on kept x) (Some x)) found ≡ Some b → HasEncoding b
    by_decoded None there is = absurd (cc)
    by_decoded (Some x) there is =
        subst HasEncoding (same_Some x b (of-test (is_ext parts.1 && may_stand_on kept x) (Some x) b is)) (of-decoded parts.0 x there)

of-record : (kept : List Block) (r : Record) (b : Block) → block_of_record kept r ≡ Some b → HasEncoding b
of-record kept r b is = of-parts kept (parts_of_body r.body) b (of-test (r.kind == 3) (block_of_parts kept (parts_of_body r.body)) b is)

all-over : (kept : List Block) (records : List Record) (all : List Block) → blocks_over kept records ≡ Some all → All HasEncoding kept → All HasEncoding all
all-over kept [] all over each = subst (All HasEncoding) (same_Some kept all over) each
all-over kept (r ∷ records) all over each = by_found (λ x. all-over (kept ++ x ∷ []) records all) (block_of_record kept r) refl over
  where
    by_found : ((x : Block) → blocks_over (kept ++ x ∷ []) records ≡ Some all → All HasEncoding (kept ++ x ∷ []) → All HasEncoding all)
        → (found : Option Block) → block_of_record kept r ≡ found → option_and_then (λ x. blocks_over (kept ++ x ∷ []) records) found ≡ Some all → All HasEncoding all
    by_found again None is over = absurd (cc)
    by_found again (Some x) is over = again x over (All-push HasEncoding kept x each (of-record kept r x is))

of-item : (item : List ℕ) → All HasEncoding (blocks_of_item item)
of-item item = by_decoded (decoded block item) refl
  where
    by_decoded : (found : Option Block) → decoded block item ≡ found → All HasEncoding (block_list found)
    by_decoded None is = All-nil HasEncoding
    by_decoded (Some b) is = All-cons HasEncoding b [] (of-decoded item b is) (All-nil HasEncoding)

all-of-log : (records : List Record) (log : LogContent) → content_of_records records ≡ Some log → All HasEncoding log.blocks
all-of-log records log says =
    all-over (blocks_of_item log.genesis) (of_blocks log.records) log.blocks ((says_by_parts records log).0 says).over (of-item log.genesis)

at-place : (P : Block → Type 0) (blocks : List Block) (place : ℕ) (b : Block) → All P blocks → slice_get blocks place ≡ Some b → P b
at-place P [] place b all there = absurd (cc)
at-place P (first ∷ later) zero b all there = subst P (same_Some first b there) (All-head P first later all)
at-place P (first ∷ later) (suc place) b all there = at-place P later place b (All-tail P first later all) there

-- ---- Their timestamps

header-in : (b : Block) → HasEncoding b → IsTrue (header.encoding b.header).fits
unfolding block
header-in b fits = (and_parts _ _ (and_parts _ _ fits).1).0

timestamp-in : (h : Header) → IsTrue (header.encoding h).fits → h.timestamp < 2 ^ 64
unfolding header
timestamp-in h fits = ltb-true h.timestamp (2 ^ 64) (and_parts _ _ (and_parts _ _ (and_parts _ _ fits).1).1).0

-- ---- The specification

record Ruled (bytes : List ℕ) : Type 0 where
  second : IsTrue (keeps_s2 (specification_of bytes).epoch_length)
  fourth : IsTrue (keeps_s4 (specification_of bytes).max_block_bytes)

ruled : (bytes : List ℕ) → broken_specification_rule bytes ≡ None → Ruled bytes
ruled bytes unbroken =
    let spec = specification_of bytes in
    let row7 : List (ℕ × Bool) = (7, keeps_s7 spec.halving_interval) ∷ [] in
    let row6 : List (ℕ × Bool) = (6, keeps_s6 spec.maturity) ∷ row7 in
    let row5 : List (ℕ × Bool) = (5, keeps_s5 spec.max_cycles) ∷ row6 in
    let row4 : List (ℕ × Bool) = (4, keeps_s4 spec.max_block_bytes) ∷ row5 in
    let row3 : List (ℕ × Bool) = (3, keeps_s3 spec.w_close spec.w_far) ∷ row4 in
    let row2 : List (ℕ × Bool) = (2, keeps_s2 spec.epoch_length) ∷ row3 in
    let all : AllHold ((1, keeps_s1 bytes) ∷ row2) = (finds_none ((1, keeps_s1 bytes) ∷ row2)).0 unbroken in
    let after1 = All-tail (λ rule. IsTrue rule.1) (1, keeps_s1 bytes) row2 all in
    let after2 = All-tail (λ rule. IsTrue rule.1) (2, keeps_s2 spec.epoch_length) row3 after1 in
    let after3 = All-tail (λ rule. IsTrue rule.1) (3, keeps_s3 spec.w_close spec.w_far) row4 after2 in
    record {
      second = All-head (λ rule. IsTrue rule.1) (2, keeps_s2 spec.epoch_length) row3 after1;
      fourth = All-head (λ rule. IsTrue rule.1) (4, keeps_s4 spec.max_block_bytes) row5 after3;
    }

few-bytes : (most : ℕ) → IsTrue (keeps_s4 most) → most < 2 ^ 32
few-bytes most keeps = let few = leb-true most (2 ^ 20) (and_parts _ _ keeps).1 in omega (arith, few)

-- ---- Both

pub in-range : KeptIsInRange
in-range chain image stands target =
    let says = content_of_log image.log stands.log stands.is_log in
    let rules = ruled stands.log.specification (begins_well (records_of (drop 8 image.log)) stands.log says).specification in
    let all = all-of-log (records_of (drop 8 image.log)) stands.log says in
    let size : IsTrue (keeps_s2 chain.spec.epoch_length) = subst (λ (c : Chain). IsTrue (keeps_s2 c.spec.epoch_length)) stands.keeps rules.second in
    let most : chain.spec.max_block_bytes < 2 ^ 32 =
    subst (λ (c : Chain). c.spec.max_block_bytes < 2 ^ 32) stands.keeps (few-bytes (specification_of stands.log.specification).max_block_bytes rules.fourth) in
    let kept : All HasEncoding chain.blocks = subst (λ (c : Chain). All HasEncoding c.blocks) stands.keeps all in
    record {
      compact_target = target;
      epoch_length = size;
      max_block_bytes = most;
      timestamps = λ place b there. timestamp-in b.header (header-in b (at-place HasEncoding chain.blocks place b kept there));
    }
