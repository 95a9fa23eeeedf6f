-- What an image stands for has joined, and what has joined is kept.
use Rattle.std.proofs.Common.{◌≡◌, ℕ, zero, suc, ◌+◌, ◌<◌, Bool, true, false, cond, List, [], ◌∷◌, ◌++◌, length, take, drop, Option, Some, None, refl, sym, ap, ◌∙◌, subst, inl, inr, ◌⊎◌, arith}
use Rattle.std.specs.Prelude.{is_none, slice_get}
use Rattle.std.specs.Option.{option_and_then}
use Rattle.std.specs.Str.{bytes_eq}
use Rattle.std.proofs.lemmas.List.{length-take-le, take-append-le, take_at, append-nil, append_assoc}
use Rattle.std.proofs.lemmas.Option.{slice_get_within}
use Rattle.outside.specs.Image.{Image}
use Rattle.chain_defs.specs.Shape.{decoded}
use Rattle.chain_defs.specs.Schema.{Block, block}
use Rattle.chain_defs.specs.First.{first_failing}
use Rattle.chain_defs.specs.Kept.{block_hash, block_at, place_of, IsKept, block_list, blocks_of_item}
use Rattle.chain_defs.proofs.KeptLaws.{slice_get-below, slice_get-take, slice_get-before, slice_get-push, slice_get-pushed}
use Rattle.chain_defs.specs.Specification.{Specification}
use Rattle.verdict_defs.specs.Verdict.{verdict, joins, kept_after}
use Rattle.verdict_defs.specs.Chain.{Chain, chain_after}
use Rattle.verdict_defs.specs.Laws.{MayJoin, CanJoin}
use Rattle.verdict_defs.proofs.VerdictLaws.{joins-exactly, keeps-what-joins, kept_after-stays, stands-on-kept}
use Rattle.rule_defs.specs.Genesis.{genesis_rules, broken_by, broken_genesis_rule}
use Rattle.disk_defs.specs.Log.{Record, LogContent, records_of, of_blocks, magic, log_of, content_of_records, specification_in, blocks_over, block_of_record}
use Rattle.disk_defs.specs.LogLaws.{IsSaidBy}
use Rattle.store_defs.specs.Store.{StandsFor, HasJoined, EachHasJoined, IsJoined, chain_of, chain_before}
use Rattle.store_defs.specs.StoreLaws.{StandsForWhatJoined}
use Rattle.disk_defs.proofs.Contents.{counts_its_records, good_genesis, says_by_parts}

-- ---- What joined is kept

-- The blocks of a chain that joined are kept ones.
pub is_kept_of_joined : (chain : Chain) → IsJoined chain → IsKept chain.blocks
is_kept_of_joined chain joined = record {
  stands = λ place b above there. stands-on-kept chain.spec (take place chain.blocks) b (joined.each place b above there);
  new = new;
}
  where
    new : (place : ℕ) (b : Block) → block_at chain.blocks place ≡ Some b → place_of (take place chain.blocks) (block_hash b) ≡ None
    new zero b there = refl
    new (suc place) b there = (joined.each (suc place) b (omega arith) there).new

-- ---- One more block

-- A block that may join a chain that joined leaves one that joined.
pub joined_push : (chain : Chain) (b : Block) → IsJoined chain → MayJoin chain.spec chain.blocks b
    → IsJoined (record { spec = chain.spec; blocks = chain.blocks ++ b ∷ [] })
joined_push chain b joined may = record {
  genesis = joined.genesis;
  first = slice_get-before kept (b ∷ []) 0 (slice_get_within kept 0 joined.genesis joined.first) ∙ joined.first;
  good = joined.good;
  each = λ place other above there. each_at place other above (slice_get-pushed kept b place other there);
}
  where
    kept : List Block
    kept = chain.blocks

    each_at : (place : ℕ) (other : Block) → 0 < place → ((place < length kept) × (block_at kept place ≡ Some other)) ⊎ ((place ≡ length kept) × (b ≡ other))
        → MayJoin chain.spec (take place (kept ++ b ∷ [])) other
    each_at place other above (inl before) =
        subst (λ (earlier : List Block). MayJoin chain.spec earlier other) (sym (take-append-le place kept (b ∷ []) (omega (arith, before.0))))
        (joined.each place other above before.1)
    each_at place other above (inr last) =
        subst (λ (earlier : List Block). MayJoin chain.spec earlier other) (sym (take_at kept (b ∷ []) place (sym last.0)))
        (subst (MayJoin chain.spec kept) last.1 may)

-- A chain that joined has so after any item.
pub joined_after : (chain : Chain) (item : List ℕ) → IsJoined chain → IsJoined (chain_after chain item)
joined_after chain item joined = by_joins (joins (verdict chain.spec chain.blocks item)) refl
  where
    with_kept : List Block → Chain
    with_kept blocks = record { spec = chain.spec; blocks = blocks }

    by_joins : (b : Bool) → joins (verdict chain.spec chain.blocks item) ≡ b → IsJoined (chain_after chain item)
    by_joins false left = subst (λ (blocks : List Block). IsJoined (with_kept blocks)) (sym (kept_after-stays chain.spec chain.blocks item left)) joined
    by_joins true joins_now =
        let can : CanJoin chain.spec chain.blocks item = (joins-exactly chain.spec chain.blocks item).0 joins_now in
        let after : kept_after chain.spec chain.blocks item ≡ chain.blocks ++ can.block ∷ [] = ((keeps-what-joins chain.spec chain.blocks item).0 can).1 in
        subst (λ (blocks : List Block). IsJoined (with_kept blocks)) (sym after) (joined_push chain can.block joined can.may)

-- ---- The genesis of a log

-- what stands after blocks has them as its prefix
pub over-front : (kept : List Block) (records : List Record) (all : List Block) → blocks_over kept records ≡ Some all
    → (more : List Block) × (all ≡ kept ++ more)
over-front kept [] all over = ([], let same : kept ≡ all = (cc) in sym same ∙ sym (append-nil kept))
over-front kept (r ∷ records) all over = by_found (λ x. over-front (kept ++ x ∷ []) records all) (block_of_record kept r) over
  where
    by_found : ((x : Block) → blocks_over (kept ++ x ∷ []) records ≡ Some all → (more : List Block) × (all ≡ (kept ++ x ∷ []) ++ more))
        → (o : Option Block) → option_and_then (λ x. blocks_over (kept ++ x ∷ []) records) o ≡ Some all → (more : List Block) × (all ≡ kept ++ more)
    by_found again None over = absurd (cc)
    by_found again (Some x) over = let rest = again x over in (x ∷ rest.0, rest.1 ∙ append_assoc kept (x ∷ []) rest.0)

-- These blocks begin with one that keeps the rules on a genesis.
record BeginsGood (blocks : List Block) : Type 0 where
  genesis : Block
  first : block_at blocks 0 ≡ Some genesis
  good : first_failing (genesis_rules genesis) ≡ None

none_of : (o : Option ℕ) → is_none o ≡ true → o ≡ None
none_of None is = refl
none_of (Some n) is = absurd (cc)

item_begins : (item : List ℕ) (more : List Block) → is_none (broken_genesis_rule item) ≡ true → BeginsGood (blocks_of_item item ++ more)
unfolding broken_genesis_rule
item_begins item more good = by_block (decoded block item) good
  where
    by_block : (o : Option Block) → is_none (broken_by o) ≡ true → BeginsGood (block_list o ++ more)
    by_block None good = absurd (cc)
    by_block (Some b) good = record { genesis = b; first = refl; good = none_of (first_failing (genesis_rules b)) good }

content_begins : (records : List Record) (log : LogContent) → content_of_records records ≡ Some log → BeginsGood log.blocks
content_begins records log says =
    let is : IsSaidBy records log = (says_by_parts records log).0 says in
    let front = over-front (blocks_of_item log.genesis) (of_blocks log.records) log.blocks is.over in
    let good : is_none (broken_genesis_rule log.genesis) ≡ true =
    ap (λ (item : List ℕ). is_none (broken_genesis_rule item)) (sym is.genesis) ∙ good_genesis is.one is.two is.first in
    subst BeginsGood (sym front.1) (item_begins log.genesis front.0 good)

-- what a log says its records say
pub content_of_log : (bytes : List ℕ) (log : LogContent) → log_of bytes ≡ Some log → content_of_records (records_of (drop 8 bytes)) ≡ Some log
unfolding log_of
content_of_log bytes log says = by_test (bytes_eq (take 8 bytes) magic) says
  where
    by_test : (t : Bool) → cond t (content_of_records (records_of (drop 8 bytes))) None ≡ Some log → content_of_records (records_of (drop 8 bytes)) ≡ Some log
    by_test false says = absurd (cc)
    by_test true says = says

-- ---- The blocks after it

-- Where what is kept after an item is one more, the item could join, and the block at the end is its own.
pub joined_item : (spec : Specification) (kept : List Block) (item : List ℕ) → length (kept_after spec kept item) ≡ length kept + 1
    → (can : CanJoin spec kept item) × (kept_after spec kept item ≡ kept ++ can.block ∷ [])
joined_item spec kept item grown = by_joins (joins (verdict spec kept item)) refl
  where
    by_joins : (b : Bool) → joins (verdict spec kept item) ≡ b → (can : CanJoin spec kept item) × (kept_after spec kept item ≡ kept ++ can.block ∷ [])
    by_joins false left = absurd (omega (arith, grown, ap length (kept_after-stays spec kept item left)))
    by_joins true joins_now =
        let can : CanJoin spec kept item = (joins-exactly spec kept item).0 joins_now in
        (can, ((keeps-what-joins spec kept item).0 can).1)

-- The item of a record could join over the blocks before it, and the next block is its own.
pub item_of_record : (log : LogContent) (before : ℕ) (r : Record) (b : Block) (has : HasJoined (chain_before log (before + 1)) r (chain_before log (before + 2)))
    → block_at log.blocks (before + 1) ≡ Some b → (can : CanJoin (chain_of log).spec (take (before + 1) log.blocks) has.item) × (can.block ≡ b)
item_of_record log before r b has there =
    let within : before + 1 < length log.blocks = slice_get_within log.blocks (before + 1) b there in
    let spec : Specification = specification_in log in
    let kept : List Block = take (before + 1) log.blocks in
    let after : take (before + 2) log.blocks ≡ kept_after spec kept has.item = ap (λ (c : Chain). c.blocks) has.kept in
    let joined = joined_item spec kept has.item (ap length (sym after) ∙ has.grown) in
    let can : CanJoin spec kept has.item = joined.0 in
    let size : length kept ≡ before + 1 = length-take-le (before + 1) log.blocks (omega (arith, within)) in
    let here : Some b ≡ Some can.block =
    sym there ∙ sym (slice_get-take (before + 2) log.blocks (before + 1) (omega arith))
    ∙ ap (λ (blocks : List Block). slice_get blocks (before + 1)) (after ∙ joined.1)
    ∙ ap (slice_get (kept ++ can.block ∷ [])) (sym size) ∙ slice_get-push kept can.block in
    let same : can.block ≡ b = (cc) in
    (can, same)

-- The block at a place after the genesis could join over those before it.
block_joined : (log : LogContent) → EachHasJoined log → length log.blocks ≡ length (of_blocks log.records) + 1
    → (before : ℕ) (b : Block) → block_at log.blocks (before + 1) ≡ Some b → MayJoin (chain_of log).spec (take (before + 1) log.blocks) b
block_joined log each count before b there =
    let within : before + 1 < length log.blocks = slice_get_within log.blocks (before + 1) b there in
    let r = slice_get-below (of_blocks log.records) before (omega (arith, within, count)) in
    let found = item_of_record log before r.0 b (each before r.0 r.1) there in
    subst (MayJoin (chain_of log).spec (take (before + 1) log.blocks)) found.1 found.0.may

-- ---- A log whose blocks joined

joined_of_log : (log : LogContent) → BeginsGood log.blocks → length log.blocks ≡ length (of_blocks log.records) + 1 → EachHasJoined log → IsJoined (chain_of log)
joined_of_log log begins count each = record {
  genesis = begins.genesis;
  first = begins.first;
  good = begins.good;
  each = each_at;
}
  where
    each_at : (place : ℕ) (b : Block) → 0 < place → block_at log.blocks place ≡ Some b → MayJoin (chain_of log).spec (take place log.blocks) b
    each_at zero b above there = absurd (omega (arith, above))
    each_at (suc before) b above there =
        let same : before + 1 ≡ suc before = omega arith in
        subst (λ (place : ℕ). MayJoin (chain_of log).spec (take place log.blocks) b) same
        (block_joined log each count before b (ap (block_at log.blocks) same ∙ there))

-- A chain for which an image stands has joined.
pub joined_of_image : (chain : Chain) (image : Image) → StandsFor chain image → IsJoined chain
joined_of_image chain image stands =
    let log : LogContent = stands.log in
    let says : content_of_records (records_of (drop 8 image.log)) ≡ Some log = content_of_log image.log log stands.is_log in
    subst IsJoined stands.keeps
    (joined_of_log log (content_begins (records_of (drop 8 image.log)) log says) (counts_its_records (records_of (drop 8 image.log)) log says) stands.joined)

pub stands_for_what_joined : StandsForWhatJoined
stands_for_what_joined = (joined_of_image, joined_after)
