-- The ext beside the block of a record: its form, and its fees.
use Rattle.std.proofs.Common.{◌≡◌, ℕ, zero, suc, ◌+◌, ◌-◌, ◌*◌, ◌<◌, ◌≤◌, ◌^◌, Bool, true, false, cond, leb, List, [], ◌∷◌, ◌++◌, length, map, take, drop, Option, Some, None, refl, sym, ap, ◌∙◌, subst, inl, inr, ◌⊎◌, arith}
use Rattle.std.specs.Prelude.{◌&&◌, ◌==◌, is_none, slice_get, IsTrue}
use Rattle.std.specs.Option.{option_and_then}
use Rattle.std.specs.List.{concat}
use Rattle.std.specs.Int.{w32, w64, to_le_bytes}
use Rattle.std.proofs.lemmas.Bool.{and_parts}
use Rattle.std.proofs.lemmas.Nat.{from_le_bytes-to_le_bytes_4}
use Rattle.std.proofs.lemmas.List.{length-append, length-drop, length_push, take-append-le, take_at, append_assoc}
use Rattle.chain_defs.specs.Shape.{decoded}
use Rattle.chain_defs.specs.Schema.{Transaction, Block, block}
use Rattle.chain_defs.specs.Kept.{block_at, blocks_of_item}
use Rattle.chain_defs.specs.Branch.{branch}
use Rattle.chain_defs.proofs.KeptLaws.{slice_get-before, slice_get-push, slice_get-pushed}
use Rattle.chain_defs.specs.Specification.{Specification}
use Rattle.chain_defs.specs.Ext.{Ext, row_bytes, ext_bytes, count_at, is_ext}
use Rattle.verdict_defs.specs.Ext.{ext_of}
use Rattle.rule_defs.specs.Capacity.{fees_from}
use Rattle.verdict_defs.specs.Chain.{Chain}
use Rattle.verdict_defs.specs.Laws.{CanJoin}
use Rattle.disk_defs.specs.Log.{Record, LogContent, records_of, of_blocks, log_of, content_of_records, blocks_over, block_of_record, block_of_parts, block_if, may_stand_on, parts_of_body}
use Rattle.disk_defs.specs.LogLaws.{HasFittingBody, IsSaidBy}
use Rattle.rule_defs.specs.Genesis.{broken_genesis_rule}
use Rattle.store_defs.specs.Store.{HasJoined, EachHasJoined, HaveOwnExts, ext_over, ext_on, own_ext, ext_of_found, chain_before}
use Rattle.disk_defs.proofs.Contents.{one_genesis, good_genesis, says_by_parts}
use Rattle.store_defs.proofs.JoinedLemmas.{over-front, joined_item, item_of_record, content_of_log}

-- ---- The bytes of an ext

length-fees : (fees : List ℕ) → length (concat (map (to_le_bytes w64) fees)) ≡ 8 * length fees
length-fees [] = refl
length-fees (fee ∷ fees) =
    length-append (to_le_bytes w64 fee) (concat (map (to_le_bytes w64) fees)) ∙ omega (arith, length-fees fees)

fees-within : (ext : Ext) → 8 * length ext.fees ≤ length (ext_bytes ext)
unfolding ext_bytes
fees-within ext =
    let count : List ℕ = to_le_bytes w32 (length ext.fees) in
    let fees : List ℕ = concat (map (to_le_bytes w64) ext.fees) in
    let rows : List ℕ = to_le_bytes w32 (length ext.spent) in
    let spent : List ℕ = concat (map row_bytes ext.spent) in
    omega (arith, length-append ((count ++ fees) ++ rows) spent, length-append (count ++ fees) rows, length-append count fees, length-fees ext.fees)

-- The count at the start is that of the fees.
pub counts-fees : (ext : Ext) → length ext.fees < 2 ^ 32 → count_at (ext_bytes ext) 0 ≡ length ext.fees
unfolding ext_bytes
counts-fees ext fits = from_le_bytes-to_le_bytes_4 (length ext.fees) fits

pub length-fees_from : (spec : Specification) (on : List Block) (b : Block) (place : ℕ) (later : List Transaction) → length (fees_from spec on b place later) ≡ length later
unfolding fees_from
length-fees_from spec on b place [] = refl
length-fees_from spec on b place (t ∷ later) = ap suc (length-fees_from spec on b (suc place) later)

-- A block has a fee for each transaction after the first.
fees_of_block : (spec : Specification) (kept : List Block) (parent : ℕ) (b : Block) → length (ext_of spec kept parent b).fees ≡ length b.transactions - 1
unfolding ext_of
fees_of_block spec kept parent b = length-fees_from spec (branch kept parent) b 1 (drop 1 b.transactions) ∙ length-drop 1 b.transactions

-- ---- The parts of a body

abbrev pair : List ℕ → List ℕ → Option (List ℕ × List ℕ)
pair item ext = Some (item, ext)

abbrev front_of : Option (List ℕ × List ℕ) → List ℕ
front_of None = []
front_of (Some parts) = parts.0

abbrev behind_of : Option (List ℕ × List ℕ) → List ℕ
behind_of None = []
behind_of (Some parts) = parts.1

both_of : (one item two ext : List ℕ) → pair one two ≡ pair item ext → (one ≡ item) × (two ≡ ext)
both_of one item two ext is = (ap front_of is, ap behind_of is)

ext-within : (body item ext : List ℕ) → parts_of_body body ≡ Some (item, ext) → length ext ≤ length body
unfolding parts_of_body
ext-within body item ext is = by_test (leb 4 (length body) && leb (4 + count_at body 0) (length body)) is
  where
    by_test : (t : Bool) → cond t (pair (take (count_at body 0) (drop 4 body)) (drop (4 + count_at body 0) body)) None ≡ pair item ext
        → length ext ≤ length body
    by_test false is = absurd (cc)
    by_test true is =
        let parts = both_of (take (count_at body 0) (drop 4 body)) item (drop (4 + count_at body 0) body) ext is in
        omega (arith, ap length (sym parts.1), length-drop (4 + count_at body 0) body)

-- ---- The ext that a block joined with

-- that of an item that can join
pub ext_of_can : (chain : Chain) (item : List ℕ) (can : CanJoin chain.spec chain.blocks item)
    → ext_over chain item ≡ ext_bytes (ext_of chain.spec chain.blocks can.may.parent can.block)
unfolding ext_over
ext_of_can chain item can = ap (ext_of_found chain) can.canonical ∙ ap (ext_on chain can.block) can.may.on_kept

-- The ext of a record whose block joined has a fee for each transaction of the block after the first.
pub fees_of_record : (before : Chain) (r : Record) (after : Chain) (item ext : List ℕ) (b : Block) → HasJoined before r after → HasFittingBody r
    → parts_of_body r.body ≡ Some (item, ext) → decoded block item ≡ Some b → count_at ext 0 ≡ length b.transactions - 1
fees_of_record before r after item ext b has fits parts canonical =
    let joined = joined_item before.spec before.blocks has.item (ap (λ (c : Chain). length c.blocks) (sym has.kept) ∙ has.grown) in
    let can : CanJoin before.spec before.blocks has.item = joined.0 in
    let its : Ext = ext_of before.spec before.blocks can.may.parent can.block in
    let same = both_of has.item item (ext_over before has.item) ext (sym has.parts ∙ parts) in
    let ext_is : ext_bytes its ≡ ext = sym (ext_of_can before has.item can) ∙ same.1 in
    let found : Some can.block ≡ Some b = sym can.canonical ∙ ap (decoded block) same.0 ∙ canonical in
    let block_is : can.block ≡ b = (cc) in
    let few : length its.fees < 2 ^ 32 = omega (arith, fees-within its, ap length ext_is, ext-within r.body item ext parts, fits) in
    ap (λ (bytes : List ℕ). count_at bytes 0) (sym ext_is) ∙ counts-fees its few ∙ fees_of_block before.spec before.blocks can.may.parent can.block
    ∙ ap (λ (x : Block). length x.transactions - 1) block_is

-- Beside the item of a record whose block joined stands the own ext of that block.
pub own_of_record : (log : LogContent) → EachHasJoined log → (before : ℕ) (r : Record) (b : Block) → slice_get (of_blocks log.records) before ≡ Some r
    → block_at log.blocks (before + 1) ≡ Some b → (item : List ℕ) × (parts_of_body r.body ≡ Some (item, own_ext (chain_before log (before + 1)) b))
unfolding ext_over
own_of_record log each before r b there here =
    let has : HasJoined (chain_before log (before + 1)) r (chain_before log (before + 2)) = each before r there in
    let found = item_of_record log before r b has here in
    let own : ext_over (chain_before log (before + 1)) has.item ≡ own_ext (chain_before log (before + 1)) b =
    ap (ext_of_found (chain_before log (before + 1))) found.0.canonical ∙ ap (own_ext (chain_before log (before + 1))) found.1 in
    (has.item, has.parts ∙ ap (pair has.item) own)

-- With its own ext beside one block more, each block has its own.
pub own_push : (chain : Chain) (exts : List (List ℕ)) (b : Block) → HaveOwnExts chain exts
    → HaveOwnExts (record { spec = chain.spec; blocks = chain.blocks ++ b ∷ [] }) (exts ++ own_ext chain b ∷ [])
own_push chain exts b have = record {
  as_many = length_push exts (own_ext chain b) ∙ ap (λ (n : ℕ). n + 1) have.as_many ∙ sym (length_push kept b);
  own = λ place other above there. own_at place other above (slice_get-pushed kept b place other there);
}
  where
    kept : List Block
    kept = chain.blocks

    with_kept : List Block → Chain
    with_kept blocks = record { spec = chain.spec; blocks = blocks }

    own_at : (place : ℕ) (other : Block) → 0 < place → ((place < length kept) × (block_at kept place ≡ Some other)) ⊎ ((place ≡ length kept) × (b ≡ other))
        → slice_get (exts ++ own_ext chain b ∷ []) place ≡ Some (own_ext (with_kept (take place (kept ++ b ∷ []))) other)
    own_at place other above (inl before) =
        slice_get-before exts (own_ext chain b ∷ []) place (omega (arith, before.0, have.as_many)) ∙ have.own place other above before.1
        ∙ ap (λ (earlier : List Block). Some (own_ext (with_kept earlier) other)) (sym (take-append-le place kept (b ∷ []) (omega (arith, before.0))))
    own_at place other above (inr last) =
        let at : place ≡ length exts = last.0 ∙ sym have.as_many in
        ap (slice_get (exts ++ own_ext chain b ∷ [])) at ∙ slice_get-push exts (own_ext chain b)
        ∙ ap (λ (x : Block). Some (own_ext chain x)) last.1
        ∙ ap (λ (earlier : List Block). Some (own_ext (with_kept earlier) other)) (sym (take_at kept (b ∷ []) place (sym last.0)))

-- ---- The records of a log

-- A record is taken over the first blocks, so many of them, and its block is the next.
record IsTaken (all : List Block) (at : ℕ) (r : Record) : Type 0 where
  pub block : Block
  pub there : block_at all at ≡ Some block
  pub taken : block_of_record (take at all) r ≡ Some block

over-taken : (kept : List Block) (records : List Record) (all : List Block) → blocks_over kept records ≡ Some all → (place : ℕ) (r : Record)
    → slice_get records place ≡ Some r → IsTaken all (length kept + place) r
over-taken kept [] all over place r there = absurd (cc)
over-taken kept (first ∷ records) all over place r there =
    by_found (λ x. over-taken (kept ++ x ∷ []) records all) (block_of_record kept first) refl over place there
  where
    by_found : ((x : Block) → blocks_over (kept ++ x ∷ []) records ≡ Some all → (place : ℕ) (r : Record) → slice_get records place ≡ Some r
        → IsTaken all (length (kept ++ x ∷ []) + place) r)
        → (o : Option Block) → block_of_record kept first ≡ o → option_and_then (λ x. blocks_over (kept ++ x ∷ []) records) o ≡ Some all
        → (place : ℕ) → slice_get (first ∷ records) place ≡ Some r → IsTaken all (length kept + place) r
    by_found again None is over place there = absurd (cc)
    by_found again (Some x) is over zero there =
        let front = over-front (kept ++ x ∷ []) records all over in
        let same : first ≡ r = (cc) in
        let at : length kept ≡ length kept + 0 = omega arith in
        let before : take (length kept) all ≡ kept =
        ap (take (length kept)) (front.1 ∙ append_assoc kept (x ∷ []) front.0) ∙ take_at kept (x ∷ front.0) (length kept) refl in
        let here : block_at all (length kept) ≡ Some x =
        ap (λ (blocks : List Block). slice_get blocks (length kept)) front.1
        ∙ slice_get-before (kept ++ x ∷ []) front.0 (length kept) (omega (arith, length_push kept x)) ∙ slice_get-push kept x in
        subst (λ (n : ℕ). IsTaken all n r) at (record {
          block = x;
          there = here;
          taken = ap (λ (blocks : List Block). block_of_record blocks r) before ∙ ap (block_of_record kept) (sym same) ∙ is;
        })
    by_found again (Some x) is over (suc place) there =
        let at : length (kept ++ x ∷ []) + place ≡ length kept + suc place = omega (arith, length_push kept x) in
        subst (λ (n : ℕ). IsTaken all n r) at (again x over place r there)

content_taken : (records : List Record) (log : LogContent) → content_of_records records ≡ Some log → (place : ℕ) (r : Record)
    → slice_get (of_blocks log.records) place ≡ Some r → IsTaken log.blocks (place + 1) r
content_taken records log says place r there =
    let is : IsSaidBy records log = (says_by_parts records log).0 says in
    let good : is_none (broken_genesis_rule log.genesis) ≡ true =
    ap (λ (item : List ℕ). is_none (broken_genesis_rule item)) (sym is.genesis) ∙ good_genesis is.one is.two is.first in
    let at : length (blocks_of_item log.genesis) + place ≡ place + 1 = omega (arith, one_genesis log.genesis good) in
    subst (λ (n : ℕ). IsTaken log.blocks n r) at (over-taken (blocks_of_item log.genesis) (of_blocks log.records) log.blocks is.over place r there)

-- A record holds a block, and beside it bytes of the form of an ext.
pub record HoldsBlock (r : Record) (b : Block) : Type 0 where
  pub item : List ℕ
  pub ext : List ℕ
  pub parts : parts_of_body r.body ≡ Some (item, ext)
  pub canonical : decoded block item ≡ Some b
  pub form : IsTrue (is_ext ext)

-- So does each that is taken.
pub holds_of_taken : (kept : List Block) (r : Record) (b : Block) → block_of_record kept r ≡ Some b → HoldsBlock r b
holds_of_taken kept r b taken = by_kind (r.kind == 3) taken
  where
    by_form : (item ext : List ℕ) → parts_of_body r.body ≡ Some (item, ext) → (x : Block) → decoded block item ≡ Some x
        → (t : Bool) → (is_ext ext && may_stand_on kept x) ≡ t → block_if t (Some x) ≡ Some b → HoldsBlock r b
    by_form item ext parts x canonical false test is = absurd (cc)
    by_form item ext parts x canonical true test is = record {
      item = item;
      ext = ext;
      parts = parts;
      canonical = canonical ∙ is;
      form = (and_parts (is_ext ext) (may_stand_on kept x) test).0;
    }

    by_block : (item ext : List ℕ) → parts_of_body r.body ≡ Some (item, ext) → (o : Option Block) → decoded block item ≡ o
        → option_and_then (λ x. block_if (is_ext ext && may_stand_on kept x) (Some x)) o ≡ Some b → HoldsBlock r b
    by_block item ext parts None canonical is = absurd (cc)
    by_block item ext parts (Some x) canonical is = by_form item ext parts x canonical (is_ext ext && may_stand_on kept x) refl is

    by_parts : (o : Option (List ℕ × List ℕ)) → parts_of_body r.body ≡ o → block_of_parts kept o ≡ Some b → HoldsBlock r b
    by_parts None parts is = absurd (cc)
    by_parts (Some (item, ext)) parts is = by_block item ext parts (decoded block item) refl is

    by_kind : (t : Bool) → block_if t (block_of_parts kept (parts_of_body r.body)) ≡ Some b → HoldsBlock r b
    by_kind false is = absurd (cc)
    by_kind true is = by_parts (parts_of_body r.body) refl is

-- ---- A log whose blocks joined

-- A record holds a block with its ext, which has a fee for each transaction of the block after the first.
pub record HoldsItsExt (r : Record) (b : Block) : Type 0 where
  pub holds : HoldsBlock r b
  pub fees : count_at holds.ext 0 ≡ length b.transactions - 1

-- So does each record of a log whose blocks joined, for the block at its place after the genesis.
pub exts_of_log : (bytes : List ℕ) (log : LogContent) → log_of bytes ≡ Some log → EachHasJoined log → (place : ℕ) (r : Record) (b : Block)
    → slice_get (of_blocks log.records) place ≡ Some r → block_at log.blocks (place + 1) ≡ Some b → HasFittingBody r → HoldsItsExt r b
exts_of_log bytes log is_log each place r b there here fits =
    let took : IsTaken log.blocks (place + 1) r = content_taken (records_of (drop 8 bytes)) log (content_of_log bytes log is_log) place r there in
    let taken : block_of_record (take (place + 1) log.blocks) r ≡ Some b = took.taken ∙ sym took.there ∙ here in
    let holds : HoldsBlock r b = holds_of_taken (take (place + 1) log.blocks) r b taken in
    record {
      holds = holds;
      fees = fees_of_record (chain_before log (place + 1)) r (chain_before log (place + 2)) holds.item holds.ext b (each place r there) fits holds.parts holds.canonical;
    }
