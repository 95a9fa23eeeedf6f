-- What the records of a log say of kept blocks, and what is read at the places of their bodies.
use Rattle.std.proofs.Common.{◌≡◌, ℕ, zero, suc, ◌+◌, ◌^◌, ◌<◌, Bool, true, false, cond, List, [], ◌∷◌, ◌++◌, length, map, take, drop, Option, Some, None, refl, sym, ap, subst, ◌∙◌, arith, inl, inr}
use Rattle.std.specs.Prelude.{◌&&◌, ◌==◌, not, is_none, All, IsTrue, slice_get}
use Rattle.std.specs.Option.{option_map, option_and_then}
use Rattle.std.specs.Int.{w32, to_le_bytes}
use Rattle.std.proofs.lemmas.Bool.{and_parts, eq-eqb, eqb-true}
use Rattle.std.proofs.lemmas.List.{append_assoc, append-nil, length-append, drop-drop, drop_at, map_push}
use Rattle.std.proofs.lemmas.List.Elements.{All-push}
use Rattle.chain_defs.specs.Shape.{encoded, decoded}
use Rattle.chain_defs.specs.Schema.{Block, block}
use Rattle.chain_defs.specs.Kept.{block_list}
use Rattle.chain_defs.proofs.KeptLaws.{slice_get-pushed}
use Rattle.chain_defs.specs.Ext.{is_ext}
use Rattle.rule_defs.specs.Genesis.{broken_genesis_rule}
use Rattle.outside.specs.Image.{Image}
use Rattle.disk_defs.specs.Log.{Record, LogContent, record_at, record_bytes, all_record_bytes, records_of, end_of_log, parts_of_body, may_stand_on, block_if, block_of_parts, block_of_record, blocks_over, is_of_edition, of_blocks, content_of_records}
use Rattle.disk_defs.specs.LogLaws.{HasFittingBody, IsSaidBy}
use Rattle.disk_defs.proofs.Records.{record_length, parts_at, records_of_none, records_of_some, size_of_all}
use Rattle.disk_defs.proofs.Contents.{gives_the_parts, says_by_parts, one_genesis, good_genesis}
use Rattle.log_file.specs.Grammar.{record_of, ext_in}
use Rattle.log_file.specs.Opening.{NameNext, NameBodies}
use Rattle.log_file.proofs.Progress.{names-push, names-pass}
use Rattle.chain_tree.specs.Told.{Stored, blocks_of}
use Rattle.chain_tree.specs.declared.entry.Entry.{Entry}
use Rattle.node_store.specs.Stored.{of_length, body_at, with_ext, parts_in, beside, stored_in, stored_of, put_first, all_stored, all_in, known_in, later_record}
use Rattle.log_file.specs.Opening.{kept_records}
use Rattle.node_store.specs.StoredLaws.{LogHasRecords, ReadsItsRecord, SaysWhatIsKept, LogHasBlocks, SaysWhatIsOpened, OpensKnown, SaysOneMore, FollowsTheLog, PassesEditions, AddsARecord}
use Rattle.node_store.proofs.StoredLemmas.{put_first-at}

-- ---- The first record of a log

none_first : (bytes : List ℕ) (r : Record) (records : List Record) → record_at bytes ≡ None → records_of bytes ≡ r ∷ records → ⊥
none_first bytes r records none is = nothing (sym (records_of_none bytes none) ∙ is)
  where
    nothing : [] ≡ r ∷ records → ⊥
    nothing same = absurd cc

pub first_record : (bytes : List ℕ) (r : Record) (records : List Record) → records_of bytes ≡ r ∷ records
    → (record_at bytes ≡ Some r) × (records_of (drop (length (record_bytes r)) bytes) ≡ records)
first_record bytes r records is = by_found (record_at bytes) refl
  where
    by_found : (o : Option Record) → record_at bytes ≡ o → (record_at bytes ≡ Some r) × (records_of (drop (length (record_bytes r)) bytes) ≡ records)
    by_found None none = absurd (none_first bytes r records none is)
    by_found (Some x) there =
        let all : x ∷ records_of (drop (length (record_bytes x)) bytes) ≡ r ∷ records = sym (records_of_some bytes x there) ∙ is in
        let same : x ≡ r = one all in
        (there ∙ ap (λ (y : Record). Some y) same, ap (λ (y : Record). records_of (drop (length (record_bytes y)) bytes)) (sym same) ∙ later all)
      where
        one : {l : List Record} → x ∷ l ≡ r ∷ records → x ≡ r
        one all = cc

        later : {l : List Record} → x ∷ l ≡ r ∷ records → l ≡ records
        later all = cc

-- ---- What is read at the places of bodies

of_its_length : (len : ℕ) (bytes : List ℕ) → len ≡ length bytes → of_length len bytes ≡ Some bytes
of_its_length len bytes is = ap (λ (b : Bool). cond b (Some bytes) None) (eq-eqb (length bytes) len (sym is))

body_there : (image : Image) (place : ℕ) (r : Record) (entry : Entry) → record_at (drop place image.log) ≡ Some r → entry.at ≡ place + 6 → entry.len ≡ length r.body
    → body_at image entry ≡ Some r.body
body_there image place r entry there at len =
    let bytes : take (length r.body) (drop 6 (drop place image.log)) ≡ r.body = (parts_at (drop place image.log) r there).body in
    let after : drop entry.at image.log ≡ drop 6 (drop place image.log) = ap (λ (n : ℕ). drop n image.log) at ∙ sym (drop-drop 6 place image.log) in
    let read : take entry.len (drop entry.at image.log) ≡ r.body = (λ i. take (len i) (after i)) ∙ bytes in
    ap (of_length entry.len) read ∙ of_its_length entry.len r.body len

-- entries that name the bodies of records tell what those of blocks say
pub all_told : (image : Image) (n place : ℕ) (records : List Record) (entries : List Entry) → records_of (drop place image.log) ≡ records
    → NameBodies place records entries → all_stored image n entries ≡ all_in n (of_blocks records)
all_told image n place [] [] holds named = refl
all_told image n place [] (entry ∷ entries) holds named = absurd named
all_told image n place (r ∷ records) entries holds named =
    by_kind (is_of_edition r) entries named (λ m es names. all_told image m (place + length (record_bytes r)) records es next names)
  where
    first : (record_at (drop place image.log) ≡ Some r) × (records_of (drop (length (record_bytes r)) (drop place image.log)) ≡ records)
    first = first_record (drop place image.log) r records holds

    next : records_of (drop (place + length (record_bytes r)) image.log) ≡ records
    next = ap records_of (sym (drop-drop (length (record_bytes r)) place image.log)) ∙ first.1

    by_kind : (t : Bool) (entries : List Entry) → NameNext t place r entries (NameBodies (place + length (record_bytes r)) records)
        → ((m : ℕ) (es : List Entry) → NameBodies (place + length (record_bytes r)) records es → all_stored image m es ≡ all_in m (of_blocks records))
        → all_stored image n entries ≡ all_in n (cond (not t) (r ∷ of_blocks records) (of_blocks records))
    by_kind true entries named again = again n entries named
    by_kind false [] named again = absurd named
    by_kind false (entry ∷ entries) named again =
        let here : stored_of image n entry ≡ stored_in n r.body = ap (option_and_then (stored_in n)) (body_there image place r entry first.0 named.0 named.1) in
        let later : all_stored image (suc n) entries ≡ all_in (suc n) (of_blocks records) = again (suc n) entries named.2 in
        λ i. put_first (here i) (later i)

pub log_has_records : LogHasRecords
log_has_records image specification records entries names =
    let one : Record = record_of 1 specification in
    let first = first_record (drop 8 image.log) one records names.holds in
    let size : 8 + length (record_bytes one) ≡ 14 + length specification = omega (arith, record_length one) in
    let next : records_of (drop (14 + length specification) image.log) ≡ records =
    ap (λ (n : ℕ). records_of (drop n image.log)) (sym size) ∙ ap records_of (sym (drop-drop (length (record_bytes one)) 8 image.log)) ∙ first.1 in
    all_told image 0 (14 + length specification) records entries next names.named

-- ---- What a body says

-- a body after the genesis, of its parts
pub later_body : (place : ℕ) (body item ext : List ℕ) (b : Block) → parts_of_body body ≡ Some (item, ext) → is_ext ext ≡ true → decoded block item ≡ Some b
    → stored_in (suc place) body ≡ Some (beside ext b)
later_body place body item ext b parts form is =
    let both : parts_in (suc place) body ≡ Some (item, ext) = ap (option_and_then with_ext) parts ∙ ap (λ (t : Bool). cond t (Some (item, ext)) None) form in
    ap (option_and_then (λ them. option_map (beside them.1) (decoded block them.0))) both ∙ ap (option_map (beside ext)) is

first_body : (body : List ℕ) (b : Block) → decoded block body ≡ Some b → stored_in 0 body ≡ Some (beside [] b)
first_body body b is = ap (option_map (beside [])) is

-- ---- The records of kept blocks

fits_within : (it : Stored) → HasFittingBody (later_record it) → length (encoded block it.block) < 2 ^ 32
fits_within it fits = omega (arith, fits, length-append (to_le_bytes w32 (length (encoded block it.block)) ++ encoded block it.block) it.ext, length-append (to_le_bytes w32 (length (encoded block it.block))) (encoded block it.block))

pub reads_its_record : ReadsItsRecord
reads_its_record zero it later canonical form fits = absurd (omega (arith, later))
reads_its_record (suc place) it later canonical form fits =
    later_body place (later_record it).body (encoded block it.block) it.ext it.block (gives_the_parts (encoded block it.block) it.ext (fits_within it fits)) form canonical

later_told : (place : ℕ) (later : List Stored) → ((k : ℕ) (it : Stored) → slice_get later k ≡ Some it → decoded block (encoded block it.block) ≡ Some it.block)
    → All HasFittingBody (map later_record later) → ((k : ℕ) (it : Stored) → slice_get later k ≡ Some it → is_ext it.ext ≡ true)
    → all_in (suc place) (map later_record later) ≡ Some later
later_told place [] canonical fit forms = refl
later_told place (it ∷ later) canonical fit forms =
    let here : stored_in (suc place) (later_record it).body ≡ Some it =
    reads_its_record (suc place) it (omega arith) (canonical 0 it refl) (forms 0 it refl) (fit 0 (later_record it) (omega arith)) in
    let rest : all_in (suc (suc place)) (map later_record later) ≡ Some later =
    later_told (suc place) later (λ k other there. canonical (suc k) other there) (λ k d within. fit (suc k) d (omega (arith, within))) (λ k other there. forms (suc k) other there) in
    λ i. put_first (here i) (rest i)

pub says_what_is_kept : SaysWhatIsKept
says_what_is_kept [] can = refl
says_what_is_kept (genesis ∷ later) can =
    let none : genesis.ext ≡ [] = can.genesis in
    let here : stored_in 0 (encoded block genesis.block) ≡ Some genesis =
    first_body (encoded block genesis.block) genesis.block (can.canonical 0 genesis refl) ∙ ap (λ (ext : List ℕ). Some (beside ext genesis.block)) (sym none) in
    let rest : all_in 1 (map later_record later) ≡ Some later =
    later_told 0 later (λ k it there. can.canonical (suc k) it there) (λ k d within. can.fit (suc k) d (omega (arith, within))) (λ k it there. can.forms (suc k) it (omega arith) there) in
    λ i. put_first (here i) (rest i)

pub log_has_blocks : LogHasBlocks
log_has_blocks image specification records stored entries names keeps can =
    log_has_records image specification records entries names ∙ ap known_in keeps ∙ says_what_is_kept stored can

-- ---- The records of a log that is opened

block_if-some : (test : Bool) (found : Option Block) (b : Block) → block_if test found ≡ Some b → (test ≡ true) × (found ≡ Some b)
block_if-some true found b is = (refl, is)
block_if-some false found b is = absurd cc

-- the record of a block that may stand there has it with its ext
pub record_told : (place : ℕ) (kept : List Block) (r : Record) (b : Block) → block_of_record kept r ≡ Some b → stored_in (suc place) r.body ≡ Some (beside (ext_in r) b)
record_told place kept r b is = by_parts (parts_of_body r.body) refl (block_if-some (r.kind == 3) (block_of_parts kept (parts_of_body r.body)) b is).1
  where
    by_block : (item ext : List ℕ) → parts_of_body r.body ≡ Some (item, ext) → (o : Option Block) → decoded block item ≡ o
        → option_and_then (λ x. block_if (is_ext ext && may_stand_on kept x) (Some x)) o ≡ Some b → stored_in (suc place) r.body ≡ Some (beside (ext_in r) b)
    by_block item ext parts None found stands = absurd cc
    by_block item ext parts (Some x) found stands =
        let both = block_if-some (is_ext ext && may_stand_on kept x) (Some x) b stands in
        let form : is_ext ext ≡ true = (and_parts (is_ext ext) (may_stand_on kept x) both.0).0 in
        let its : ext_in r ≡ ext = ap (λ (o : Option (List ℕ × List ℕ)). elim o [ None ↦ [] | Some p ↦ p.1 ]) parts in
        later_body place r.body item ext b parts form (found ∙ both.1) ∙ ap (λ (e : List ℕ). Some (beside e b)) (sym its)

    by_parts : (o : Option (List ℕ × List ℕ)) → parts_of_body r.body ≡ o → block_of_parts kept o ≡ Some b → stored_in (suc place) r.body ≡ Some (beside (ext_in r) b)
    by_parts None parts found = absurd cc
    by_parts (Some them) parts found = by_block them.0 them.1 parts (decoded block them.0) refl found

-- blocks over others stand after them
over_begins : (kept : List Block) (records : List Record) (all : List Block) → blocks_over kept records ≡ Some all → (more : List Block) × (all ≡ kept ++ more)
over_begins kept [] all over = ([], same over)
  where
    same : Some kept ≡ Some all → all ≡ kept ++ []
    same is = sym (cc) ∙ sym (append-nil kept)
over_begins kept (r ∷ records) all over = by_found (λ x. over_begins (kept ++ x ∷ []) records all) (block_of_record kept r) over
  where
    by_found : ((x : Block) → blocks_over (kept ++ x ∷ []) records ≡ Some all → (more : List Block) × (all ≡ (kept ++ x ∷ []) ++ more))
        → (o : Option Block) → option_and_then (λ x. blocks_over (kept ++ x ∷ []) records) o ≡ Some all → (more : List Block) × (all ≡ kept ++ more)
    by_found again None over = absurd cc
    by_found again (Some x) over = let found = again x over in (x ∷ found.0, found.1 ∙ append_assoc kept (x ∷ []) found.0)

-- the next one
next_is : (kept : List Block) (x y : Block) (more later : List Block) → kept ++ y ∷ later ≡ (kept ++ x ∷ []) ++ more → x ≡ y
next_is kept x y more later is =
    let both : y ∷ later ≡ x ∷ more =
    sym (drop_at kept (y ∷ later) (length kept) refl) ∙ ap (drop (length kept)) (is ∙ append_assoc kept (x ∷ []) more) ∙ drop_at kept (x ∷ more) (length kept) refl in
    one both
  where
    one : y ∷ later ≡ x ∷ more → x ≡ y
    one both = cc

over_told : (place : ℕ) (kept : List Block) (records : List Record) (later : List Stored) → blocks_over kept records ≡ Some (kept ++ blocks_of later)
    → map (λ it. it.ext) later ≡ map ext_in records → all_in (suc place) records ≡ Some later
over_told place kept [] [] over exts = refl
over_told place kept [] (it ∷ later) over exts = absurd cc
over_told place kept (r ∷ records) [] over exts = absurd cc
over_told place kept (r ∷ records) (it ∷ later) over exts =
    by_found (λ next. over_told (suc place) (kept ++ it.block ∷ []) records later next) (block_of_record kept r) refl over
  where
    by_found : (blocks_over (kept ++ it.block ∷ []) records ≡ Some ((kept ++ it.block ∷ []) ++ blocks_of later) → map (λ one. one.ext) later ≡ map ext_in records
        → all_in (suc (suc place)) records ≡ Some later) → (o : Option Block) → block_of_record kept r ≡ o → option_and_then (λ x. blocks_over (kept ++ x ∷ []) records) o ≡ Some (kept ++ it.block ∷ blocks_of later)
        → put_first (stored_in (suc place) r.body) (all_in (suc (suc place)) records) ≡ Some (it ∷ later)
    by_found again None is over = absurd cc
    by_found again (Some x) is over =
        let begins = over_begins (kept ++ x ∷ []) records (kept ++ it.block ∷ blocks_of later) over in
        let same : x ≡ it.block = next_is kept x it.block begins.0 (blocks_of later) begins.1 in
        let ext : ext_in r ≡ it.ext = first_ext exts in
        let here : stored_in (suc place) r.body ≡ Some it = record_told place kept r x is ∙ (λ i. Some (beside (ext i) (same i))) in
        let next : blocks_over (kept ++ it.block ∷ []) records ≡ Some ((kept ++ it.block ∷ []) ++ blocks_of later) =
        ap (λ (b : Block). blocks_over (kept ++ b ∷ []) records) (sym same) ∙ over ∙ ap (λ (l : List Block). Some l) (sym (append_assoc kept (it.block ∷ []) (blocks_of later))) in
        let rest : all_in (suc (suc place)) records ≡ Some later = again next (later_exts exts) in
        λ i. put_first (here i) (rest i)
      where
        first_ext : it.ext ∷ map (λ one. one.ext) later ≡ ext_in r ∷ map ext_in records → ext_in r ≡ it.ext
        first_ext is = cc

        later_exts : it.ext ∷ map (λ one. one.ext) later ≡ ext_in r ∷ map ext_in records → map (λ one. one.ext) later ≡ map ext_in records
        later_exts is = cc

of_kind : (r : Record) (kind : ℕ) → (r.kind == kind) ≡ true → r ≡ record_of kind r.body
of_kind r kind is = let same : r.kind ≡ kind = eqb-true r.kind kind is in λ i. record { kind = same i; body = r.body }

-- The records of a log are that of its specification, that of its genesis, and those after it.
pub records-are : (records : List Record) (log : LogContent) → content_of_records records ≡ Some log
    → records ≡ record_of 1 log.specification ∷ record_of 2 log.genesis ∷ log.records
records-are records log says =
    let is : IsSaidBy records log = (says_by_parts records log).0 says in
    let kinds = and_parts _ _ (and_parts _ _ is.first).0 in
    let kind_one = (and_parts _ _ kinds.0).0 in
    is.all ∙ (λ i. (of_kind is.one 1 kind_one ∙ ap (record_of 1) is.specification) i ∷ (of_kind is.two 2 kinds.1 ∙ ap (record_of 2) is.genesis) i ∷ log.records)

-- the genesis with the blocks after it
genesis_told : (item : List ℕ) (records : List Record) (blocks : List Block) (stored : List Stored) (o : Option Block) → decoded block item ≡ o
    → length (block_list o) ≡ 1 → blocks_over (block_list o) records ≡ Some blocks → blocks_of stored ≡ blocks → map (λ it. it.ext) stored ≡ [] ∷ map ext_in records
    → put_first (stored_in 0 item) (all_in 1 records) ≡ Some stored
genesis_told item records blocks stored None is one over same exts = absurd cc
genesis_told item records blocks [] (Some g) is one over same exts = absurd cc
genesis_told item records blocks (genesis ∷ later) (Some g) is one over same exts =
    let all : blocks_over (g ∷ []) records ≡ Some (genesis.block ∷ blocks_of later) = over ∙ ap (λ (l : List Block). Some l) (sym same) in
    let begins = over_begins (g ∷ []) records (genesis.block ∷ blocks_of later) all in
    let first : g ≡ genesis.block = first_block begins.1 in
    let here : stored_in 0 item ≡ Some genesis = first_body item g is ∙ (λ i. Some (beside (sym (no_ext exts) i) (first i))) in
    let next : blocks_over (genesis.block ∷ []) records ≡ Some (genesis.block ∷ blocks_of later) = ap (λ (b : Block). blocks_over (b ∷ []) records) (sym first) ∙ all in
    let rest : all_in 1 records ≡ Some later = over_told 0 (genesis.block ∷ []) records later next (later_exts exts) in
    λ i. put_first (here i) (rest i)
  where
    first_block : {more : List Block} → genesis.block ∷ blocks_of later ≡ g ∷ more → g ≡ genesis.block
    first_block is = cc

    no_ext : genesis.ext ∷ map (λ it. it.ext) later ≡ [] ∷ map ext_in records → genesis.ext ≡ []
    no_ext is = cc

    later_exts : genesis.ext ∷ map (λ it. it.ext) later ≡ [] ∷ map ext_in records → map (λ it. it.ext) later ≡ map ext_in records
    later_exts is = cc

pub says_what_is_opened : SaysWhatIsOpened
says_what_is_opened records log stored says blocks exts =
    let is : IsSaidBy records log = (says_by_parts records log).0 says in
    let good : is_none (broken_genesis_rule log.genesis) ≡ true =
    ap (λ (item : List ℕ). is_none (broken_genesis_rule item)) (sym is.genesis) ∙ good_genesis is.one is.two is.first in
    genesis_told log.genesis (of_blocks log.records) log.blocks stored (decoded block log.genesis) refl (one_genesis log.genesis good) is.over blocks exts

pub opens_known : OpensKnown
opens_known image log stored entries says blocks exts named =
    let records : List Record = records_of (drop 8 image.log) in
    log_has_records image log.specification (record_of 2 log.genesis ∷ log.records) entries (record { holds = records-are records log says; named = named })
    ∙ says_what_is_opened records log stored says blocks exts

-- ---- One more

all_in-more : (n : ℕ) (records : List Record) (stored : List Stored) (r : Record) (it : Stored) → all_in n records ≡ Some stored
    → stored_in (n + length records) r.body ≡ Some it → all_in n (records ++ r ∷ []) ≡ Some (stored ++ it ∷ [])
all_in-more n [] stored r it is one =
    let here : stored_in n r.body ≡ Some it = ap (λ (k : ℕ). stored_in k r.body) (omega arith) ∙ one in
    ap (λ (o : Option Stored). put_first o (Some [])) here ∙ ap (λ (l : List Stored). Some (l ++ it ∷ [])) (empty is)
  where
    empty : Some [] ≡ Some stored → [] ≡ stored
    empty is = cc
all_in-more n (first ∷ records) stored r it is one =
    let put = put_first-at (stored_in n first.body) (all_in (suc n) records) stored is in
    let next : all_in (suc n) (records ++ r ∷ []) ≡ Some (put.1 ++ it ∷ []) =
    all_in-more (suc n) records put.1 r it put.3 (ap (λ (k : ℕ). stored_in k r.body) (omega arith) ∙ one) in
    (λ i. put_first (put.2 i) (next i)) ∙ ap (λ (l : List Stored). Some (l ++ it ∷ [])) put.4

pub says_one_more : SaysOneMore
says_one_more records stored r it says one = all_in-more 0 records stored r it says (ap (λ (k : ℕ). stored_in k r.body) (omega arith) ∙ one)

pub follows_the_log : FollowsTheLog
unfolding end_of_log
follows_the_log bytes specification records entries r rec entry names other named at len =
    let one : Record = record_of 1 specification in
    let end : end_of_log bytes ≡ 8 + size_of_all (one ∷ records) = ap (λ (l : List Record). 8 + size_of_all l) names.holds in
    let sum : size_of_all (one ∷ records) ≡ length (record_bytes one) + size_of_all records = length-append (record_bytes one) (all_record_bytes records) in
    let place : entry.at ≡ 14 + length specification + size_of_all records + 6 = at ∙ named.1 ∙ omega (arith, end, sum, record_length one) in
    names-push (14 + length specification) records entries r entry other names.named (record { at = place; len = len ∙ named.2 })

pub passes_editions : PassesEditions
passes_editions place records entries r named is = names-pass place records entries r is named

pub adds_a_record : AddsARecord
adds_a_record [] it some = absurd (omega (arith, some))
adds_a_record (genesis ∷ later) it some = (
  grows,
  λ can canonical form fits. record {
    canonical = λ place one there. elim (slice_get-pushed (genesis ∷ later) it place one there) [
      | inl before ↦ can.canonical place one before.1
      | inr same ↦ subst (λ (x : Stored). decoded block (encoded block x.block) ≡ Some x.block) same.1 canonical
    ];
    fit = subst (λ (l : List Record). All HasFittingBody l) (sym grows) (All-push HasFittingBody (kept_records (genesis ∷ later)) (later_record it) can.fit fits);
    genesis = can.genesis;
    forms = λ place one above there. elim (slice_get-pushed (genesis ∷ later) it place one there) [
      | inl before ↦ can.forms place one above before.1
      | inr same ↦ subst (λ (x : Stored). IsTrue (is_ext x.ext)) same.1 form
    ];
  },
)
  where
    grows : kept_records ((genesis ∷ later) ++ it ∷ []) ≡ kept_records (genesis ∷ later) ++ later_record it ∷ []
    grows = ap (λ (l : List Record). record_of 2 (encoded block genesis.block) ∷ l) (map_push later_record later it)
