-- What the records of a log say, as they are read one after the other.
use Rattle.std.proofs.Common.{◌≡◌, inl, inr, ℕ, ◌+◌, ◌<◌, Bool, true, false, true≢false, cond, eqb, leb, List, [], ◌∷◌, ◌++◌, map, length, take, drop, Option, Some, None, refl, sym, ap, ◌∙◌, subst, arith}
use Rattle.std.specs.Prelude.{◌&&◌, not, is_none, IfSome}
use Rattle.std.specs.Option.{option_map, option_and_then}
use Rattle.std.specs.Str.{bytes_eq}
use Rattle.std.specs.Cmp.Lexicographic.{bytes_decides}
use Rattle.std.proofs.lemmas.Bool.{and_from, and_parts, le-leb, eqb-true}
use Rattle.std.proofs.lemmas.List.{append_assoc, append-nil, length-append, length-drop, length_push, map_push, drop-drop}
use Rattle.std.proofs.lemmas.List.Elements.{All-nil, All-push, filter-append}
use Rattle.chain_defs.specs.Shape.{encoded}
use Rattle.chain_defs.proofs.ShapeLaws.{IsEncoding-decoded}
use Rattle.chain_defs.specs.Schema.{Block}
use Rattle.chain_defs.specs.Schema as shapes
use Rattle.chain_defs.specs.Kept.{block_list, blocks_of_item}
use Rattle.chain_defs.specs.Specification.{Specification, broken_specification_rule, specification_of, with_edition}
use Rattle.chain_tree.specs.declared.entry.Entry.{Entry}
use Rattle.chain_tree.specs.Blocks.{IndexesBlocks}
use Rattle.chain_tree.specs.Told.{Stored, blocks_of}
use Rattle.outside.specs.Image.{Image}
use Rattle.rule_defs.specs.Genesis.{broken_genesis_rule}
use Rattle.disk_defs.specs.Log.{Record, record_at, record_bytes, all_record_bytes, records_of, end_of_log, magic, LogContent, record_limit, are_first, may_be_later, block_of_record, blocks_over, content_of_records, log_of, is_specification, is_genesis, is_of_edition, is_edition, of_editions, of_blocks, at_most_one, first_epoch, edition_of, stop_of_later, stop_of_records, IsNoLogFrom}
use Rattle.disk_defs.specs.LogLaws.{HasFittingBody, IsSaidBy, grown, edited}
use Rattle.disk_defs.specs.Rest.{EndsAt}
use Rattle.disk_defs.proofs.Records.{record_length, parts_at, records_of_none, records_of_some, size_of_all, size-push}
use Rattle.disk_defs.proofs.Contents.{says_by_parts, adds_a_block, adds_an_edition, editions_are_kept, block_is_other, blocks_of_more, blocks_of_same}
use Rattle.disk_defs.proofs.Stopping.{past_specification, at_specification, at_genesis, stops_at_block, stops_at_edition, stops_past, stops_at_start, stops_in_records}
use Rattle.log_file.specs.Grammar.{record_of, ext_in, NamesBody, AreBlocks, BlocksValue, ReadValue, read_with, IsGenesisOf, IsGrownBy, IsTakenFrom, IsMisplaced}
use Rattle.log_file.specs.Pieces.{block_record}
use Rattle.log_file.specs.Reading.{ReaderValue, IsReading, IsAt, HasPassed, IsOther, IsOtherHere, IsWrongHere}
use Rattle.log_file.specs.Opening.{NameNext, NameBodies, kept_records, AreOpened, IsOpened, HasReadLog, HasReadAll, IsNoContentFrom}
use Rattle.log_file.proofs.Judging.{limit_is, kept_limit_is, blocks-push, as_many}

-- ---- Records that were read, and those that are left

split_more : (all read : List Record) (bytes : List ℕ) (at : ℕ) (r : Record) → all ≡ read ++ records_of (drop at bytes) → record_at (drop at bytes) ≡ Some r
    → all ≡ (read ++ r ∷ []) ++ records_of (drop (at + length (record_bytes r)) bytes)
split_more all read bytes at r split there =
    let n : ℕ = length (record_bytes r) in
    let rest : records_of (drop at bytes) ≡ r ∷ records_of (drop (at + n) bytes) =
    records_of_some (drop at bytes) r there ∙ ap (λ (l : List ℕ). r ∷ records_of l) (drop-drop n at bytes) in
    split ∙ ap (λ (l : List Record). read ++ l) rest ∙ sym (append_assoc read (r ∷ []) (records_of (drop (at + n) bytes)))

split_here : (all read : List Record) (bytes : List ℕ) (at : ℕ) (r : Record) → all ≡ read ++ records_of (drop at bytes) → record_at (drop at bytes) ≡ Some r
    → all ≡ read ++ (r ∷ records_of (drop (at + length (record_bytes r)) bytes))
split_here all read bytes at r split there =
    split_more all read bytes at r split there ∙ append_assoc read (r ∷ []) (records_of (drop (at + length (record_bytes r)) bytes))

split_end : (all read : List Record) (bytes : List ℕ) (at : ℕ) → all ≡ read ++ records_of (drop at bytes) → record_at (drop at bytes) ≡ None → all ≡ read
split_end all read bytes at split none = split ∙ ap (λ (l : List Record). read ++ l) (records_of_none (drop at bytes) none) ∙ append-nil read

still_within : (bytes : List ℕ) (at : ℕ) (r : Record) → record_at (drop at bytes) ≡ Some r → at + length (record_bytes r) < length bytes
still_within bytes at r there = omega (arith, (parts_at (drop at bytes) r there).whole, record_length r, length-drop at bytes)

-- ---- What they say

first_from : (a b c d : Bool) → (a && b) ≡ true → (c && d) ≡ true → (((a && b) && c) && d) ≡ true
first_from a b c d one two = and_from ((a && b) && c) d (and_from (a && b) c one (and_parts c d two).0) (and_parts c d two).1

not_second : (ab c d : Bool) → (c && d) ≡ false → ((ab && c) && d) ≡ false
not_second false c d wrong = refl
not_second true c d wrong = wrong

abbrev said : Record → Record → List Record → Option (List Block) → Option LogContent
said one two records blocks = option_map (λ blocks. record { specification = one.body; genesis = two.body; records = records; blocks = blocks }) blocks

pub not_first : (one : Record) (more : List Record) → is_specification one ≡ false → content_of_records (one ∷ more) ≡ None
not_first one [] wrong = refl
not_first one (two ∷ records) wrong =
    let test : (are_first one two && may_be_later records) ≡ false =
    ap (λ (t : Bool). ((t && (eqb two.kind 2)) && is_none (broken_genesis_rule two.body)) && may_be_later records) wrong in
    ap (λ (t : Bool). cond t (said one two records (blocks_over (blocks_of_item two.body) (of_blocks records))) None) test

pub not_next : (one two : Record) (more : List Record) → is_genesis two ≡ false → content_of_records (one ∷ two ∷ more) ≡ None
not_next one two records wrong =
    let first : are_first one two ≡ false =
    not_second (is_specification one) (eqb two.kind 2) (is_none (broken_genesis_rule two.body)) wrong in
    let test : (are_first one two && may_be_later records) ≡ false = ap (λ (t : Bool). t && may_be_later records) first in
    ap (λ (t : Bool). cond t (said one two records (blocks_over (blocks_of_item two.body) (of_blocks records))) None) test

-- the two first records alone
abbrev first_content : Record → Record → LogContent
first_content one two = record { specification = one.body; genesis = two.body; records = []; blocks = blocks_of_item two.body }

first_says : (one two : Record) → is_specification one ≡ true → is_genesis two ≡ true → content_of_records (one ∷ two ∷ []) ≡ Some (first_content one two)
first_says one two is_one is_two =
    let first : are_first one two ≡ true =
    first_from (eqb one.kind 1) (is_none (broken_specification_rule one.body)) (eqb two.kind 2) (is_none (broken_genesis_rule two.body)) is_one is_two in
    let later : may_be_later [] ≡ true = and_from (leb 0 record_limit) true (le-leb 0 record_limit (omega arith)) refl in
    let test : (are_first one two && may_be_later []) ≡ true = and_from (are_first one two) (may_be_later []) first later in
    ap (λ (t : Bool). cond t (Some (first_content one two)) None) test

-- a record that is wrong after records that are not
blocks_none : (kept : List Block) (records : List Record) (r : Record) (more : List Record) (all : List Block) → blocks_over kept records ≡ Some all
    → block_of_record all r ≡ None → blocks_over kept (records ++ (r ∷ more)) ≡ None
blocks_none kept [] r more all over wrong =
    let same : kept ≡ all = (cc) in
    let here : block_of_record kept r ≡ None = subst (λ (l : List Block). block_of_record l r ≡ None) (sym same) wrong in
    ap (option_and_then (λ x. blocks_over (kept ++ x ∷ []) more)) here
blocks_none kept (first ∷ records) r more all over wrong = by_found (λ x. blocks_none (kept ++ x ∷ []) records r more all) (block_of_record kept first) refl over
  where
    by_found : ((x : Block) → blocks_over (kept ++ x ∷ []) records ≡ Some all → block_of_record all r ≡ None
        → blocks_over (kept ++ x ∷ []) (records ++ (r ∷ more)) ≡ None) → (o : Option Block) → block_of_record kept first ≡ o
        → option_and_then (λ x. blocks_over (kept ++ x ∷ []) records) o ≡ Some all → blocks_over kept ((first ∷ records) ++ (r ∷ more)) ≡ None
    by_found again None is over = absurd (cc)
    by_found again (Some x) is over = ap (option_and_then (λ x. blocks_over (kept ++ x ∷ []) (records ++ (r ∷ more)))) is ∙ again x over wrong

if_none : (t : Bool) → cond {A = Option LogContent} t None None ≡ None
if_none true = refl
if_none false = refl

-- one of an edition that is another than the first, or has another length
too_many : (editions more : List Record) (r : Record) → (is_none (first_epoch editions) && is_edition r) ≡ false → at_most_one (editions ++ (r ∷ more)) ≡ true → ⊥
too_many [] [] r wrong once = absurd (true≢false (sym once ∙ wrong))
too_many [] (other ∷ more) r wrong once = absurd (cc)
too_many (first ∷ []) more r wrong once = absurd (cc)
too_many (first ∷ second ∷ editions) more r wrong once = absurd (cc)

editions_on : (records : List Record) (r : Record) (more : List Record) → is_of_edition r ≡ true
    → of_editions (records ++ (r ∷ more)) ≡ of_editions records ++ (r ∷ of_editions more)
editions_on records r more is =
    filter-append is_of_edition records (r ∷ more) ∙ ap (λ (t : Bool). of_editions records ++ cond t (r ∷ of_editions more) (of_editions more)) is

blocks_on : (records : List Record) (r : Record) (more : List Record) → is_of_edition r ≡ false
    → of_blocks (records ++ (r ∷ more)) ≡ of_blocks records ++ (r ∷ of_blocks more)
blocks_on records r more other =
    filter-append (λ (x : Record). not (is_of_edition x)) records (r ∷ more)
    ∙ ap (λ (t : Bool). of_blocks records ++ cond (not t) (r ∷ of_blocks more) (of_blocks more)) other

-- a record that may not stand behind others makes no log of them all
module _ (records : List Record) (r : Record) (more : List Record) (log : LogContent) (says : content_of_records records ≡ Some log)
    (counted : length log.blocks ≡ length (of_blocks log.records) + 1) where
  said_before : IsSaidBy records log
  said_before = (says_by_parts records log).0 says

  -- what all of them would say
  module _ (all : LogContent) (is : IsSaidBy (records ++ (r ∷ more)) all) where
    split : is.one ∷ is.two ∷ all.records ≡ said_before.one ∷ said_before.two ∷ (log.records ++ (r ∷ more))
    split = sym is.all ∙ ap (λ (l : List Record). l ++ (r ∷ more)) said_before.all

    later : all.records ≡ log.records ++ (r ∷ more)
    later = ap (drop 2) split

    genesis : all.genesis ≡ log.genesis
    genesis = sym is.genesis ∙ ap second_body split ∙ said_before.genesis
      where
        second_body : List Record → List ℕ
        second_body [] = []
        second_body (one ∷ []) = []
        second_body (one ∷ two ∷ rest) = two.body

    not_so : IsMisplaced log.blocks (edition_of log.records) r → ⊥
    not_so (inl (edition, wrong)) =
        too_many (of_editions log.records) (of_editions more) r wrong
        (ap at_most_one (sym (ap of_editions later ∙ editions_on log.records r more edition)) ∙ is.once)
    not_so (inr (other, inl none)) =
        let over : blocks_over (blocks_of_item log.genesis) (of_blocks log.records ++ (r ∷ of_blocks more)) ≡ Some all.blocks =
        sym (ap (blocks_over (blocks_of_item log.genesis)) (ap of_blocks later ∙ blocks_on log.records r more other))
        ∙ ap (λ (item : List ℕ). blocks_over (blocks_of_item item) (of_blocks all.records)) (sym genesis) ∙ is.over in
        let nothing : blocks_over (blocks_of_item log.genesis) (of_blocks log.records ++ (r ∷ of_blocks more)) ≡ None =
        blocks_none (blocks_of_item log.genesis) (of_blocks log.records) r (of_blocks more) log.blocks said_before.over none in
        absurd (cc)
    not_so (inr (other, inr full)) =
        absurd (omega (
          arith,
          full,
          counted,
          is.room,
          ap length (ap of_blocks later ∙ blocks_on log.records r more other),
          length-append (of_blocks log.records) (r ∷ of_blocks more),
        ))

  pub wrong_behind : IsMisplaced log.blocks (edition_of log.records) r → content_of_records (records ++ (r ∷ more)) ≡ None
  wrong_behind wrong = by_content (content_of_records (records ++ (r ∷ more))) refl
    where
      by_content : (o : Option LogContent) → content_of_records (records ++ (r ∷ more)) ≡ o → content_of_records (records ++ (r ∷ more)) ≡ None
      by_content None is = is
      by_content (Some all) is = absurd (not_so all ((says_by_parts (records ++ (r ∷ more)) all).0 is) wrong)

-- ---- Entries

-- with one more record at the end, one of a block with its entry
pub names-push : (place : ℕ) (records : List Record) (entries : List Entry) (r : Record) (entry : Entry) → is_of_edition r ≡ false → NameBodies place records entries
    → NamesBody (place + size_of_all records + 6) r entry → NameBodies place (records ++ r ∷ []) (entries ++ entry ∷ [])
names-push place [] [] r entry other so_far last =
    subst (λ (t : Bool). NameNext t place r (entry ∷ []) (NameBodies (place + length (record_bytes r)) [])) (sym other) (last.at ∙ omega arith, last.len, tt)
names-push place [] (e ∷ es) r entry other so_far last = absurd so_far
names-push place (first ∷ records) entries r entry other so_far last =
    by_kind (is_of_edition first) entries (λ es names. names-push (place + n) records es r entry other names (record { at = last.at ∙ omega (arith, sum); len = last.len })) so_far
  where
    n : ℕ
    n = length (record_bytes first)

    sum : size_of_all (first ∷ records) ≡ n + size_of_all records
    sum = length-append (record_bytes first) (all_record_bytes records)

    by_kind : (t : Bool) (entries : List Entry) → ((es : List Entry) → NameBodies (place + n) records es → NameBodies (place + n) (records ++ r ∷ []) (es ++ entry ∷ []))
        → NameNext t place first entries (NameBodies (place + n) records) → NameNext t place first (entries ++ entry ∷ []) (NameBodies (place + n) (records ++ r ∷ []))
    by_kind true entries again names = again entries names
    by_kind false [] again names = absurd names
    by_kind false (e ∷ es) again names = (names.0, names.1, again es names.2)

-- or one of an edition
pub names-pass : (place : ℕ) (records : List Record) (entries : List Entry) (r : Record) → is_of_edition r ≡ true → NameBodies place records entries
    → NameBodies place (records ++ r ∷ []) entries
names-pass place [] entries r is so_far = subst (λ (t : Bool). NameNext t place r entries (NameBodies (place + length (record_bytes r)) [])) (sym is) so_far
names-pass place (first ∷ records) entries r is so_far = by_kind (is_of_edition first) entries (λ es names. names-pass (place + n) records es r is names) so_far
  where
    n : ℕ
    n = length (record_bytes first)

    by_kind : (t : Bool) (entries : List Entry) → ((es : List Entry) → NameBodies (place + n) records es → NameBodies (place + n) (records ++ r ∷ []) es)
        → NameNext t place first entries (NameBodies (place + n) records) → NameNext t place first entries (NameBodies (place + n) (records ++ r ∷ []))
    by_kind true entries again names = again entries names
    by_kind false [] again names = absurd names
    by_kind false (e ∷ es) again names = (names.0, names.1, again es names.2)

-- ---- The records of blocks

abbrev record_of_stored : Stored → Record
record_of_stored it = block_record (encoded shapes.block it.block) it.ext

-- one block more after a genesis
kept-push : (first : Record) (records : List Record) (stored : List Stored) (it : Stored) → first ∷ records ≡ kept_records stored
    → first ∷ (records ++ record_of_stored it ∷ []) ≡ kept_records (stored ++ it ∷ [])
kept-push first records [] it held = absurd (cc)
kept-push first records (genesis ∷ later) it held =
    ap (λ (l : List Record). l ++ record_of_stored it ∷ []) held
    ∙ ap (λ (l : List Record). record_of 2 (encoded shapes.block genesis.block) ∷ l) (sym (map_push record_of_stored later it))

-- ---- From start to end

-- what the two first records are opened as
opened_first : (one two : Record) (at : ℕ) (blocks : BlocksValue) → IsGenesisOf at two blocks → AreBlocks blocks.stored blocks.entries → at ≡ 14 + length one.body + 6
    → AreOpened (first_content one two) blocks.stored blocks.entries
opened_first one two at blocks is are start =
    let blocks_are : blocks_of blocks.stored ≡ blocks_of_item two.body = ap blocks_of is.stored ∙ sym (ap block_list is.is) in
    let named : NameBodies (14 + length one.body) (record_of 2 two.body ∷ []) (is.entry ∷ []) = (is.named.at ∙ start, is.named.len, tt) in
    record {
      blocks = blocks_are;
      exts = ap (map (λ (it : Stored). it.ext)) is.stored;
      fits = All-nil HasFittingBody;
      indexed = subst (λ (l : List Block). IndexesBlocks l blocks.entries) blocks_are are.indexed;
      named = subst (NameBodies (14 + length one.body) (record_of 2 two.body ∷ [])) (sym is.entries) named;
      held = ap (λ (body : List ℕ). record_of 2 body ∷ []) (IsEncoding-decoded shapes.block two.body is.block is.is).encoding ∙ sym (ap kept_records is.stored);
    }

pub begun : (log : List ℕ) (spec : Specification) (first second third : ReaderValue) (blocks : BlocksValue) → first.at ≡ 8
    → HasPassed log (λ r. (is_specification r ≡ true) × (spec ≡ specification_of r.body)) first second
    → HasPassed log (λ r. IsGenesisOf (second.at + 6) r blocks) second third → AreBlocks blocks.stored blocks.entries → IsReading log third
    → HasReadLog log spec third (read_with blocks.stored blocks.entries None)
begun log spec first second third blocks start one two are reading =
    let size : size_of_all (one.r ∷ two.r ∷ []) ≡ length (record_bytes one.r) + length (record_bytes two.r) =
    length-append (record_bytes one.r) (record_bytes two.r ++ []) ∙ ap (λ (l : List ℕ). length (record_bytes one.r) + length l) (append-nil (record_bytes two.r)) in
    let all : List Record = records_of (drop 8 log) in
    let split : all ≡ records_of (drop first.at log) = ap (λ (n : ℕ). records_of (drop n log)) (sym start) in
    let split_one : all ≡ one.r ∷ records_of (drop second.at log) =
    split_more all [] log first.at one.r split one.there ∙ ap (λ (n : ℕ). one.r ∷ records_of (drop n log)) (sym one.at.at) in
    let split_two : all ≡ one.r ∷ two.r ∷ records_of (drop third.at log) =
    split_more all (one.r ∷ []) log second.at two.r split_one two.there ∙ ap (λ (n : ℕ). one.r ∷ two.r ∷ records_of (drop n log)) (sym two.at.at) in
    let opened = opened_first one.r two.r (second.at + 6) blocks two.is are (omega (arith, one.at.at, start, record_length one.r)) in
    record {
      reading = reading;
      within = omega (arith, two.at.at, still_within log second.at two.r two.there);
      records = one.r ∷ two.r ∷ [];
      split = split_two;
      place = omega (arith, two.at.at, one.at.at, start, size);
      log = first_content one.r two.r;
      says = first_says one.r two.r one.is.0 two.is.genesis;
      specified = one.is.1;
      told = refl;
      opened = opened;
      counted = sym (ap length opened.blocks) ∙ ap (λ (l : List Stored). length (blocks_of l)) two.is.stored;
      next = omega (
        arith,
        two.at.at,
        one.at.at,
        start,
        record_length one.r,
        record_length two.r,
        record_length (record_of 2 two.r.body),
        ap length (append-nil (record_bytes (record_of 2 two.r.body))),
      );
    }

-- what is opened with one block more
opened_more : (at : ℕ) (r : Record) (log : LogContent) (before after : BlocksValue) → AreOpened log before.stored before.entries → (is : IsGrownBy (at + 6) r before after)
    → AreBlocks after.stored after.entries → at ≡ 14 + length log.specification + size_of_all (record_of 2 log.genesis ∷ log.records)
    → AreOpened (grown log r is.block) after.stored after.entries
opened_more at r log before after so_far is are next =
    let it : Stored = record { block = is.block; ext = is.ext } in
    let front : List Record = record_of 2 log.genesis ∷ log.records in
    let start : ℕ = 14 + length log.specification in
    let other : is_of_edition r ≡ false = block_is_other (blocks_of before.stored) r is.block is.is in
    let more : of_blocks (log.records ++ r ∷ []) ≡ of_blocks log.records ++ r ∷ [] = blocks_of_more log.records r other in
    let named : NamesBody (start + size_of_all front + 6) r is.entry = record { at = is.named.at ∙ omega (arith, next); len = is.named.len } in
    let blocks_are : blocks_of after.stored ≡ log.blocks ++ is.block ∷ [] =
    ap blocks_of is.stored ∙ blocks-push before.stored it ∙ ap (λ (l : List Block). l ++ is.block ∷ []) so_far.blocks in
    record {
      blocks = blocks_are;
      exts = ap (map (λ (x : Stored). x.ext)) is.stored ∙ map_push (λ (x : Stored). x.ext) before.stored it
          ∙ (λ i. so_far.exts i ++ is.holds.beside i ∷ []) ∙ ap (λ (l : List (List ℕ)). [] ∷ l) (sym (map_push ext_in (of_blocks log.records) r))
          ∙ ap (λ (l : List Record). [] ∷ map ext_in l) (sym more);
      fits = All-push HasFittingBody log.records r so_far.fits is.fits;
      indexed = subst (λ (l : List Block). IndexesBlocks l after.entries) blocks_are are.indexed;
      named = subst (NameBodies start (front ++ r ∷ [])) (sym is.entries) (names-push start front before.entries r is.entry other so_far.named named);
      held = ap (λ (l : List Record). record_of 2 log.genesis ∷ l) more ∙ ap (λ (x : Record). record_of 2 log.genesis ∷ (of_blocks log.records ++ x ∷ [])) is.holds.is
          ∙ kept-push (record_of 2 log.genesis) (of_blocks log.records) before.stored it so_far.held ∙ sym (ap kept_records is.stored);
    }

-- and with the edition
opened_edited : (r : Record) (log : LogContent) (before after : BlocksValue) → AreOpened log before.stored before.entries → is_edition r ≡ true → after ≡ before
    → AreOpened (edited log r) after.stored after.entries
opened_edited r log before after so_far edition is =
    let kind : is_of_edition r ≡ true = (and_parts (is_of_edition r) (eqb (length r.body) 8) edition).0 in
    let size : length r.body ≡ 8 = eqb-true (length r.body) 8 (and_parts (is_of_edition r) (eqb (length r.body) 8) edition).1 in
    let same : of_blocks (log.records ++ r ∷ []) ≡ of_blocks log.records = blocks_of_same log.records r kind in
    subst (λ (blocks : BlocksValue). AreOpened (edited log r) blocks.stored blocks.entries) (sym is) (record {
      blocks = so_far.blocks;
      exts = so_far.exts ∙ ap (λ (l : List Record). [] ∷ map ext_in l) (sym same);
      fits = All-push HasFittingBody log.records r so_far.fits (omega (arith, size));
      indexed = so_far.indexed;
      named = names-pass (14 + length log.specification) (record_of 2 log.genesis ∷ log.records) before.entries r kind so_far.named;
      held = ap (λ (l : List Record). record_of 2 log.genesis ∷ l) same ∙ so_far.held;
    })

-- a reader that went over a record, after which the records say this
module _ (log : List ℕ) (spec : Specification) (old new : ReaderValue) (before after : ReadValue) (so_far : HasReadLog log spec old before) (r : Record)
    (there : record_at (drop old.at log) ≡ Some r) (at : IsAt old.len (old.at + length (record_bytes r)) new) (reading : IsReading log new) where
  read_on : (blocks : List Block)
      → let content : LogContent = record { specification = so_far.log.specification; genesis = so_far.log.genesis; records = so_far.log.records ++ r ∷ []; blocks = blocks } in
      content_of_records (so_far.records ++ r ∷ []) ≡ Some content → edition_of content.records ≡ after.edition
      → AreOpened content after.blocks.stored after.blocks.entries → length blocks ≡ length (of_blocks content.records) + 1 → HasReadLog log spec new after
  read_on blocks says told opened counted = record {
    reading = reading;
    within = omega (arith, at.at, still_within log old.at r there);
    records = so_far.records ++ r ∷ [];
    split = split_more (records_of (drop 8 log)) so_far.records log old.at r so_far.split there
        ∙ ap (λ (n : ℕ). (so_far.records ++ r ∷ []) ++ records_of (drop n log)) (sym at.at);
    place = omega (arith, at.at, so_far.place, size-push so_far.records r);
    log = record { specification = so_far.log.specification; genesis = so_far.log.genesis; records = so_far.log.records ++ r ∷ []; blocks = blocks };
    says = says;
    specified = so_far.specified;
    told = told;
    opened = opened;
    counted = counted;
    next = omega (arith, at.at, so_far.next, size-push (record_of 2 so_far.log.genesis ∷ so_far.log.records) r);
  }

pub one_more_read : (log : List ℕ) (spec : Specification) (old new : ReaderValue) (before after : ReadValue) → HasReadLog log spec old before
    → HasPassed log (λ r. IsTakenFrom (old.at + 6) r before after) old new → AreBlocks after.blocks.stored after.blocks.entries → IsReading log new → HasReadLog log spec new after
one_more_read log spec old new before after so_far passed are reading = by_kind passed.is
  where
    r : Record
    r = passed.r

    kept : List Block
    kept = so_far.log.blocks

    by_kind : IsTakenFrom (old.at + 6) r before after → HasReadLog log spec new after
    by_kind (inl (is, same)) =
        let opened = opened_more old.at r so_far.log before.blocks after.blocks so_far.opened is are so_far.next in
        let found : block_of_record kept r ≡ Some is.block = subst (λ (l : List Block). block_of_record l r ≡ Some is.block) so_far.opened.blocks is.is in
        let other : is_of_edition r ≡ false = block_is_other kept r is.block found in
        let room : length (of_blocks so_far.log.records) < record_limit =
        omega (arith, limit_is, kept_limit_is, are.few, as_many after.blocks.stored, ap length opened.blocks, length_push kept is.block, so_far.counted) in
        let count : length (kept ++ is.block ∷ []) ≡ length (of_blocks (so_far.log.records ++ r ∷ [])) + 1 =
        omega (
          arith,
          length_push kept is.block,
          ap length (blocks_of_more so_far.log.records r other),
          length_push (of_blocks so_far.log.records) r,
          so_far.counted,
        ) in
        read_on log spec old new before after so_far r passed.there passed.at reading (kept ++ is.block ∷ [])
        (adds_a_block so_far.records r so_far.log is.block so_far.says found room) ((editions_are_kept so_far.log.records r).same other ∙ so_far.told ∙ sym same) opened count
    by_kind (inr is) =
        let none : edition_of so_far.log.records ≡ None = so_far.told ∙ is.first in
        let kind : is_of_edition r ≡ true = (and_parts (is_of_edition r) (eqb (length r.body) 8) is.is).0 in
        read_on log spec old new before after so_far r passed.there passed.at reading kept (adds_an_edition so_far.records r so_far.log so_far.says none is.is)
        ((editions_are_kept so_far.log.records r).told kind none ∙ sym is.edition) (opened_edited r so_far.log before.blocks after.blocks so_far.opened is.is is.blocks)
        (so_far.counted ∙ ap (λ (l : List Record). length l + 1) (sym (blocks_of_same so_far.log.records r kind)))

-- where a misplaced record stands, the records after the genesis stop being those of a log
stops_misplaced : (kept : List Block) (edition : Option ℕ) (place : ℕ) (r : Record) (more : List Record) → IsMisplaced kept edition r
    → stop_of_later kept (is_none edition) place (r ∷ more) ≡ place + 6
stops_misplaced kept edition place r more (inl (is, wrong)) = stops_at_edition kept (is_none edition) place r more is wrong
stops_misplaced kept edition place r more (inr (other, wrong)) = stops_at_block kept (is_none edition) place r more other wrong

pub wrong_here : (log : List ℕ) (spec : Specification) (reader : ReaderValue) (read : ReadValue) (at : ℕ) → HasReadLog log spec reader read
    → IsWrongHere log (blocks_of read.blocks.stored) read.edition reader at → IsNoContentFrom log at
wrong_here log spec reader read at so_far here =
    let wrong : IsMisplaced so_far.log.blocks (edition_of so_far.log.records) here.r =
    subst (λ (edition : Option ℕ). IsMisplaced so_far.log.blocks edition here.r) (sym so_far.told)
    (subst (λ (l : List Block). IsMisplaced l read.edition here.r) so_far.opened.blocks here.wrong) in
    let more : List Record = records_of (drop (reader.at + length (record_bytes here.r)) log) in
    let split : records_of (drop 8 log) ≡ so_far.records ++ (here.r ∷ more) =
    split_here (records_of (drop 8 log)) so_far.records log reader.at here.r so_far.split here.there in
    let stop : stop_of_records 8 (records_of (drop 8 log)) ≡ 8 + size_of_all so_far.records + 6 =
    ap (stop_of_records 8) split ∙ stops_past so_far.records (here.r ∷ more) so_far.log so_far.says
    ∙ stops_misplaced so_far.log.blocks (edition_of so_far.log.records) (8 + size_of_all so_far.records) here.r more wrong in
    record {
      none = ap content_of_records split ∙ wrong_behind so_far.records here.r more so_far.log so_far.says so_far.counted wrong;
      stops = here.at ∙ omega (arith, so_far.place) ∙ sym stop;
    }

pub not_specified : (log : List ℕ) (reader : ReaderValue) (at : ℕ) → reader.at ≡ 8 → IsOtherHere log is_specification reader at → IsNoContentFrom log at
not_specified log reader at start wrong = by_found (record_at (drop reader.at log)) refl wrong
  where
    all : records_of (drop 8 log) ≡ records_of (drop reader.at log)
    all = ap (λ (n : ℕ). records_of (drop n log)) (sym start)

    by_found : (o : Option Record) → record_at (drop reader.at log) ≡ o → IsOther is_specification reader.at at o → IsNoContentFrom log at
    by_found None is here =
        let none : records_of (drop 8 log) ≡ [] = split_end (records_of (drop 8 log)) [] log reader.at all is in
        record { none = ap content_of_records none; stops = here ∙ start ∙ sym (ap (stop_of_records 8) none) }
    by_found (Some r) is here =
        let more : List Record = records_of (drop (reader.at + length (record_bytes r)) log) in
        let split : records_of (drop 8 log) ≡ r ∷ more = split_here (records_of (drop 8 log)) [] log reader.at r all is in
        record {
          none = ap content_of_records split ∙ not_first r more here.0;
          stops = here.1 ∙ omega (arith, start) ∙ sym (ap (stop_of_records 8) split ∙ at_specification 8 r more here.0);
        }

-- that it is of a specification
abbrev pub OfSpec : Specification → Record → Type 0
OfSpec spec r = (is_specification r ≡ true) × (spec ≡ specification_of r.body)

pub no_genesis : (log : List ℕ) (spec : Specification) (first second : ReaderValue) (at : ℕ) → first.at ≡ 8 → HasPassed log (OfSpec spec) first second
    → IsOtherHere log is_genesis second at → IsNoContentFrom log at
no_genesis log spec first second at start one wrong = by_found (record_at (drop second.at log)) refl wrong
  where
    there : second.at ≡ 8 + length (record_bytes one.r)
    there = omega (arith, one.at.at, start)

    all : records_of (drop 8 log) ≡ (one.r ∷ []) ++ records_of (drop second.at log)
    all =
        split_more (records_of (drop 8 log)) [] log first.at one.r (ap (λ (n : ℕ). records_of (drop n log)) (sym start)) one.there
        ∙ ap (λ (n : ℕ). one.r ∷ records_of (drop n log)) (sym one.at.at)

    by_found : (o : Option Record) → record_at (drop second.at log) ≡ o → IsOther is_genesis second.at at o → IsNoContentFrom log at
    by_found None is here =
        let none : records_of (drop 8 log) ≡ one.r ∷ [] = split_end (records_of (drop 8 log)) (one.r ∷ []) log second.at all is in
        record {
          none = ap content_of_records none;
          stops = here ∙ there ∙ sym (ap (stop_of_records 8) none ∙ past_specification 8 one.r [] one.is.0);
        }
    by_found (Some r) is here =
        let more : List Record = records_of (drop (second.at + length (record_bytes r)) log) in
        let split : records_of (drop 8 log) ≡ one.r ∷ r ∷ more = split_here (records_of (drop 8 log)) (one.r ∷ []) log second.at r all is in
        record {
          none = ap content_of_records split ∙ not_next one.r r more here.0;
          stops = here.1 ∙ ap (λ (n : ℕ). n + 6) there
              ∙ sym (ap (stop_of_records 8) split ∙ past_specification 8 one.r (r ∷ more) one.is.0 ∙ at_genesis (8 + length (record_bytes one.r)) r more here.0);
        }

-- ---- The whole log

pub no_content : (log : List ℕ) (at : ℕ) → take 8 log ≡ magic → IsNoContentFrom log at → IsNoLogFrom log at
unfolding log_of
no_content log at begins nothing = record {
  none = ap (λ (o : Option LogContent). cond (bytes_eq (take 8 log) magic) o None) nothing.none ∙ if_none (bytes_eq (take 8 log) magic);
  stops = nothing.stops ∙ sym (stops_in_records log begins);
}

pub no_start : (log : List ℕ) (at : ℕ) → (take 8 log ≡ magic → ⊥) × (at ≡ 0) → IsNoLogFrom log at
unfolding log_of
no_start log at wrong = record { none = by_test (bytes_eq (take 8 log) magic) refl; stops = wrong.1 ∙ sym (stops_at_start log wrong.0) }
  where
    by_test : (t : Bool) → bytes_eq (take 8 log) magic ≡ t → cond t (content_of_records (records_of (drop 8 log))) None ≡ None
    by_test false is = refl
    by_test true is = absurd (wrong.0 ((bytes_decides (take 8 log) magic).0 is))

says_all : (log : List ℕ) (spec : Specification) (reader : ReaderValue) (read : ReadValue) (all : HasReadAll log spec reader read) → records_of (drop 8 log) ≡ all.so_far.records
says_all log spec reader read all = split_end (records_of (drop 8 log)) all.so_far.records log reader.at all.so_far.split all.ended

pub opened_all : (log : List ℕ) (spec : Specification) (reader : ReaderValue) (read : ReadValue) → take 8 log ≡ magic → HasReadAll log spec reader read
    → (content : LogContent) × IsOpened log content (with_edition read.edition spec) read.blocks.stored read.blocks.entries
unfolding log_of
opened_all log spec reader read begins all =
    let far = all.so_far in
    let says : content_of_records (records_of (drop 8 log)) ≡ Some far.log = ap content_of_records (says_all log spec reader read all) ∙ far.says in
    let test : bytes_eq (take 8 log) magic ≡ true = (bytes_decides (take 8 log) magic).1 begins in (
      far.log,
      record {
        is_log = ap (λ (t : Bool). cond t (content_of_records (records_of (drop 8 log))) None) test ∙ says;
        says = says;
        specified = (λ i. with_edition (sym far.told i) (far.specified i));
        opened = far.opened;
      },
    )

pub ends_all : (log : List ℕ) (spec : Specification) (reader : ReaderValue) (read : ReadValue) → take 8 log ≡ magic → HasReadAll log spec reader read
    → EndsAt reader.at (records_of (drop 8 log)) log
unfolding end_of_log
ends_all log spec reader read begins all = record {
  begins = begins;
  holds = refl;
  ends = ap (λ (l : List Record). 8 + size_of_all l) (says_all log spec reader read all) ∙ sym all.so_far.place;
  there = all.so_far.within;
}

-- ---- The loop over the records after the genesis

-- whatever specification was read
pub with_each : (reads : Option Image) (P : Specification → Image → Type 0) → ((spec : Specification) → IfSome reads (P spec))
    → IfSome reads (λ image. (spec : Specification) → P spec image)
with_each None P each = tt
with_each (Some image) P each = each

module _ (spec : Specification) (r0 r1 : ReaderValue) (b0 b1 : ReadValue) where
  -- what was read so far
  abbrev pub SoFar : Option Image → Type 0
  SoFar reads = IfSome reads (λ image. HasReadLog image.log spec r0 b0 → HasReadLog image.log spec r1 b1)

  pub told_wrong : (reads later : Option Image) (at : ℕ) → later ≡ reads → SoFar reads
      → IfSome later (λ image. IsReading image.log r1 → IsWrongHere image.log (blocks_of b1.blocks.stored) b1.edition r1 at)
      → IfSome reads (λ image. HasReadLog image.log spec r0 b0 → IsNoContentFrom image.log at)
  told_wrong None later at same so_far wrong = tt
  told_wrong (Some image) later at same so_far wrong = λ start.
      let far = so_far start in
      let here = subst (λ (o : Option Image). IfSome o (λ image. IsReading image.log r1 → IsWrongHere image.log (blocks_of b1.blocks.stored) b1.edition r1 at)) same wrong in
      wrong_here image.log spec r1 b1 at far (here far.reading)

  pub told_more : (reads later : Option Image) (r2 : ReaderValue) (b2 : ReadValue) (E : Type 0) → E → later ≡ reads → SoFar reads
      → IfSome later (λ image. IsReading image.log r1 → IsReading image.log r2)
      → IfSome later (λ image. IsReading image.log r1 → E → HasPassed image.log (λ r. IsTakenFrom (r1.at + 6) r b1 b2) r1 r2)
      → AreBlocks b2.blocks.stored b2.blocks.entries → IfSome reads (λ image. HasReadLog image.log spec r0 b0 → HasReadLog image.log spec r2 b2)
  told_more None later r2 b2 E e same so_far goes passed are = tt
  told_more (Some image) later r2 b2 E e same so_far goes passed are = λ start.
      let far = so_far start in
      let on = subst (λ (o : Option Image). IfSome o (λ image. IsReading image.log r1 → IsReading image.log r2)) same goes in
      let over =
      subst (λ (o : Option Image). IfSome o (λ image. IsReading image.log r1 → E → HasPassed image.log (λ r. IsTakenFrom (r1.at + 6) r b1 b2) r1 r2)) same passed in
      one_more_read image.log spec r1 r2 b1 b2 far (over far.reading e) are (on far.reading)

  pub told_all : (reads later : Option Image) (r2 : ReaderValue) (b2 : ReadValue) (E : Type 0) → E → later ≡ reads → SoFar reads
      → IfSome later (λ image. IsReading image.log r1 → IsReading image.log r2)
      → IfSome later (λ image. IsReading image.log r1 → E → record_at (drop r1.at image.log) ≡ None)
      → IfSome later (λ image. IsReading image.log r1 → E → r1.at < r1.len → 0 < length r2.ahead)
      → IsAt r1.len r1.at r2 → b2 ≡ b1 → IfSome reads (λ image. HasReadLog image.log spec r0 b0 → HasReadAll image.log spec r2 b2)
  told_all None later r2 b2 E e same so_far goes none byte at is = tt
  told_all (Some image) later r2 b2 E e same so_far goes none byte at is = λ start.
      let far = so_far start in
      let on = subst (λ (o : Option Image). IfSome o (λ image. IsReading image.log r1 → IsReading image.log r2)) same goes in
      let ended = subst (λ (o : Option Image). IfSome o (λ image. IsReading image.log r1 → E → record_at (drop r1.at image.log) ≡ None)) same none in
      let there = subst (λ (o : Option Image). IfSome o (λ image. IsReading image.log r1 → E → r1.at < r1.len → 0 < length r2.ahead)) same byte in
      record {
        so_far = record {
          reading = on far.reading;
          within = omega (arith, far.within, at.at);
          records = far.records;
          split = far.split ∙ ap (λ (n : ℕ). far.records ++ records_of (drop n image.log)) (sym at.at);
          place = at.at ∙ far.place;
          log = far.log;
          says = far.says;
          specified = far.specified;
          told = far.told ∙ ap (λ (b : ReadValue). b.edition) (sym is);
          opened = subst (λ (b : ReadValue). AreOpened far.log b.blocks.stored b.blocks.entries) (sym is) far.opened;
          counted = far.counted;
          next = at.at ∙ far.next;
        };
        ended = ap (λ (n : ℕ). record_at (drop n image.log)) at.at ∙ ended far.reading e;
        byte = there far.reading e (omega (arith, far.within, far.reading.len));
      }
