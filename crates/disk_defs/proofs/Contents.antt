-- What the records of a log say.
use Rattle.std.proofs.Common.{◌≡◌, ℕ, suc, ◌+◌, ◌≤◌, Bool, true, false, cond, leb, List, [], ◌∷◌, ◌++◌, length, take, drop, Option, Some, None, refl, sym, ap, ◌∙◌, subst, arith}
use Rattle.std.specs.Prelude.{◌&&◌, ◌==◌, not, is_none}
use Rattle.std.specs.Option.{option_map, option_and_then}
use Rattle.std.specs.Str.{bytes_eq}
use Rattle.std.specs.Int.{w32, to_le_bytes}
use Rattle.std.proofs.lemmas.Bool.{le-leb, leb-true, eqb-true, and_from, and_parts}
use Rattle.std.proofs.lemmas.List.Elements.{filter-append}
use Rattle.std.proofs.lemmas.List.{append-nil, length-append, take_at, drop_at, drop-drop, length_push}
use Rattle.std.proofs.lemmas.Nat.{from_le_bytes-to_le_bytes_4, from_le_bytes-to_le_bytes_8}
use Rattle.std.specs.Cmp.Lexicographic.{bytes_decides}
use Rattle.chain_defs.specs.Shape.{decoded}
use Rattle.chain_defs.specs.Schema.{Block, block}
use Rattle.chain_defs.specs.Specification.{broken_specification_rule}
use Rattle.rule_defs.specs.Genesis.{broken_by, broken_genesis_rule}
use Rattle.chain_defs.specs.Kept.{block_list, blocks_of_item}
use Rattle.chain_defs.specs.Ext.{count_at}
use Rattle.disk_defs.specs.Log.{Record, LogContent, record_limit, records_of, magic, log_of, content_of_records, are_first, blocks_over, block_if, block_of_parts, block_of_record, body_of_parts, parts_of_body, is_of_edition, of_editions, of_blocks, at_most_one, first_epoch, may_be_later}
use Rattle.disk_defs.specs.Rest.{EndsAt}
use Rattle.disk_defs.specs.LogLaws.{GivesTheParts, SaysItsRecords, IsSaidBy, SaysByParts, AddsABlock, AddsAnEdition, EditionsAreKept, EpochIsTold, BeginsWell, grown, edited}

pub gives_the_parts : GivesTheParts
unfolding parts_of_body
gives_the_parts item ext fits =
    let n : ℕ = length item in
    let body : List ℕ = body_of_parts item ext in
    let size : count_at body 0 ≡ n = from_le_bytes-to_le_bytes_4 n fits in
    let long : length body ≡ 4 + n + length ext = omega (arith, length-append (to_le_bytes w32 n ++ item) ext, length-append (to_le_bytes w32 n) item) in
    let test : (leb 4 (length body) && leb (4 + count_at body 0) (length body)) ≡ true =
    and_from (leb 4 (length body)) (leb (4 + count_at body 0) (length body)) (le-leb 4 (length body) (omega (arith, long))) (le-leb (4 + count_at body 0) (length body) (omega (arith, size, long))) in
    let first : take (count_at body 0) (drop 4 body) ≡ item = ap (λ (k : ℕ). take k (drop 4 body)) size ∙ take_at item ext n refl in
    let rest : drop (4 + n) body ≡ ext = sym (drop-drop n 4 body) ∙ drop_at item ext n refl in
    let second : drop (4 + count_at body 0) body ≡ ext = ap (λ (k : ℕ). drop (4 + k) body) size ∙ rest in
    ap (λ (b : Bool). cond b (Some (take (count_at body 0) (drop 4 body), drop (4 + count_at body 0) body)) None) test
    ∙ (λ i. Some (first i, second i))

pub says_its_records : SaysItsRecords
unfolding log_of
says_its_records place records bytes rest =
    let test : bytes_eq (take 8 bytes) magic ≡ true = (bytes_decides (take 8 bytes) magic).1 rest.begins in
    ap (λ (b : Bool). cond b (content_of_records (records_of (drop 8 bytes))) None) test ∙ ap content_of_records rest.holds

-- one block more after the others
blocks-push : (kept : List Block) (records : List Record) (r : Record) (all : List Block) (b : Block) → blocks_over kept records ≡ Some all
    → block_of_record all r ≡ Some b → blocks_over kept (records ++ r ∷ []) ≡ Some (all ++ b ∷ [])
blocks-push kept [] r all b over stands =
    let same : kept ≡ all = (cc) in
    let here : block_of_record kept r ≡ Some b = subst (λ (l : List Block). block_of_record l r ≡ Some b) (sym same) stands in
    ap (option_and_then (λ x. Some (kept ++ x ∷ []))) here ∙ ap (λ (l : List Block). Some (l ++ b ∷ [])) same
blocks-push kept (first ∷ records) r all b over stands = by_found (λ x. blocks-push (kept ++ x ∷ []) records r all b) (block_of_record kept first) refl over
  where
    by_found : ((x : Block) → blocks_over (kept ++ x ∷ []) records ≡ Some all → block_of_record all r ≡ Some b
        → blocks_over (kept ++ x ∷ []) (records ++ r ∷ []) ≡ Some (all ++ b ∷ [])) → (o : Option Block) → block_of_record kept first ≡ o → option_and_then (λ x. blocks_over (kept ++ x ∷ []) records) o ≡ Some all
        → blocks_over kept (first ∷ records ++ r ∷ []) ≡ Some (all ++ b ∷ [])
    by_found again None is over = absurd (cc)
    by_found again (Some x) is over = ap (option_and_then (λ x. blocks_over (kept ++ x ∷ []) (records ++ r ∷ []))) is ∙ again x over stands

abbrev pub said : Record → Record → List Record → Option (List Block) → Option LogContent
said one two records blocks = option_map (λ blocks. record { specification = one.body; genesis = two.body; records = records; blocks = blocks }) blocks

-- ---- What they say, by its parts

said_parts : (records : List Record) (log : LogContent) → content_of_records records ≡ Some log → IsSaidBy records log
said_parts [] log says = absurd (cc)
said_parts (one ∷ []) log says = absurd (cc)
said_parts (one ∷ two ∷ records) log says = by_test (are_first one two && may_be_later records) refl says
  where
    by_blocks : are_first one two ≡ true → may_be_later records ≡ true → (o : Option (List Block)) → blocks_over (blocks_of_item two.body) (of_blocks records) ≡ o
        → said one two records o ≡ Some log → IsSaidBy (one ∷ two ∷ records) log
    by_blocks first later None is says = absurd (cc)
    by_blocks first later (Some blocks) is says =
        let content : LogContent = record { specification = one.body; genesis = two.body; records = records; blocks = blocks } in
        let same : content ≡ log = (cc) in
        let parts = and_parts (leb (length (of_blocks records)) record_limit) (at_most_one (of_editions records)) later in
        subst (IsSaidBy (one ∷ two ∷ records)) same (record {
          one = one;
          two = two;
          all = refl;
          first = first;
          specification = refl;
          genesis = refl;
          room = leb-true (length (of_blocks records)) record_limit parts.0;
          once = parts.1;
          over = is;
        })

    by_test : (t : Bool) → (are_first one two && may_be_later records) ≡ t
        → cond t (said one two records (blocks_over (blocks_of_item two.body) (of_blocks records))) None ≡ Some log → IsSaidBy (one ∷ two ∷ records) log
    by_test false is says = absurd (cc)
    by_test true is says =
        let both = and_parts (are_first one two) (may_be_later records) is in
        by_blocks both.0 both.1 (blocks_over (blocks_of_item two.body) (of_blocks records)) refl says

parts_say : (records : List Record) (log : LogContent) → IsSaidBy records log → content_of_records records ≡ Some log
parts_say records log is =
    let one : Record = is.one in
    let two : Record = is.two in
    let later : may_be_later log.records ≡ true =
    and_from (leb (length (of_blocks log.records)) record_limit) (at_most_one (of_editions log.records)) (le-leb (length (of_blocks log.records)) record_limit is.room) is.once in
    let test : (are_first one two && may_be_later log.records) ≡ true = and_from (are_first one two) (may_be_later log.records) is.first later in
    let over : blocks_over (blocks_of_item two.body) (of_blocks log.records) ≡ Some log.blocks =
    ap (λ (item : List ℕ). blocks_over (blocks_of_item item) (of_blocks log.records)) is.genesis ∙ is.over in
    ap content_of_records is.all
    ∙ ap (λ (t : Bool). cond t (said one two log.records (blocks_over (blocks_of_item two.body) (of_blocks log.records))) None) test
    ∙ ap (said one two log.records) over
    ∙ (λ i. Some (record { specification = is.specification i; genesis = is.genesis i; records = log.records; blocks = log.blocks }))

pub says_by_parts : SaysByParts
says_by_parts records log = (said_parts records log, parts_say records log)

-- ---- The edition among records

pub blocks_of_more : (records : List Record) (r : Record) → is_of_edition r ≡ false → of_blocks (records ++ r ∷ []) ≡ of_blocks records ++ r ∷ []
blocks_of_more records r other =
    filter-append (λ (x : Record). not (is_of_edition x)) records (r ∷ [])
    ∙ ap (λ (t : Bool). of_blocks records ++ cond (not t) (r ∷ []) []) other

pub blocks_of_same : (records : List Record) (r : Record) → is_of_edition r ≡ true → of_blocks (records ++ r ∷ []) ≡ of_blocks records
blocks_of_same records r is =
    filter-append (λ (x : Record). not (is_of_edition x)) records (r ∷ [])
    ∙ ap (λ (t : Bool). of_blocks records ++ cond (not t) (r ∷ []) []) is
    ∙ append-nil (of_blocks records)

pub editions_of_same : (records : List Record) (r : Record) → is_of_edition r ≡ false → of_editions (records ++ r ∷ []) ≡ of_editions records
editions_of_same records r other =
    filter-append is_of_edition records (r ∷ []) ∙ ap (λ (t : Bool). of_editions records ++ cond t (r ∷ []) []) other ∙ append-nil (of_editions records)

pub editions_of_more : (records : List Record) (r : Record) → is_of_edition r ≡ true → of_editions (records ++ r ∷ []) ≡ of_editions records ++ r ∷ []
editions_of_more records r is =
    filter-append is_of_edition records (r ∷ []) ∙ ap (λ (t : Bool). of_editions records ++ cond t (r ∷ []) []) is

-- where no epoch is the first, there is none
pub no_edition : (editions : List Record) → first_epoch editions ≡ None → editions ≡ []
no_edition [] none = refl
no_edition (r ∷ more) none = absurd (cc)

-- a record of a block is none of an edition
pub block_is_other : (kept : List Block) (r : Record) (b : Block) → block_of_record kept r ≡ Some b → is_of_edition r ≡ false
block_is_other kept r b is = by_kind (r.kind == 3) refl is
  where
    by_kind : (t : Bool) → (r.kind == 3) ≡ t → block_if t (block_of_parts kept (parts_of_body r.body)) ≡ Some b → is_of_edition r ≡ false
    by_kind false kind found = absurd (cc)
    by_kind true kind found = ap (λ (n : ℕ). n == 4) (eqb-true r.kind 3 kind)

pub adds_a_block : AddsABlock
adds_a_block records r log b says stands below =
    let is : IsSaidBy records log = said_parts records log says in
    let other : is_of_edition r ≡ false = block_is_other log.blocks r b stands in
    parts_say (records ++ r ∷ []) (grown log r b) (record {
      one = is.one;
      two = is.two;
      all = ap (λ (l : List Record). l ++ r ∷ []) is.all;
      first = is.first;
      specification = is.specification;
      genesis = is.genesis;
      room = omega (arith, ap length (blocks_of_more log.records r other), length_push (of_blocks log.records) r, below);
      once = ap at_most_one (editions_of_same log.records r other) ∙ is.once;
      over = ap (blocks_over (blocks_of_item log.genesis)) (blocks_of_more log.records r other)
          ∙ blocks-push (blocks_of_item log.genesis) (of_blocks log.records) r log.blocks b is.over stands;
    })

pub adds_an_edition : AddsAnEdition
adds_an_edition records r log says none edition =
    let is : IsSaidBy records log = said_parts records log says in
    let kind : is_of_edition r ≡ true = (and_parts (is_of_edition r) (length r.body == 8) edition).0 in
    let alone : of_editions (log.records ++ r ∷ []) ≡ r ∷ [] =
    editions_of_more log.records r kind ∙ ap (λ (l : List Record). l ++ r ∷ []) (no_edition (of_editions log.records) none) in
    parts_say (records ++ r ∷ []) (edited log r) (record {
      one = is.one;
      two = is.two;
      all = ap (λ (l : List Record). l ++ r ∷ []) is.all;
      first = is.first;
      specification = is.specification;
      genesis = is.genesis;
      room = omega (arith, ap length (blocks_of_same log.records r kind), is.room);
      once = ap at_most_one alone ∙ edition;
      over = ap (blocks_over (blocks_of_item log.genesis)) (blocks_of_same log.records r kind) ∙ is.over;
    })

pub editions_are_kept : EditionsAreKept
editions_are_kept records r = record {
  same = λ other. ap first_epoch (editions_of_same records r other);
  told = λ is none. ap first_epoch (editions_of_more records r is ∙ ap (λ (l : List Record). l ++ r ∷ []) (no_edition (of_editions records) none));
}

pub epoch_is_told : EpochIsTold
epoch_is_told epoch fits = (refl, from_le_bytes-to_le_bytes_8 epoch fits)

pub ends_say : (place : ℕ) (records : List Record) (bytes : List ℕ) → EndsAt place records bytes → log_of bytes ≡ content_of_records records
unfolding log_of
ends_say place records bytes end =
    let test : bytes_eq (take 8 bytes) magic ≡ true = (bytes_decides (take 8 bytes) magic).1 end.begins in
    ap (λ (b : Bool). cond b (content_of_records (records_of (drop 8 bytes))) None) test ∙ ap content_of_records end.holds

-- ---- How it begins, and how many blocks it has

over-length : (kept : List Block) (records : List Record) (all : List Block) → blocks_over kept records ≡ Some all
    → length all ≡ length kept + length records
over-length kept [] all over = let same : kept ≡ all = (cc) in omega (arith, ap length same)
over-length kept (r ∷ records) all over = by_found (λ x. over-length (kept ++ x ∷ []) records all) (block_of_record kept r) over
  where
    by_found : ((x : Block) → blocks_over (kept ++ x ∷ []) records ≡ Some all → length all ≡ length (kept ++ x ∷ []) + length records)
        → (o : Option Block) → option_and_then (λ x. blocks_over (kept ++ x ∷ []) records) o ≡ Some all → length all ≡ length kept + suc (length records)
    by_found again None over = absurd (cc)
    by_found again (Some x) over = omega (arith, again x over, length_push kept x)

pub one_genesis : (item : List ℕ) → is_none (broken_genesis_rule item) ≡ true → length (blocks_of_item item) ≡ 1
unfolding broken_genesis_rule
one_genesis item good = by_block (decoded block item) good
  where
    by_block : (o : Option Block) → is_none (broken_by o) ≡ true → length (block_list o) ≡ 1
    by_block None good = absurd (cc)
    by_block (Some b) good = refl

pub good_genesis : (one two : Record) → are_first one two ≡ true → is_none (broken_genesis_rule two.body) ≡ true
good_genesis one two first =
    (and_parts ((one.kind == 1) && is_none (broken_specification_rule one.body) && (two.kind == 2)) (is_none (broken_genesis_rule two.body)) first).1

-- one more than records of blocks
pub counts_its_records : (records : List Record) (log : LogContent) → content_of_records records ≡ Some log
    → length log.blocks ≡ length (of_blocks log.records) + 1
counts_its_records records log says =
    let is : IsSaidBy records log = said_parts records log says in
    let good : is_none (broken_genesis_rule is.two.body) ≡ true = good_genesis is.one is.two is.first in
    omega (
      arith,
      over-length (blocks_of_item log.genesis) (of_blocks log.records) log.blocks is.over,
      one_genesis log.genesis (ap (λ (item : List ℕ). is_none (broken_genesis_rule item)) (sym is.genesis) ∙ good),
    )

none-of : (found : Option ℕ) → is_none found ≡ true → found ≡ None
none-of None is = refl
none-of (Some n) is = absurd (cc)

pub begins_well : BeginsWell
begins_well records log says =
    let is : IsSaidBy records log = said_parts records log says in
    let one : Record = is.one in
    let two : Record = is.two in
    let front = and_parts ((one.kind == 1) && is_none (broken_specification_rule one.body) && (two.kind == 2)) (is_none (broken_genesis_rule two.body)) is.first in
    let kinds = and_parts ((one.kind == 1) && is_none (broken_specification_rule one.body)) (two.kind == 2) front.0 in
    record {
      specification = ap broken_specification_rule (sym is.specification)
          ∙ none-of (broken_specification_rule one.body) (and_parts (one.kind == 1) (is_none (broken_specification_rule one.body)) kinds.0).1;
      genesis = ap broken_genesis_rule (sym is.genesis) ∙ none-of (broken_genesis_rule two.body) front.1;
      blocks = counts_its_records records log says;
    }
