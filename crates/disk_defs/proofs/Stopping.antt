-- Where bytes stop being a log.
use Rattle.std.proofs.Common.{◌≡◌, ◌⊎◌, inl, inr, ℕ, suc, ◌+◌, ◌<◌, ◌≤◌, Bool, true, false, cond, leb, List, [], ◌∷◌, ◌++◌, length, take, drop, Option, Some, None, refl, sym, ap, ◌∙◌, subst, arith}
use Rattle.std.specs.Prelude.{◌&&◌, ◌==◌, not, is_none}
use Rattle.std.specs.Option.{option_and_then}
use Rattle.std.specs.Str.{bytes_eq}
use Rattle.std.specs.Cmp.Lexicographic.{bytes_decides}
use Rattle.std.proofs.lemmas.Bool.{le-leb, leb-true, and_from, and_parts}
use Rattle.std.proofs.lemmas.List.{append-nil, length-append, length_push}
use Rattle.chain_defs.specs.Schema.{Block}
use Rattle.chain_defs.specs.Kept.{blocks_of_item}
use Rattle.rule_defs.specs.Genesis.{broken_genesis_rule}
use Rattle.disk_defs.proofs.Contents.{says_by_parts, one_genesis, good_genesis}
use Rattle.disk_defs.specs.LogLaws.{IsSaidBy, StopsAtItsEnd}
use Rattle.disk_defs.specs.Log.{Record, LogContent, content_of_records, log_of, end_of_log, record_bytes, all_record_bytes, records_of, magic, record_limit, block_if, block_of_record, blocks_over, is_specification, is_genesis, is_of_edition, is_edition, of_editions, of_blocks, at_most_one, first_epoch, edition_of, stop_of_later, stop_of_genesis, stop_of_records, stop_of_log}

-- ---- Records after the genesis

abbrev then_blocks : List Block → Bool → ℕ → Record → List Record → Option Block → ℕ
then_blocks kept may place r records found = elim found [
  | None ↦ place + 6
  | Some b ↦ stop_of_later (kept ++ b ∷ []) may (place + length (record_bytes r)) records
]

abbrev at_edition : List Block → Bool → ℕ → Record → List Record → ℕ
at_edition kept may place r records = cond (may && is_edition r) (stop_of_later kept false (place + length (record_bytes r)) records) (place + 6)

-- records of editions that may come, where one may
abbrev may_come : Bool → List Record → Bool
may_come may [] = true
may_come may (r ∷ more) = (may && is_edition r) && may_come false more

-- whether one may come after them
abbrev may_follow : Bool → List Record → Bool
may_follow may [] = may
may_follow may (r ∷ more) = false

once_comes : (editions : List Record) → at_most_one editions ≡ true → may_come true editions ≡ true
once_comes [] once = refl
once_comes (r ∷ []) once = and_from (is_edition r) true once refl
once_comes (r ∷ other ∷ more) once = absurd (cc)

follows_none : (editions : List Record) → may_follow true editions ≡ is_none (first_epoch editions)
follows_none [] = refl
follows_none (r ∷ more) = refl

never_follows : (editions : List Record) → may_follow false editions ≡ false
never_follows [] = refl
never_follows (r ∷ more) = refl

-- after records that are not wrong
pub stops_after : (kept : List Block) (may : Bool) (place : ℕ) (records more : List Record) (all : List Block) → blocks_over kept (of_blocks records) ≡ Some all
    → may_come may (of_editions records) ≡ true → length kept + length (of_blocks records) ≤ record_limit + 1
    → stop_of_later kept may place (records ++ more) ≡ stop_of_later all (may_follow may (of_editions records)) (place + length (all_record_bytes records)) more
stops_after kept may place [] more all over come few =
    let same : kept ≡ all = (cc) in
    ap (λ (l : List Block). stop_of_later l may place more) same ∙ ap (λ (n : ℕ). stop_of_later all may n more) (omega arith)
stops_after kept may place (r ∷ records) more all over come few =
    by_kind (stops_after kept false (place + length (record_bytes r)) records more all)
    (λ x over come few. stops_after (kept ++ x ∷ []) may (place + length (record_bytes r)) records more all over come few) (is_of_edition r) refl over come few
  where
    next : ℕ
    next = place + length (record_bytes r)

    size : next + length (all_record_bytes records) ≡ place + length (all_record_bytes (r ∷ records))
    size = omega (arith, length-append (record_bytes r) (all_record_bytes records))

    by_edition : (blocks_over kept (of_blocks records) ≡ Some all → may_come false (of_editions records) ≡ true
        → length kept + length (of_blocks records) ≤ record_limit + 1
        → stop_of_later kept false next (records ++ more) ≡ stop_of_later all (may_follow false (of_editions records)) (next + length (all_record_bytes records)) more)
        → is_of_edition r ≡ true → blocks_over kept (of_blocks records) ≡ Some all → ((may && is_edition r) && may_come false (of_editions records)) ≡ true
        → length kept + length (of_blocks records) ≤ record_limit + 1
        → stop_of_later kept may place ((r ∷ records) ++ more)
        ≡ stop_of_later all (may_follow may (of_editions (r ∷ records))) (place + length (all_record_bytes (r ∷ records))) more
    by_edition again is over come few =
        let both = and_parts (may && is_edition r) (may_come false (of_editions records)) come in
        ap (λ (t : Bool). cond t (at_edition kept may place r (records ++ more)) (then_blocks kept may place r (records ++ more) (block_if (leb (length kept) record_limit) (block_of_record kept r)))) is
        ∙ ap (λ (t : Bool). cond t (stop_of_later kept false next (records ++ more)) (place + 6)) both.0
        ∙ again over both.1 few
        ∙ ap (λ (t : Bool). stop_of_later all t (next + length (all_record_bytes records)) more) (never_follows (of_editions records))
        ∙ ap (λ (n : ℕ). stop_of_later all false n more) size
        ∙ sym (ap (λ (t : Bool). stop_of_later all (may_follow may (cond t (r ∷ of_editions records) (of_editions records))) (place + length (all_record_bytes (r ∷ records))) more) is)

    by_found : ((x : Block) → blocks_over (kept ++ x ∷ []) (of_blocks records) ≡ Some all → length (kept ++ x ∷ []) + length (of_blocks records) ≤ record_limit + 1
        → stop_of_later (kept ++ x ∷ []) may next (records ++ more)
        ≡ stop_of_later all (may_follow may (of_editions records)) (next + length (all_record_bytes records)) more)
        → is_of_edition r ≡ false → leb (length kept) record_limit ≡ true → length kept + suc (length (of_blocks records)) ≤ record_limit + 1
        → (o : Option Block) → block_of_record kept r ≡ o → option_and_then (λ x. blocks_over (kept ++ x ∷ []) (of_blocks records)) o ≡ Some all
        → stop_of_later kept may place ((r ∷ records) ++ more)
        ≡ stop_of_later all (may_follow may (of_editions (r ∷ records))) (place + length (all_record_bytes (r ∷ records))) more
    by_found again other room few None is over = absurd (cc)
    by_found again other room few (Some x) is over =
        ap (λ (t : Bool). cond t (at_edition kept may place r (records ++ more)) (then_blocks kept may place r (records ++ more) (block_if (leb (length kept) record_limit) (block_of_record kept r)))) other
        ∙ ap (λ (t : Bool). then_blocks kept may place r (records ++ more) (block_if t (block_of_record kept r))) room
        ∙ ap (then_blocks kept may place r (records ++ more)) is
        ∙ again x over (omega (arith, length_push kept x, few))
        ∙ ap (λ (n : ℕ). stop_of_later all (may_follow may (of_editions records)) n more) size
        ∙ sym (ap (λ (t : Bool). stop_of_later all (may_follow may (cond t (r ∷ of_editions records) (of_editions records))) (place + length (all_record_bytes (r ∷ records))) more) other)

    by_kind : (blocks_over kept (of_blocks records) ≡ Some all → may_come false (of_editions records) ≡ true
        → length kept + length (of_blocks records) ≤ record_limit + 1
        → stop_of_later kept false next (records ++ more) ≡ stop_of_later all (may_follow false (of_editions records)) (next + length (all_record_bytes records)) more)
        → ((x : Block) → blocks_over (kept ++ x ∷ []) (of_blocks records) ≡ Some all → may_come may (of_editions records) ≡ true
        → length (kept ++ x ∷ []) + length (of_blocks records) ≤ record_limit + 1
        → stop_of_later (kept ++ x ∷ []) may next (records ++ more)
        ≡ stop_of_later all (may_follow may (of_editions records)) (next + length (all_record_bytes records)) more)
        → (t : Bool) → is_of_edition r ≡ t → blocks_over kept (cond (not t) (r ∷ of_blocks records) (of_blocks records)) ≡ Some all
        → may_come may (cond t (r ∷ of_editions records) (of_editions records)) ≡ true
        → length kept + length (cond (not t) (r ∷ of_blocks records) (of_blocks records)) ≤ record_limit + 1
        → stop_of_later kept may place ((r ∷ records) ++ more)
        ≡ stop_of_later all (may_follow may (of_editions (r ∷ records))) (place + length (all_record_bytes (r ∷ records))) more
    by_kind again each true is over come few = by_edition again is over come few
    by_kind again each false other over come few =
        by_found (λ x over few. each x over come few) other
        (le-leb (length kept) record_limit (omega (arith, few))) few (block_of_record kept r) refl over

none_of : (room : Bool) (found : Option Block) → (found ≡ None) ⊎ (room ≡ false) → block_if room found ≡ None
none_of false found wrong = refl
none_of true found (inl none) = none
none_of true found (inr full) = absurd (cc)

no_room : (count limit : ℕ) → limit < count → leb count limit ≡ false
no_room count limit over = by_test (leb count limit) refl
  where
    by_test : (t : Bool) → leb count limit ≡ t → leb count limit ≡ false
    by_test false is = is
    by_test true is = absurd (omega (arith, leb-true count limit is, over))

-- at one that holds no block which may stand there, or is one too many
pub stops_at_block : (kept : List Block) (may : Bool) (place : ℕ) (r : Record) (more : List Record) → is_of_edition r ≡ false
    → (block_of_record kept r ≡ None) ⊎ (record_limit < length kept) → stop_of_later kept may place (r ∷ more) ≡ place + 6
stops_at_block kept may place r more other wrong =
    ap (λ (t : Bool). cond t (at_edition kept may place r more) (then_blocks kept may place r more (block_if (leb (length kept) record_limit) (block_of_record kept r)))) other
    ∙ ap (then_blocks kept may place r more) (none_of (leb (length kept) record_limit) (block_of_record kept r) (either wrong))
  where
    either : (block_of_record kept r ≡ None) ⊎ (record_limit < length kept) → (block_of_record kept r ≡ None) ⊎ (leb (length kept) record_limit ≡ false)
    either (inl none) = inl none
    either (inr full) = inr (no_room (length kept) record_limit full)

-- at one of an edition that has another length, or where none may come
pub stops_at_edition : (kept : List Block) (may : Bool) (place : ℕ) (r : Record) (more : List Record) → is_of_edition r ≡ true → (may && is_edition r) ≡ false
    → stop_of_later kept may place (r ∷ more) ≡ place + 6
stops_at_edition kept may place r more is wrong =
    ap (λ (t : Bool). cond t (at_edition kept may place r more) (then_blocks kept may place r more (block_if (leb (length kept) record_limit) (block_of_record kept r)))) is
    ∙ ap (λ (t : Bool). cond t (stop_of_later kept false (place + length (record_bytes r)) more) (place + 6)) wrong

-- ---- The two first records

pub past_specification : (place : ℕ) (one : Record) (records : List Record) → is_specification one ≡ true
    → stop_of_records place (one ∷ records) ≡ stop_of_genesis (place + length (record_bytes one)) records
past_specification place one records is = ap (λ (t : Bool). cond t (stop_of_genesis (place + length (record_bytes one)) records) (place + 6)) is

pub at_specification : (place : ℕ) (one : Record) (records : List Record) → is_specification one ≡ false → stop_of_records place (one ∷ records) ≡ place + 6
at_specification place one records is = ap (λ (t : Bool). cond t (stop_of_genesis (place + length (record_bytes one)) records) (place + 6)) is

pub past_genesis : (place : ℕ) (two : Record) (records : List Record) → is_genesis two ≡ true
    → stop_of_genesis place (two ∷ records) ≡ stop_of_later (blocks_of_item two.body) true (place + length (record_bytes two)) records
past_genesis place two records is = ap (λ (t : Bool). cond t (stop_of_later (blocks_of_item two.body) true (place + length (record_bytes two)) records) (place + 6)) is

pub at_genesis : (place : ℕ) (two : Record) (records : List Record) → is_genesis two ≡ false → stop_of_genesis place (two ∷ records) ≡ place + 6
at_genesis place two records is = ap (λ (t : Bool). cond t (stop_of_later (blocks_of_item two.body) true (place + length (record_bytes two)) records) (place + 6)) is

-- ---- The whole log

pub stops_at_start : (bytes : List ℕ) → (take 8 bytes ≡ magic → ⊥) → stop_of_log bytes ≡ 0
unfolding stop_of_log
stops_at_start bytes wrong = by_test (bytes_eq (take 8 bytes) magic) refl
  where
    by_test : (t : Bool) → bytes_eq (take 8 bytes) magic ≡ t → cond t (stop_of_records 8 (records_of (drop 8 bytes))) 0 ≡ 0
    by_test false is = refl
    by_test true is = absurd (wrong ((bytes_decides (take 8 bytes) magic).0 is))

pub stops_in_records : (bytes : List ℕ) → take 8 bytes ≡ magic → stop_of_log bytes ≡ stop_of_records 8 (records_of (drop 8 bytes))
unfolding stop_of_log
stops_in_records bytes begins =
    ap (λ (t : Bool). cond t (stop_of_records 8 (records_of (drop 8 bytes))) 0) ((bytes_decides (take 8 bytes) magic).1 begins)

-- after records that say something
pub stops_past : (records more : List Record) (log : LogContent) → content_of_records records ≡ Some log
    → stop_of_records 8 (records ++ more) ≡ stop_of_later log.blocks (is_none (edition_of log.records)) (8 + length (all_record_bytes records)) more
stops_past records more log says =
    let is : IsSaidBy records log = (says_by_parts records log).0 says in
    let one : Record = is.one in
    let two : Record = is.two in
    let later : List Record = log.records in
    let size : 8 + length (record_bytes one) + length (record_bytes two) + length (all_record_bytes later) ≡ 8 + length (all_record_bytes records) =
    omega (
      arith,
      length-append (record_bytes one) (all_record_bytes (two ∷ later)),
      length-append (record_bytes two) (all_record_bytes later),
      ap (λ (l : List Record). length (all_record_bytes l)) is.all,
    ) in
    let good : is_none (broken_genesis_rule two.body) ≡ true = good_genesis one two is.first in
    let kinds = and_parts (is_specification one) (two.kind == 2)
    (and_parts (is_specification one && (two.kind == 2)) (is_none (broken_genesis_rule two.body)) is.first).0 in
    let second : is_genesis two ≡ true = and_from (two.kind == 2) (is_none (broken_genesis_rule two.body)) kinds.1 good in
    let over : blocks_over (blocks_of_item two.body) (of_blocks later) ≡ Some log.blocks =
    ap (λ (item : List ℕ). blocks_over (blocks_of_item item) (of_blocks later)) is.genesis ∙ is.over in
    let few : length (blocks_of_item two.body) + length (of_blocks later) ≤ record_limit + 1 = omega (arith, one_genesis two.body good, is.room) in
    ap (λ (l : List Record). stop_of_records 8 (l ++ more)) is.all
    ∙ past_specification 8 one (two ∷ (later ++ more)) kinds.0
    ∙ past_genesis (8 + length (record_bytes one)) two (later ++ more) second
    ∙ stops_after (blocks_of_item two.body) true (8 + length (record_bytes one) + length (record_bytes two)) later more log.blocks over
    (once_comes (of_editions later) is.once) few
    ∙ ap (λ (t : Bool). stop_of_later log.blocks t (8 + length (record_bytes one) + length (record_bytes two) + length (all_record_bytes later)) more)
    (follows_none (of_editions later))
    ∙ ap (λ (n : ℕ). stop_of_later log.blocks (is_none (edition_of later)) n more) size

-- a log stops being one where its records end
pub stops_at_its_end : StopsAtItsEnd
unfolding log_of stop_of_log end_of_log
stops_at_its_end bytes log is = by_test (bytes_eq (take 8 bytes) magic) refl is
  where
    by_test : (t : Bool) → bytes_eq (take 8 bytes) magic ≡ t → cond t (content_of_records (records_of (drop 8 bytes))) None ≡ Some log
        → cond (bytes_eq (take 8 bytes) magic) (stop_of_records 8 (records_of (drop 8 bytes))) 0 ≡ 8 + length (all_record_bytes (records_of (drop 8 bytes)))
    by_test false test is = absurd (cc)
    by_test true test is =
        ap (λ (t : Bool). cond t (stop_of_records 8 (records_of (drop 8 bytes))) 0) test
        ∙ ap (stop_of_records 8) (sym (append-nil (records_of (drop 8 bytes))))
        ∙ stops_past (records_of (drop 8 bytes)) [] log is
