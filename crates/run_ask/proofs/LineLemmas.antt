-- The lines of an input that was read line by line.
use Rattle.std.proofs.Common.{◌≡◌, ℕ, ◌+◌, ◌<◌, ◌≤◌, Bool, true, false, cond, List, [], ◌∷◌, ◌++◌, length, refl, ap, sym, ◌∙◌, subst, arith, append_assoc, length-append}
use Rattle.std.specs.Prelude.{◌==◌, not}
use Rattle.std.specs.List.{list_all}
use Rattle.std.proofs.lemmas.Bool.{and_parts, eqb-true}
use Rattle.ask_defs.specs.Lines.{line_limit, put_first, lines_of, has_no_feed, IsLine, AreLines, spelled}

-- ---- Bytes without a line feed

no_feed_first : (byte : ℕ) (bytes : List ℕ) → has_no_feed (byte ∷ bytes) → ((byte == 10) ≡ false) × has_no_feed bytes
no_feed_first byte bytes none = by_test (byte == 10) refl (and_parts (not (byte == 10)) (list_all (λ byte. not (byte == 10)) bytes) none)
  where
    by_test : (t : Bool) → (byte == 10) ≡ t → (not (byte == 10) ≡ true) × has_no_feed bytes → ((byte == 10) ≡ false) × has_no_feed bytes
    by_test true is parts = absurd (cc (sym (ap not is) ∙ parts.0))
    by_test false is parts = (is, parts.1)

pub no_feed_push : (bytes : List ℕ) (byte : ℕ) → has_no_feed bytes → (byte ≡ 10 → ⊥) → has_no_feed (bytes ++ byte ∷ [])
no_feed_push [] byte none other = by_test (byte == 10) refl
  where
    by_test : (t : Bool) → (byte == 10) ≡ t → has_no_feed (byte ∷ [])
    by_test true is = absurd (other (eqb-true byte 10 is))
    by_test false is = rw is refl
no_feed_push (b ∷ bytes) byte none other =
    let parts = no_feed_first b bytes none in
    rw (parts.0) (no_feed_push bytes byte parts.1 other)

-- ---- The lines of bytes

-- the first line, where it has a line feed
pub line_first : (line rest : List ℕ) → has_no_feed line → lines_of (line ++ 10 ∷ rest) ≡ line ∷ lines_of rest
unfolding lines_of
line_first [] rest none = refl
line_first (byte ∷ line) rest none =
    let parts = no_feed_first byte line none in
    rw (parts.0) (ap (put_first byte) (line_first line rest parts.1))

-- and where more may follow
pub line_begun : (line more : List ℕ) → has_no_feed line → 0 < length line
    → (rest : List ℕ) × (later : List (List ℕ)) × (lines_of (line ++ more) ≡ (line ++ rest) ∷ later)
unfolding lines_of
line_begun [] more none some = absurd (omega (arith, some))
line_begun (byte ∷ []) more none some =
    let parts = no_feed_first byte [] none in
    rw (parts.0) (by_lines (lines_of more) refl)
  where
    by_lines : (lines : List (List ℕ)) → lines_of more ≡ lines
        → (rest : List ℕ) × (later : List (List ℕ)) × (put_first byte (lines_of more) ≡ (byte ∷ rest) ∷ later)
    by_lines [] is = ([], [], ap (put_first byte) is)
    by_lines (first ∷ later) is = (first, later, ap (put_first byte) is)
line_begun (byte ∷ next ∷ line) more none some =
    let parts = no_feed_first byte (next ∷ line) none in
    let there = line_begun (next ∷ line) more parts.1 (omega arith) in
    rw (parts.0) (there.0, there.1, ap (put_first byte) there.2)

-- and where nothing follows
pub line_last : (line : List ℕ) → has_no_feed line → 0 < length line → lines_of line ≡ line ∷ []
unfolding lines_of
line_last [] none some = absurd (omega (arith, some))
line_last (byte ∷ []) none some = rw ((no_feed_first byte [] none).0) refl
line_last (byte ∷ next ∷ line) none some =
    let parts = no_feed_first byte (next ∷ line) none in
    rw (parts.0) (ap (put_first byte) (line_last (next ∷ line) parts.1 (omega arith)))

-- a byte begins a line
pub line_some : (byte : ℕ) (bytes : List ℕ) → (line : List ℕ) × (later : List (List ℕ)) × (lines_of (byte ∷ bytes) ≡ line ∷ later)
unfolding lines_of
line_some byte bytes = by_test (byte == 10) (lines_of bytes)
  where
    by_test : (t : Bool) (lines : List (List ℕ)) → (line : List ℕ) × (later : List (List ℕ)) × (cond t ([] ∷ lines) (put_first byte lines) ≡ line ∷ later)
    by_test true lines = ([], lines, refl)
    by_test false [] = (byte ∷ [], [], refl)
    by_test false (first ∷ later) = (byte ∷ first, later, refl)

-- ---- Lines as they stand in an input

pub spelled_push : (lines : List (List ℕ)) (line : List ℕ) → spelled (lines ++ line ∷ []) ≡ spelled lines ++ (line ++ 10 ∷ [])
spelled_push [] line = refl_end line
  where
    refl_end : (line : List ℕ) → spelled (line ∷ []) ≡ line ++ 10 ∷ []
    refl_end line = append_assoc line (10 ∷ []) [] ∙ refl
spelled_push (first ∷ lines) line =
    ap (λ (l : List ℕ). (first ++ 10 ∷ []) ++ l) (spelled_push lines line)
    ∙ sym (append_assoc (first ++ 10 ∷ []) (spelled lines) (line ++ 10 ∷ []))

pub lines_push : (lines : List (List ℕ)) (line : List ℕ) → AreLines lines → IsLine line → AreLines (lines ++ line ∷ [])
lines_push [] line all one = (one, tt)
lines_push (first ∷ lines) line all one = (all.0, lines_push lines line all.1 one)

-- the lines that they are, and then those of what follows
pub lines_spelled : (lines : List (List ℕ)) (rest : List ℕ) → AreLines lines → lines_of (spelled lines ++ rest) ≡ lines ++ lines_of rest
lines_spelled [] rest all = refl
lines_spelled (line ∷ lines) rest all =
    ap lines_of (append_assoc (line ++ 10 ∷ []) (spelled lines) rest ∙ append_assoc line (10 ∷ []) (spelled lines ++ rest))
    ∙ line_first line (spelled lines ++ rest) all.0.unbroken
    ∙ ap (λ (l : List (List ℕ)). line ∷ l) (lines_spelled lines rest all.1)

-- ---- One cutting

-- one line feed after bytes without one
same_first : (one other rest later : List ℕ) → has_no_feed one → has_no_feed other → one ++ 10 ∷ rest ≡ other ++ 10 ∷ later → (one ≡ other) × (rest ≡ later)
same_first [] [] rest later none_one none_other same = (refl, cc)
same_first [] (byte ∷ other) rest later none_one none_other same =
    let parts = no_feed_first byte other none_other in
    let feed : 10 ≡ byte = cc in
    absurd (cc (ap (λ (n : ℕ). n == 10) feed ∙ parts.0))
same_first (byte ∷ one) [] rest later none_one none_other same =
    let parts = no_feed_first byte one none_one in
    let feed : byte ≡ 10 = cc in
    absurd (cc (sym (ap (λ (n : ℕ). n == 10) feed) ∙ parts.0))
same_first (byte ∷ one) (next ∷ other) rest later none_one none_other same =
    let here : byte ≡ next = cc in
    let there : one ++ 10 ∷ rest ≡ other ++ 10 ∷ later = cc in
    let more = same_first one other rest later (no_feed_first byte one none_one).1 (no_feed_first next other none_other).1 there in
    ((λ i. here i ∷ more.0 i), more.1)

-- Bytes after whole lines hold no line feed but as the last byte.
abbrev pub HoldsNoMore : List ℕ → Type 0
HoldsNoMore bytes = (line rest : List ℕ) → has_no_feed line → bytes ≡ line ++ 10 ∷ rest → length rest ≡ 0

no_feed_there : (line rest : List ℕ) → has_no_feed (line ++ 10 ∷ rest) → ⊥
no_feed_there [] rest none = absurd (cc none)
no_feed_there (byte ∷ line) rest none = no_feed_there line rest (no_feed_first byte (line ++ 10 ∷ rest) none).1

pub unbroken_holds_no_more : (bytes : List ℕ) → has_no_feed bytes → HoldsNoMore bytes
unbroken_holds_no_more bytes none line rest _ is = absurd (no_feed_there line rest (subst has_no_feed is none))

pub ended_holds_no_more : (line : List ℕ) → has_no_feed line → HoldsNoMore (line ++ 10 ∷ [])
ended_holds_no_more line none other rest none_other is = ap length (sym (same_first line other [] rest none none_other is).1)

pub byte_holds_no_more : (bytes : List ℕ) → length bytes ≡ 1 → HoldsNoMore bytes
byte_holds_no_more bytes one line rest _ is = omega (arith, one, ap length is, length-append line (10 ∷ rest))

-- whole lines with a byte after them are some of those that were read
pub cut_before : (lines read : List (List ℕ)) (next rest : List ℕ) → AreLines lines → AreLines read → HoldsNoMore rest
    → spelled lines ++ next ≡ spelled read ++ rest → 0 < length next → (more : List (List ℕ)) × (read ≡ lines ++ more)
cut_before [] read next rest all all_read ends same some = (read, refl)
cut_before (line ∷ lines) [] next rest all all_read ends same some =
    let long : length (spelled lines ++ next) ≡ 0 = ends line (spelled lines ++ next) all.0.unbroken
    (sym same ∙ append_assoc (line ++ 10 ∷ []) (spelled lines) next ∙ append_assoc line (10 ∷ []) (spelled lines ++ next)) in
    absurd (omega (arith, long, some, length-append (spelled lines) next))
cut_before (line ∷ lines) (first ∷ read) next rest all all_read ends same some =
    let parts = same_first line first (spelled lines ++ next) (spelled read ++ rest) all.0.unbroken all_read.0.unbroken
    (sym (append_assoc (line ++ 10 ∷ []) (spelled lines) next ∙ append_assoc line (10 ∷ []) (spelled lines ++ next)) ∙ same
    ∙ append_assoc (first ++ 10 ∷ []) (spelled read) rest ∙ append_assoc first (10 ∷ []) (spelled read ++ rest)) in
    let later = cut_before lines read next rest all.1 all_read.1 ends parts.1 some in
    (later.0, (λ i. sym parts.0 i ∷ later.1 i))

-- ---- No line is longer than shows that it is too long

abbrev pub AreShort : List (List ℕ) → Type 0
AreShort [] = Unit {0}
AreShort (line ∷ lines) = (length line ≤ line_limit + 1) × AreShort lines

short_append : (lines more : List (List ℕ)) → AreLines lines → AreShort more → AreShort (lines ++ more)
short_append [] more all short = short
short_append (line ∷ lines) more all short = (omega (arith, all.0.short), short_append lines more all.1 short)

last_short : (lines : List (List ℕ)) (line : List ℕ) → AreShort (lines ++ line ∷ []) → length line ≤ line_limit + 1
last_short [] line short = short.0
last_short (first ∷ lines) line short = last_short lines line short.1

pub short_last : (read : List (List ℕ)) (rest : List ℕ) (lines : List (List ℕ)) (next : List ℕ) → AreLines read → AreShort (lines_of rest) → AreLines lines
    → has_no_feed next → spelled lines ++ next ≡ spelled read ++ rest → length next ≤ line_limit + 1
short_last read rest lines [] all_read short all none same = omega arith
short_last read rest lines (byte ∷ next) all_read short all none same =
    let these : lines_of (spelled read ++ rest) ≡ lines ++ (byte ∷ next) ∷ [] =
    ap lines_of (sym same) ∙ lines_spelled lines (byte ∷ next) all ∙ ap (λ (l : List (List ℕ)). lines ++ l) (line_last (byte ∷ next) none (omega arith)) in
    last_short lines (byte ∷ next) (subst AreShort (sym (lines_spelled read rest all_read) ∙ these) (short_append read (lines_of rest) all_read short))

pub short_none : AreShort (lines_of [])
unfolding lines_of
short_none = tt

pub short_unbroken : (line : List ℕ) → has_no_feed line → length line ≤ line_limit + 1 → AreShort (lines_of line)
short_unbroken [] none short = short_none
short_unbroken (byte ∷ line) none short = subst AreShort (sym (line_last (byte ∷ line) none (omega arith))) (short, tt)

pub short_ended : (line : List ℕ) → IsLine line → AreShort (lines_of (line ++ 10 ∷ []))
short_ended line is = subst AreShort (sym (line_first line [] is.unbroken)) (omega (arith, is.short), short_none)

pub short_byte : (bytes : List ℕ) → length bytes ≡ 1 → AreShort (lines_of bytes)
short_byte [] one = absurd (omega (arith, one))
short_byte (byte ∷ []) one = by_test (byte == 10) refl
  where
    by_test : (t : Bool) → (byte == 10) ≡ t → AreShort (lines_of (byte ∷ []))
    by_test true is = let feed : byte ≡ 10 = eqb-true byte 10 is in subst (λ (b : ℕ). AreShort (lines_of (b ∷ []))) (sym feed) (short_ended [] (record { unbroken = refl; short = omega arith }))
    by_test false is = short_unbroken (byte ∷ []) (rw is refl) (omega arith)
short_byte (byte ∷ next ∷ bytes) one = absurd (omega (arith, one))
