-- A word gives a number exactly where it is the decimal text of one within the limit, and a hash exactly where it is the text of 32 bytes.
use Rattle.std.proofs.Common.{◌≡◌, ℕ, ◌*◌, ◌^◌, ◌<◌, ◌≤◌, Bool, true, false, cond, ◌&&◌, List, length, drop, refl, sym, ap, ◌∙◌, arith}
use Rattle.std.specs.Prelude.{Option, Some, None, Result, Ok, Err, nat_le}
use Rattle.std.specs.Str.{bytes_eq}
use Rattle.std.specs.Str.Parse.{digits_value}
use Rattle.std.specs.Fmt.{decimal}
use Rattle.std.proofs.lemmas.Fmt.{decimal_is_IsNumeral}
use Rattle.std.proofs.lemmas.Slice.Eq.{bytes_eq-Decides}
use Rattle.std.proofs.lemmas.Bool.Decides.{nat_tests}
use Rattle.std.proofs.lemmas.Option.{same_Some}
use Rattle.hex.specs.Hex.{IsBytes, decode_sized, encode_lower, lower_digits}
use Rattle.hex.specs.declared.error.FromHexError.{FromHexError}
use Rattle.hex.proofs.HexLemmas.{length-encode_with, decode_sized-ok, decode_sized-encode_lower}
use Rattle.report_defs.specs.Text.{hash_text}
use Rattle.report_defs.specs.Words.{number_up_to, hash_of_word, hash_spelled, found_bytes, SpellsNumbers, SpellsHashes}

decimal_value : (number : ℕ) → number < 2 ^ 64 → digits_value 10 (decimal number) ≡ number
decimal_value number most = (decimal_is_IsNumeral number (omega arith)).1

at_most : (number most : ℕ) → number ≤ most → nat_le number most ≡ true
at_most number most le = grind (arith, nat_tests)

is_at_most : (number most : ℕ) → nat_le number most ≡ true → number ≤ most
is_at_most number most le = grind (arith, nat_tests)

-- the text of each number gives it
pub number_up_to-decimal : (limit : ℕ) (word : List ℕ) (number : ℕ) → limit < 2 ^ 64 → word ≡ decimal number → number ≤ limit → number_up_to limit word ≡ Some number
unfolding number_up_to
number_up_to-decimal limit word number short is most =
    let value : digits_value 10 word ≡ number = ap (digits_value 10) is ∙ decimal_value number (omega (arith, short, most)) in
    let same : bytes_eq word (decimal number) ≡ true = (bytes_eq-Decides word (decimal number)).1 is in
    let small : nat_le number limit ≡ true = at_most number limit most in
    rw (value, same, small) refl

chosen : (same small : Bool) (value number : ℕ) → cond (same && small) (Some value) None ≡ Some number
    → (same ≡ true) × (small ≡ true) × (value ≡ number)
chosen true true value number e = (refl, refl, (cc))
chosen true false value number e = absurd (cc)
chosen false small value number e = absurd (cc)

-- and no other word does
pub number_up_to-only : (limit : ℕ) (word : List ℕ) (number : ℕ) → number_up_to limit word ≡ Some number → (word ≡ decimal number) × (number ≤ limit)
unfolding number_up_to
number_up_to-only limit word number e =
    let value : ℕ = digits_value 10 word in
    let tests = chosen (bytes_eq word (decimal value)) (nat_le value limit) value number e in
    let text : word ≡ decimal value = (bytes_eq-Decides word (decimal value)).0 tests.0 in
    let small : value ≤ limit = is_at_most value limit tests.1 in
    (text ∙ ap decimal tests.2, rw (← tests.2) small)

pub spells-numbers : SpellsNumbers
spells-numbers limit word number short =
    (number_up_to-only limit word number, λ text. number_up_to-decimal limit word number short text.0 text.1)

-- ---- Hashes

spelled : (word hash : List ℕ) → word ≡ hash_text hash → hash_spelled word (Some hash) ≡ Some hash
spelled word hash is = ap (λ (b : Bool). cond b (Some hash) None) ((bytes_eq-Decides word (hash_text hash)).1 is)

-- the text of each hash gives it
pub hash_of_word-text : (word hash : List ℕ) → IsBytes hash → word ≡ hash_text hash → length hash ≡ 32 → hash_of_word word ≡ Some hash
unfolding hash_of_word
hash_of_word-text word hash bytes is long =
    ap (λ (w : List ℕ). hash_spelled word (found_bytes (decode_sized (drop 2 w) 32))) is
    ∙ ap (λ (r : Result (List ℕ) FromHexError). hash_spelled word (found_bytes r)) (decode_sized-encode_lower hash 32 long bytes)
    ∙ spelled word hash is

-- the text of what was read
text-read : (word bytes hash : List ℕ) → hash_spelled word (Some bytes) ≡ Some hash → (word ≡ hash_text bytes) × (bytes ≡ hash)
text-read word bytes hash e = by_test (bytes_eq word (hash_text bytes)) refl e
  where
    by_test : (b : Bool) → bytes_eq word (hash_text bytes) ≡ b → cond b (Some bytes) None ≡ Some hash → (word ≡ hash_text bytes) × (bytes ≡ hash)
    by_test true is same = ((bytes_eq-Decides word (hash_text bytes)).0 is, same_Some bytes hash same)
    by_test false is same = absurd (cc)

-- and no other word does
pub hash_of_word-only : (word hash : List ℕ) → hash_of_word word ≡ Some hash → (word ≡ hash_text hash) × (length hash ≡ 32)
unfolding hash_of_word
hash_of_word-only word hash e = by_read (decode_sized (drop 2 word) 32) refl e
  where
    by_read : (r : Result (List ℕ) FromHexError) → decode_sized (drop 2 word) 32 ≡ r → hash_spelled word (found_bytes r) ≡ Some hash
        → (word ≡ hash_text hash) × (length hash ≡ 32)
    by_read (Err error) is same = absurd (cc)
    by_read (Ok bytes) is same =
        let read = text-read word bytes hash same in
        let long : length (drop 2 word) ≡ 2 * 32 = decode_sized-ok (drop 2 word) 32 bytes is in
        let digits : drop 2 word ≡ encode_lower bytes = ap (drop 2) read.0 in
        let count : length bytes ≡ 32 = omega (arith, long, ap length digits, length-encode_with lower_digits bytes) in
        (read.0 ∙ ap hash_text read.1, sym (ap length read.1) ∙ count)

pub spells-hashes : SpellsHashes
spells-hashes word hash bytes = (hash_of_word-only word hash, λ text. hash_of_word-text word hash bytes text.0 text.1)
