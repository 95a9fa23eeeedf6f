-- The words of a text, and which text is of ASCII.
use Rattle.std.proofs.Common.{◌≡◌, ◌≢◌, ℕ, suc, ◌<◌, Bool, true, false, List, [], ◌∷◌, ◌++◌, length, get_or, refl, ap, sym, ◌∙◌, arith}
use Rattle.std.specs.Prelude.{Option, Some, None, nat_lt, ◌==◌, if◌then◌else◌}
use Rattle.std.specs.Option.{option_map}
use Rattle.std.specs.List.{list_all}
use Rattle.std.specs.Prelude.{IsUtf8}
use Rattle.std.proofs.lemmas.Bool.{ltb-true, ne_eqb}
use Rattle.std.proofs.lemmas.List.Sums.{AllPass-from_list_all}
use Rattle.std.proofs.lemmas.Str.{IsUtf8-from_ascii}
use Rattle.std.proofs.lemmas.Str.Ascii.{IsAscii-from_all}
use Rattle.ask_defs.specs.Lines.{put_first}
use Rattle.ask_defs.specs.Asks.{words_of, checked_in, asked_in}
use Rattle.run_ask.specs.Words.{words_after}

-- a word, a space and what follows
pub words-cut : (word rest : List ℕ) → ((i : ℕ) → i < length word → get_or word i 0 ≢ 32) → words_of (word ++ 32 ∷ rest) ≡ word ∷ words_of rest
unfolding words_of
words-cut [] rest none = refl
words-cut (byte ∷ word) rest none =
    rw (ne_eqb byte 32 (none 0 (omega arith))) (ap (put_first byte) (words-cut word rest (λ i below. none (suc i) (omega (arith, below)))))

-- one word
pub words-one : (word : List ℕ) → ((i : ℕ) → i < length word → get_or word i 0 ≢ 32) → words_of word ≡ word ∷ []
unfolding words_of
words-one [] none = refl
words-one (byte ∷ word) none =
    rw (ne_eqb byte 32 (none 0 (omega arith))) (ap (put_first byte) (words-one word (λ i below. none (suc i) (omega (arith, below)))))

-- ASCII is text
pub ascii-is-text : (line : List ℕ) → list_all (λ byte. nat_lt byte 128) line ≡ true → IsUtf8 line
ascii-is-text line all =
    IsUtf8-from_ascii line (IsAscii-from_all line (λ k d below. ltb-true (get_or line k d) 128 (AllPass-from_list_all (λ byte. nat_lt byte 128) line all k d below)))

-- a text has a word
words-some : (text : List ℕ) → (word : List ℕ) × (more : List (List ℕ)) × (words_of text ≡ word ∷ more)
unfolding words_of
words-some [] = ([], [], refl)
words-some (byte ∷ text) = by_test (byte == 32) (words_of text)
  where
    by_test : (t : Bool) (words : List (List ℕ)) → (word : List ℕ) × (more : List (List ℕ)) × ((if t then [] ∷ words else put_first byte words) ≡ word ∷ more)
    by_test true words = ([], words, refl)
    by_test false [] = (byte ∷ [], [], refl)
    by_test false (first ∷ later) = (byte ∷ first, later, refl)

-- a word and what follows it
pub words-then : {T : Type 0} (look : T → List ℕ) (text word : List ℕ) (rest : T) (found : Option T) → words_of text ≡ word ∷ words_after (option_map look found) → found ≡ Some rest
    → words_of text ≡ word ∷ words_of (look rest)
words-then look text word rest found is there = is ∙ ap (λ o. word ∷ words_after (option_map look o)) there

-- no transaction is to be judged where there are three words
pub three-not-checked : (text word rest next later : List ℕ) → words_of text ≡ word ∷ words_of rest → words_of rest ≡ next ∷ words_of later → None ≡ checked_in (words_of text)
three-not-checked text word rest next later is next_is =
    let more = words-some later in
    sym (ap checked_in (is ∙ ap (λ (words : List (List ℕ)). word ∷ words) (next_is ∙ ap (λ (words : List (List ℕ)). next ∷ words) more.2)))

-- nothing is asked where there are four
pub four-not-asked : (text word rest next later third last : List ℕ) → words_of text ≡ word ∷ words_of rest → words_of rest ≡ next ∷ words_of later → words_of later ≡ third ∷ words_of last
    → None ≡ asked_in (words_of text)
four-not-asked text word rest next later third last is next_is third_is =
    let more = words-some last in
    sym (ap asked_in (is ∙ ap (λ (words : List (List ℕ)). word ∷ words) (next_is ∙ ap (λ (words : List (List ℕ)). next ∷ words)
    (third_is ∙ ap (λ (words : List (List ℕ)). third ∷ words) more.2))))
