-- A pattern that fixes every bit of a word is the word.
use Rattle.std.proofs.Common.{◌≡◌, ℕ, ◌%◌, ◌^◌, ◌<◌, bit_and, ◌∙◌, arith}
use Rattle.std.proofs.lemmas.Nat.{and_mask}

pub whole_word : (word : ℕ) → word < 2 ^ 32 → bit_and word 0xffffffff ≡ word
whole_word word within = let same : word % 2 ^ 32 ≡ word = omega arith in and_mask word 32 ∙ same
