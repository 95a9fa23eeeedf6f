-- Hex digits as they are read, in either case.
use Rattle.std.specs.Prelude.{ℕ, ◌+◌, ◌*◌, ◌%◌, nat_lt, if◌then◌else◌, List, [], ◌∷◌}

-- The value of a digit, in either case: 48 to 57 are `0` to `9`, 65 to 70 `A` to `F`, 97 to 102 `a` to `f`. What is no digit has some
-- value below 16.
abbrev pub value_of : ℕ → ℕ
value_of c = if nat_lt c 64 then c % 16 else (c % 16 + 9) % 16

-- the number that digits go on from n
unfoldable pub value_after : ℕ → List ℕ → ℕ
value_after n [] = n
value_after n (c ∷ s) = value_after (n * 16 + value_of c) s

-- the bytes of pairs of digits
unfoldable pub pairs_of : List ℕ → List ℕ
pairs_of [] = []
pairs_of (c ∷ []) = []
pairs_of (high ∷ low ∷ s) = (value_of high * 16 + value_of low) ∷ pairs_of s
