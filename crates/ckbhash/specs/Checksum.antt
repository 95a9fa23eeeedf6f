-- What the program prints.
use Rattle.std.specs.Prelude.{ℕ, List, [], ◌∷◌, ◌++◌, codes}
use Rattle.hex.specs.Hex.{encode_lower}
use Rattle.chain_defs.specs.CkbHash.{ckbhash}

-- the line of a digest, as `b2sum` writes that of its standard input: lower-case hex digits, two
-- spaces, `-` and a line feed
abbrev pub digest_line : List ℕ → List ℕ
digest_line digest = encode_lower digest ++ (codes "  -" ++ 10 ∷ [])

-- the line of the bytes that were read
abbrev pub checksum_line : List ℕ → List ℕ
checksum_line bytes = digest_line (ckbhash bytes)
