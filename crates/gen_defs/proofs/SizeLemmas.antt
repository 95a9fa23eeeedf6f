-- How many bytes an encoding has, and that it is of a value of its shape.
use Rattle.std.proofs.Common.{◌≡◌, ℕ, zero, suc, ◌+◌, ◌*◌, ◌^◌, ◌/◌, ◌%◌, ◌<◌, true, List, [], ◌∷◌, ◌++◌, length, take, refl, ap, ◌∙◌, arith}
use Rattle.std.specs.Prelude.{IsTrue, nat_lt, ◌==◌, flat_map}
use Rattle.std.specs.Int.{w64, byte_at, bytes_low_first, to_le_bytes}
use Rattle.std.specs.List.{concat}
use Rattle.std.proofs.lemmas.Bool.{and_from, and_parts, lt-ltb}
use Rattle.std.proofs.lemmas.List.{length-append, length-map}
use Rattle.chain_defs.specs.Molecule as molecule
use Rattle.chain_defs.specs.Shape.{Encoding, are_bytes, parts, all_fit, struct, table}
use Rattle.chain_defs.specs.Schema.{byte32}
use Rattle.chain_defs.proofs.MoleculeLaws.{length-dynvec}
use Rattle.chain_defs.specs.CkbHash.{initial_state, absorb, blocks, ckbhash}
use Rattle.chain_defs.proofs.HashLemmas.{hashes-have-32}

-- an encoding of a value of its shape, of so many bytes
pub record Fits (e : Encoding) (n : ℕ) : Type 0 where
  pub fits : IsTrue e.fits
  pub size : length e.bytes ≡ n

pub known-fits : (e : Encoding) → IsTrue e.fits → Fits e (length e.bytes)
known-fits e fits = record { fits = fits; size = refl }

-- encodings of values of their shapes, of so many bytes together
pub record AllFits (es : List Encoding) (n : ℕ) : Type 0 where
  pub fits : IsTrue (all_fit es)
  pub size : length (concat (parts es)) ≡ n

pub none-fit : AllFits [] 0
none-fit = record { fits = refl; size = refl }

pub and-fits : {e : Encoding} {es : List Encoding} {n m : ℕ} → Fits e n → AllFits es m → AllFits (e ∷ es) (n + m)
and-fits {e} {es} {n} {m} here later = record {
  fits = and_from _ _ here.fits later.fits;
  size = length-append e.bytes (concat (parts es)) ∙ omega (arith, here.size, later.size);
}

pub struct-fits : {es : List Encoding} {n : ℕ} → AllFits es n → Fits (struct es) n
struct-fits all = record { fits = all.fits; size = all.size }

length-table : (es : List Encoding) (n : ℕ) → length (concat (parts es)) ≡ n → length (molecule.dynvec (parts es)) ≡ 4 + 4 * length es + n
unfolding molecule.full_size molecule.header_size
length-table es n is = length-dynvec (parts es) ∙ omega (arith, length-map es (λ (e : Encoding). e.bytes), is)

pub table-fits : {es : List Encoding} {n : ℕ} → AllFits es n → nat_lt (4 + 4 * length es + n) (2 ^ 32) ≡ true → Fits (table es) (4 + 4 * length es + n)
table-fits {es} {n} all short =
    let long = length-table es n all.size in
    record { fits = and_from _ _ (ap (λ (m : ℕ). nat_lt m (2 ^ 32)) long ∙ short) all.fits; size = long }

-- ---- Hashes

below-256 : (n : ℕ) → n % 256 < 256
below-256 n = omega arith

byte-at : (i n : ℕ) → byte_at i n < 256
byte-at zero n = below-256 n
byte-at (suc i) n = below-256 (n / 256 ^ suc i)

pub low-bytes : (i count n : ℕ) → IsTrue (are_bytes (bytes_low_first i count n))
low-bytes i zero n = refl
low-bytes i (suc count) n = and_from _ _ (lt-ltb (byte_at i n) 256 (byte-at i n)) (low-bytes (suc i) count n)

pub append-bytes : (a b : List ℕ) → IsTrue (are_bytes a) → IsTrue (are_bytes b) → IsTrue (are_bytes (a ++ b))
append-bytes [] b first second = second
append-bytes (x ∷ a) b first second = let both = and_parts _ _ first in and_from _ _ both.0 (append-bytes a b both.1 second)

take-bytes : (n : ℕ) (a : List ℕ) → IsTrue (are_bytes a) → IsTrue (are_bytes (take n a))
take-bytes zero a all = refl
take-bytes (suc n) [] all = refl
take-bytes (suc n) (x ∷ a) all = let both = and_parts _ _ all in and_from _ _ both.0 (take-bytes n a both.1)

word-bytes : (words : List ℕ) → IsTrue (are_bytes (flat_map (to_le_bytes w64) words))
word-bytes [] = refl
word-bytes (word ∷ words) = append-bytes (to_le_bytes w64 word) (flat_map (to_le_bytes w64) words) (low-bytes 0 8 word) (word-bytes words)

hash-bytes : (message : List ℕ) → IsTrue (are_bytes (ckbhash message))
unfolding ckbhash
hash-bytes message = take-bytes 32 (flat_map (to_le_bytes w64) (absorb initial_state 0 (blocks message))) (word-bytes (absorb initial_state 0 (blocks message)))

pub hash-fits : (message : List ℕ) → Fits (byte32.encoding (ckbhash message)) 32
hash-fits message = record {
  fits = and_from _ _ (ap (λ (n : ℕ). n == 32) (hashes-have-32 message)) (hash-bytes message);
  size = hashes-have-32 message;
}
