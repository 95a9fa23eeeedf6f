-- A u128 and its bytes: the laws that std has at 4 and at 8 bytes.
use Rattle.std.proofs.Common.{◌≡◌, ℕ, zero, suc, ◌+◌, ◌*◌, ◌/◌, ◌%◌, ◌^◌, ◌<◌, List, [], ◌∷◌, length, get_or, refl, sym, ap, ◌∙◌, arith}
use Rattle.std.specs.Int.{w128, to_le_bytes, from_le_bytes, bytes_low_first, byte_at}
use Rattle.std.proofs.Math.Nat.{div-div-eq-div-mul, pow-suc}

-- the number that bytes are, and its k lowest bytes
number : List ℕ → ℕ
number [] = 0
number (b ∷ bs) = b + 256 * number bs

low_bytes : ℕ → ℕ → List ℕ
low_bytes zero n = []
low_bytes (suc k) n = n % 256 ∷ low_bytes k (n / 256)

number-low_bytes : (k n : ℕ) → n < 256 ^ k → number (low_bytes k n) ≡ n
unfolding number low_bytes
number-low_bytes zero n fits = omega arith
number-low_bytes (suc k) n fits =
    let more : 256 ^ suc k ≡ 256 ^ k * 256 = pow-suc 256 k in
    let high : n / 256 < 256 ^ k = omega arith in
    let rest = number-low_bytes k (n / 256) high in
    omega arith

low_bytes-number : (bs : List ℕ) → ((i : ℕ) → get_or bs i 0 < 256) → low_bytes (length bs) (number bs) ≡ bs
unfolding number low_bytes
low_bytes-number [] fits = refl
low_bytes-number (b ∷ bs) fits =
    let small : b < 256 = fits 0 in
    let low : (b + 256 * number bs) % 256 ≡ b = omega arith in
    let high : (b + 256 * number bs) / 256 ≡ number bs = omega arith in
    rw (low, high) (ap (λ (l : List ℕ). b ∷ l) (low_bytes-number bs (λ i. fits (suc i))))

one_byte : (i n : ℕ) → byte_at i n ≡ n / 256 ^ i % 256
one_byte zero n = omega arith
one_byte (suc i) n = refl

low_bytes-from : (k i n : ℕ) → bytes_low_first i k n ≡ low_bytes k (n / 256 ^ i)
unfolding low_bytes
low_bytes-from zero i n = refl
low_bytes-from (suc k) i n =
    let next : n / 256 ^ suc i ≡ n / 256 ^ i / 256 = ap (λ (p : ℕ). n / p) (pow-suc 256 i) ∙ sym (div-div-eq-div-mul n (256 ^ i) 256) in
    let rest : bytes_low_first (suc i) k n ≡ low_bytes k (n / 256 ^ i / 256) = low_bytes-from k (suc i) n ∙ ap (low_bytes k) next in
    let here = one_byte i n in
    cc

written : (n : ℕ) → to_le_bytes w128 n ≡ low_bytes 16 n
unfolding low_bytes
written n = low_bytes-from 16 0 n ∙ ap (low_bytes 16) (omega arith)

-- sixteen elements
sixteen : (bs : List ℕ) → length bs ≡ 16 → from_le_bytes w128 bs ≡ number bs
unfolding number
sixteen (a ∷ b ∷ c ∷ d ∷ e ∷ f ∷ g ∷ h ∷ i ∷ j ∷ k ∷ l ∷ m ∷ n ∷ o ∷ p ∷ []) len = omega arith
sixteen bs len = omega arith

pub from_le_bytes-to_le_bytes_16 : (n : ℕ) → n < 256 ^ 16 → from_le_bytes w128 (to_le_bytes w128 n) ≡ n
from_le_bytes-to_le_bytes_16 n fits = sixteen (to_le_bytes w128 n) refl ∙ ap number (written n) ∙ number-low_bytes 16 n fits

pub le_bytes_16 : (bs : List ℕ) → length bs ≡ 16 → ((i : ℕ) → get_or bs i 0 < 256) → to_le_bytes w128 (from_le_bytes w128 bs) ≡ bs
le_bytes_16 bs len fits =
    let whole : to_le_bytes w128 (from_le_bytes w128 bs) ≡ low_bytes 16 (number bs) = written (from_le_bytes w128 bs) ∙ ap (low_bytes 16) (sixteen bs len) in
    whole ∙ ap (λ (k : ℕ). low_bytes k (number bs)) (sym len) ∙ low_bytes-number bs fits
