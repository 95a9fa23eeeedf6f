-- A row as its fields, one after the other.
use Rattle.std.proofs.Common.{◌≡◌, ℕ, suc, ◌+◌, ◌-◌, ◌≤◌, true, List, [], ◌∷◌, ◌++◌, length, take, drop, get_or, replicate, Option, Some, None, refl, sym, ap, ◌∙◌, append_assoc, arith, eqb-true}
use Rattle.std.specs.Prelude.{◌==◌, ◌&&◌, ◌||◌}
use Rattle.std.specs.List.{slice_range, list_all}
use Rattle.std.proofs.Math.Seq.{take-add}
use Rattle.std.proofs.lemmas.List.{drop_more, drop-drop, take_at, take_all, drop_at, get_or_at, length-append, length-drop, length-take-le}
use Rattle.std.proofs.lemmas.Bool.{and_parts}
use Rattle.std.specs.Int.{w32, w64, to_le_bytes}
use Rattle.chain_defs.specs.Schema.{OutPoint}
use Rattle.chain_defs.specs.Row.{Row}
use Rattle.chain_defs.specs.Ext.{type_bytes, row_bytes, type_flag, is_row}
use Rattle.chain_defs.specs.Fits.{FitsRow}

-- what stands between two places, and from there to a third
joined : (xs : List ℕ) (i j k : ℕ) → i ≤ j → j ≤ k → slice_range xs i j ++ slice_range xs j k ≡ slice_range xs i k
joined xs i j k low high =
    let rest : slice_range xs j k ≡ take (k - j) (drop (j - i) (drop i xs)) =
    ap (take (k - j)) (ap (λ (n : ℕ). drop n xs) (omega (arith, low)) ∙ sym (drop-drop (j - i) i xs)) in
    ap (λ (l : List ℕ). slice_range xs i j ++ l) rest ∙ sym (take-add (j - i) (k - j) (drop i xs))
    ∙ ap (λ (n : ℕ). take n (drop i xs)) (omega (arith, low, high))

-- one field more after those that are the start of the bytes
pub next : (xs front field : List ℕ) (j k : ℕ) → j ≤ k → field ≡ slice_range xs j k → front ≡ slice_range xs 0 j → front ++ field ≡ slice_range xs 0 k
next xs front field j k order field_is front_is =
    (λ t. front_is t ++ field_is t) ∙ joined xs 0 j k (omega arith) order

pub whole : (xs fields : List ℕ) (k : ℕ) → length xs ≡ k → fields ≡ slice_range xs 0 k → fields ≡ xs
whole xs fields k long is = is ∙ ap (λ (n : ℕ). take n xs) (omega arith) ∙ take_all k xs (omega (arith, long))

-- one field more after those that were put after others
pub put_more : (old between new fields piece field : List ℕ) → between ≡ old ++ fields → new ≡ between ++ piece → piece ≡ field → new ≡ old ++ (fields ++ field)
put_more old between new fields piece field before is same = is ∙ (λ t. before t ++ same t) ∙ append_assoc old fields field

-- ---- Zero bytes in place of a type hash

zeros : (xs : List ℕ) → list_all (λ b. b == 0) xs ≡ true → xs ≡ replicate (length xs) 0
zeros [] all = refl
zeros (x ∷ xs) all =
    let both = and_parts (x == 0) (list_all (λ b. b == 0) xs) all in
    (λ t. eqb-true x 0 both.0 t ∷ zeros xs both.1 t)

pub no_hash : (row : List ℕ) (i n : ℕ) → i + 1 + n ≤ length row → get_or row i 0 ≡ 0 → list_all (λ b. b == 0) (take n (drop (i + 1) row)) ≡ true
    → 0 ∷ replicate n 0 ≡ take (suc n) (drop i row)
no_hash row i n within flag all =
    let rest : List ℕ = take n (drop (i + 1) row) in
    let long : length rest ≡ n = length-take-le n (drop (i + 1) row) (omega (arith, within, length-drop (i + 1) row)) in
    let zero : rest ≡ replicate n 0 = zeros rest all ∙ ap (λ (k : ℕ). replicate k 0) long in
    sym (ap (take (suc n)) (drop_more row i 0 (omega (arith, within))) ∙ (λ t. flag t ∷ zero t))

-- ---- The form of the bytes of a row

regroup : (front hash data_hash len : List ℕ) → ((front ++ hash) ++ data_hash) ++ len ≡ front ++ (hash ++ (data_hash ++ len))
regroup front hash data_hash len = simp append_assoc

flag_is : (front rest : List ℕ) (flag : ℕ) → length front ≡ 92 → type_flag (front ++ flag ∷ rest) ≡ flag
flag_is front rest flag long = get_or_at front flag rest 0 92 long

zeros_are : (front zeros rest : List ℕ) → length front ≡ 92 → length zeros ≡ 32 → slice_range (front ++ 0 ∷ (zeros ++ rest)) 93 125 ≡ zeros
zeros_are front zeros rest long size =
    ap (take 32) (ap (drop 93) (sym (append_assoc front (0 ∷ []) (zeros ++ rest))) ∙ drop_at (front ++ 0 ∷ []) (zeros ++ rest) 93 (omega (arith, long, length-append front (0 ∷ []))))
    ∙ take_at zeros rest 32 size

pub has_form : (front data_hash len : List ℕ) (hash : Option (List ℕ)) → length front ≡ 92 → is_row (((front ++ type_bytes hash) ++ data_hash) ++ len) ≡ true
has_form front data_hash len None long =
    ap is_row (regroup front (0 ∷ replicate 32 0) data_hash len)
    ∙ (λ t. (flag_is front (replicate 32 0 ++ (data_hash ++ len)) 0 long t == 1)
    || ((flag_is front (replicate 32 0 ++ (data_hash ++ len)) 0 long t == 0)
    && list_all (λ b. b == 0) (zeros_are front (replicate 32 0) (data_hash ++ len) long refl t)))
has_form front data_hash len (Some hash) long =
    ap is_row (regroup front (1 ∷ hash) data_hash len)
    ∙ (λ t. (flag_is front (hash ++ (data_hash ++ len)) 1 long t == 1)
    || ((flag_is front (hash ++ (data_hash ++ len)) 1 long t == 0)
    && list_all (λ b. b == 0) (slice_range (front ++ 1 ∷ (hash ++ (data_hash ++ len))) 93 125)))

pub row-form : (it : OutPoint × Row) → FitsRow it → is_row (row_bytes it) ≡ true
row-form (o, row) fits =
    has_form
    (o.tx_hash ++ to_le_bytes w32 o.index ++ to_le_bytes w32 row.block ++ to_le_bytes w32 row.transaction
    ++ to_le_bytes w64 row.capacity ++ to_le_bytes w64 row.occupied ++ row.lock_hash)
    row.data_hash (to_le_bytes w32 row.data_len) row.type_hash (simp length-append (omega (arith, fits.tx_hash, fits.lock_hash)))
