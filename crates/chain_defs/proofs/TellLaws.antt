-- The bytes of rows and exts that fit tell them: field by field, each at its place.
use Rattle.std.proofs.Common.{◌≡◌, ℕ, suc, ◌*◌, ◌<◌, ◌^◌, List, [], ◌∷◌, ◌++◌, length, map, take, drop, Option, Some, None, refl, sym, ap, ◌∙◌, append_assoc, arith}
use Rattle.std.specs.Prelude.{IfSome}
use Rattle.std.specs.List.{All, concat}
use Rattle.std.specs.Int.{w32, w64, to_le_bytes, from_le_bytes}
use Rattle.std.proofs.lemmas.Nat.{from_le_bytes-to_le_bytes_4, from_le_bytes-to_le_bytes_8}
use Rattle.std.proofs.lemmas.List.{take_at, drop_at, length-append}
use Rattle.std.proofs.lemmas.List.Elements.{All-head, All-tail}
use Rattle.chain_defs.specs.Schema.{OutPoint}
use Rattle.chain_defs.specs.Row.{Row}
use Rattle.chain_defs.specs.Ext.{type_bytes, row_bytes, ext_bytes}
use Rattle.chain_defs.specs.Fits.{FitsRow, BytesDetermineRows, BytesDetermineExts}

-- ---- Two lists in two parts

-- parts of one length are the same, and so are those after them
same-parts : (front other rest later : List ℕ) (n : ℕ) → length front ≡ n → length other ≡ n → front ++ rest ≡ other ++ later
    → (front ≡ other) × (rest ≡ later)
same-parts front other rest later n long as_long same = (
  sym (take_at front rest n long) ∙ ap (take n) same ∙ take_at other later n as_long,
  sym (drop_at front rest n long) ∙ ap (drop n) same ∙ drop_at other later n as_long,
)

-- ---- Numbers

same_4 : (n m : ℕ) → n < 2 ^ 32 → m < 2 ^ 32 → to_le_bytes w32 n ≡ to_le_bytes w32 m → n ≡ m
same_4 n m fits other same = sym (from_le_bytes-to_le_bytes_4 n fits) ∙ ap (from_le_bytes w32) same ∙ from_le_bytes-to_le_bytes_4 m other

same_8 : (n m : ℕ) → n < 2 ^ 64 → m < 2 ^ 64 → to_le_bytes w64 n ≡ to_le_bytes w64 m → n ≡ m
same_8 n m fits other same = sym (from_le_bytes-to_le_bytes_8 n fits) ∙ ap (from_le_bytes w64) same ∙ from_le_bytes-to_le_bytes_8 m other

-- ---- A type hash

length-type : (hash : Option (List ℕ)) → IfSome hash (λ h. length h ≡ 32) → length (type_bytes hash) ≡ 33
length-type None fits = refl
length-type (Some hash) fits = ap suc fits

same-type : (one other : Option (List ℕ)) → type_bytes one ≡ type_bytes other → one ≡ other
same-type None None same = refl
same-type None (Some hash) same = absurd (cc)
same-type (Some hash) None same = absurd (cc)
same-type (Some hash) (Some other) same = ap (λ (bytes : List ℕ). Some (drop 1 bytes)) same

-- ---- A row

-- its bytes, field by field
abbrev fields : OutPoint × Row → List ℕ
fields (o, row) =
    o.tx_hash ++ (to_le_bytes w32 o.index ++ (to_le_bytes w32 row.block ++ (to_le_bytes w32 row.transaction
    ++ (to_le_bytes w64 row.capacity ++ (to_le_bytes w64 row.occupied ++ (row.lock_hash ++ (type_bytes row.type_hash
    ++ (row.data_hash ++ to_le_bytes w32 row.data_len))))))))

regroup : (a b c d e f g h i j : List ℕ)
    → a ++ b ++ c ++ d ++ e ++ f ++ g ++ h ++ i ++ j ≡ a ++ (b ++ (c ++ (d ++ (e ++ (f ++ (g ++ (h ++ (i ++ j))))))))
regroup a b c d e f g h i j = simp append_assoc

in-fields : (it : OutPoint × Row) → row_bytes it ≡ fields it
in-fields (o, row) = regroup o.tx_hash (to_le_bytes w32 o.index) (to_le_bytes w32 row.block) (to_le_bytes w32 row.transaction)
    (to_le_bytes w64 row.capacity) (to_le_bytes w64 row.occupied) row.lock_hash (type_bytes row.type_hash) row.data_hash (to_le_bytes w32 row.data_len)

same-row : (a b : Row) → a.block ≡ b.block → a.transaction ≡ b.transaction → a.capacity ≡ b.capacity → a.occupied ≡ b.occupied → a.lock_hash ≡ b.lock_hash
    → a.type_hash ≡ b.type_hash → a.data_hash ≡ b.data_hash → a.data_len ≡ b.data_len → a ≡ b
same-row a b block transaction capacity occupied lock_hash type_hash data_hash data_len t = record {
  block = block t;
  transaction = transaction t;
  capacity = capacity t;
  occupied = occupied t;
  lock_hash = lock_hash t;
  type_hash = type_hash t;
  data_hash = data_hash t;
  data_len = data_len t;
}

same-out-point : (a b : OutPoint) → a.tx_hash ≡ b.tx_hash → a.index ≡ b.index → a ≡ b
same-out-point a b tx_hash index t = record { tx_hash = tx_hash t; index = index t }

pub bytes-tell-rows : BytesDetermineRows
bytes-tell-rows (o, row) (p, other) fits as_fits same =
    let whole : fields (o, row) ≡ fields (p, other) = sym (in-fields (o, row)) ∙ same ∙ in-fields (p, other) in
    let tx_hash = same-parts o.tx_hash p.tx_hash _ _ 32 fits.tx_hash as_fits.tx_hash whole in
    let index = same-parts (to_le_bytes w32 o.index) (to_le_bytes w32 p.index) _ _ 4 refl refl tx_hash.1 in
    let block = same-parts (to_le_bytes w32 row.block) (to_le_bytes w32 other.block) _ _ 4 refl refl index.1 in
    let transaction = same-parts (to_le_bytes w32 row.transaction) (to_le_bytes w32 other.transaction) _ _ 4 refl refl block.1 in
    let capacity = same-parts (to_le_bytes w64 row.capacity) (to_le_bytes w64 other.capacity) _ _ 8 refl refl transaction.1 in
    let occupied = same-parts (to_le_bytes w64 row.occupied) (to_le_bytes w64 other.occupied) _ _ 8 refl refl capacity.1 in
    let lock_hash = same-parts row.lock_hash other.lock_hash _ _ 32 fits.lock_hash as_fits.lock_hash occupied.1 in
    let type_hash = same-parts (type_bytes row.type_hash) (type_bytes other.type_hash) _ _ 33 (length-type row.type_hash fits.type_hash)
    (length-type other.type_hash as_fits.type_hash) lock_hash.1 in
    let data_hash = same-parts row.data_hash other.data_hash _ _ 32 fits.data_hash as_fits.data_hash type_hash.1 in
    let out_point : o ≡ p = same-out-point o p tx_hash.0 (same_4 o.index p.index fits.index as_fits.index index.0) in
    let rest : row ≡ other = same-row row other
    (same_4 row.block other.block fits.block as_fits.block block.0)
    (same_4 row.transaction other.transaction fits.transaction as_fits.transaction transaction.0)
    (same_8 row.capacity other.capacity fits.capacity as_fits.capacity capacity.0)
    (same_8 row.occupied other.occupied fits.occupied as_fits.occupied occupied.0)
    lock_hash.0
    (same-type row.type_hash other.type_hash type_hash.0)
    data_hash.0
    (same_4 row.data_len other.data_len fits.data_len as_fits.data_len data_hash.1) in
    (λ t. (out_point t, rest t))

-- ---- Lists of fees and of rows

pub length-row : (it : OutPoint × Row) → FitsRow it → length (row_bytes it) ≡ 161
length-row (o, row) fits =
    let type_hash = length-type row.type_hash fits.type_hash in
    simp length-append (omega (arith, fits.tx_hash, fits.lock_hash, type_hash, fits.data_hash))

same-fees : (fees others : List ℕ) → length fees ≡ length others → All (λ fee. fee < 2 ^ 64) fees → All (λ fee. fee < 2 ^ 64) others
    → concat (map (to_le_bytes w64) fees) ≡ concat (map (to_le_bytes w64) others) → fees ≡ others
same-fees [] [] long fits as_fits same = refl
same-fees [] (other ∷ others) long fits as_fits same = absurd (cc)
same-fees (fee ∷ fees) [] long fits as_fits same = absurd (cc)
same-fees (fee ∷ fees) (other ∷ others) long fits as_fits same =
    let both = same-parts (to_le_bytes w64 fee) (to_le_bytes w64 other) _ _ 8 refl refl same in
    let first : fee ≡ other = same_8 fee other (All-head (λ n. n < 2 ^ 64) fee fees fits) (All-head (λ n. n < 2 ^ 64) other others as_fits) both.0 in
    let rest : fees ≡ others = same-fees fees others (omega (arith, long)) (All-tail (λ n. n < 2 ^ 64) fee fees fits) (All-tail (λ n. n < 2 ^ 64) other others as_fits) both.1 in
    (λ t. first t ∷ rest t)

same-rows : (rows others : List (OutPoint × Row)) → length rows ≡ length others → All FitsRow rows → All FitsRow others
    → concat (map row_bytes rows) ≡ concat (map row_bytes others) → rows ≡ others
same-rows [] [] long fits as_fits same = refl
same-rows [] (other ∷ others) long fits as_fits same = absurd (cc)
same-rows (row ∷ rows) [] long fits as_fits same = absurd (cc)
same-rows (row ∷ rows) (other ∷ others) long fits as_fits same =
    let here = All-head FitsRow row rows fits in
    let there = All-head FitsRow other others as_fits in
    let both = same-parts (row_bytes row) (row_bytes other) _ _ 161 (length-row row here) (length-row other there) same in
    let first : row ≡ other = bytes-tell-rows row other here there both.0 in
    let rest : rows ≡ others = same-rows rows others (omega (arith, long)) (All-tail FitsRow row rows fits) (All-tail FitsRow other others as_fits) both.1 in
    (λ t. first t ∷ rest t)

-- ---- An ext

length-fees : (fees : List ℕ) → length (concat (map (to_le_bytes w64) fees)) ≡ 8 * length fees
length-fees [] = refl
length-fees (fee ∷ fees) = length-append (to_le_bytes w64 fee) (concat (map (to_le_bytes w64) fees)) ∙ omega (arith, length-fees fees)

regroup-ext : (a b c d : List ℕ) → a ++ b ++ c ++ d ≡ a ++ (b ++ (c ++ d))
regroup-ext a b c d = simp append_assoc

pub bytes-tell-exts : BytesDetermineExts
unfolding ext_bytes
bytes-tell-exts one other fits as_fits same =
    let whole =
    sym (regroup-ext (to_le_bytes w32 (length one.fees)) (concat (map (to_le_bytes w64) one.fees)) (to_le_bytes w32 (length one.spent)) (concat (map row_bytes one.spent)))
    ∙ same
    ∙ regroup-ext (to_le_bytes w32 (length other.fees)) (concat (map (to_le_bytes w64) other.fees)) (to_le_bytes w32 (length other.spent)) (concat (map row_bytes other.spent)) in
    let count = same-parts (to_le_bytes w32 (length one.fees)) (to_le_bytes w32 (length other.fees)) _ _ 4 refl refl whole in
    let many : length one.fees ≡ length other.fees = same_4 (length one.fees) (length other.fees) fits.few_fees as_fits.few_fees count.0 in
    let fees = same-parts (concat (map (to_le_bytes w64) one.fees)) (concat (map (to_le_bytes w64) other.fees)) _ _ (8 * length one.fees)
    (length-fees one.fees) (length-fees other.fees ∙ ap (λ (n : ℕ). 8 * n) (sym many)) count.1 in
    let rows = same-parts (to_le_bytes w32 (length one.spent)) (to_le_bytes w32 (length other.spent)) _ _ 4 refl refl fees.1 in
    let as_many : length one.spent ≡ length other.spent = same_4 (length one.spent) (length other.spent) fits.few_rows as_fits.few_rows rows.0 in
    let fees_are : one.fees ≡ other.fees = same-fees one.fees other.fees many fits.fees as_fits.fees fees.0 in
    let rows_are : one.spent ≡ other.spent = same-rows one.spent other.spent as_many fits.rows as_fits.rows rows.1 in
    (λ t. record { fees = fees_are t; spent = rows_are t })
