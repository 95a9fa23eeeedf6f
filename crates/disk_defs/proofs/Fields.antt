-- The bytes of a snapshot, field by field.
use Rattle.std.proofs.Common.{◌≡◌, ℕ, ◌*◌, ◌<◌, ◌^◌, List, [], ◌∷◌, ◌++◌, length, map, take, drop, refl, sym, ap, ◌∙◌, append_assoc, arith}
use Rattle.std.specs.List.{All, concat}
use Rattle.std.specs.Int.{w32, w64, to_le_bytes, from_le_bytes}
use Rattle.std.proofs.lemmas.Nat.{from_le_bytes-to_le_bytes_4, from_le_bytes-to_le_bytes_8}
use Rattle.std.proofs.lemmas.List.{take_at, drop_at, length-append}
use Rattle.std.proofs.lemmas.List.Elements.{All-head, All-tail}
use Rattle.chain_defs.specs.Schema.{OutPoint}
use Rattle.chain_defs.specs.Row.{Row}
use Rattle.chain_defs.specs.Ext.{row_bytes}
use Rattle.chain_defs.specs.Fits.{FitsRow}
use Rattle.chain_defs.proofs.TellLaws.{bytes-tell-rows, length-row}
use Rattle.disk_defs.specs.Snapshot.{Snapshot, body_bytes, snapshot_bytes}

-- parts of one length are the same, and so are those after them
pub same-parts : (first other rest later : List ℕ) (n : ℕ) → length first ≡ n → length other ≡ n → first ++ rest ≡ other ++ later
    → (first ≡ other) × (rest ≡ later)
same-parts first other rest later n long as_long same = (
  sym (take_at first rest n long) ∙ ap (take n) same ∙ take_at other later n as_long,
  sym (drop_at first rest n long) ∙ ap (drop n) same ∙ drop_at other later n as_long,
)

pub same-u32 : (n m : ℕ) → n < 2 ^ 32 → m < 2 ^ 32 → to_le_bytes w32 n ≡ to_le_bytes w32 m → n ≡ m
same-u32 n m fits other same = sym (from_le_bytes-to_le_bytes_4 n fits) ∙ ap (from_le_bytes w32) same ∙ from_le_bytes-to_le_bytes_4 m other

pub same-u64 : (n m : ℕ) → n < 2 ^ 64 → m < 2 ^ 64 → to_le_bytes w64 n ≡ to_le_bytes w64 m → n ≡ m
same-u64 n m fits other same = sym (from_le_bytes-to_le_bytes_8 n fits) ∙ ap (from_le_bytes w64) same ∙ from_le_bytes-to_le_bytes_8 m other

-- ---- Rows

abbrev pub rows_bytes : List (OutPoint × Row) → List ℕ
rows_bytes rows = concat (map row_bytes rows)

pub rows-length : (rows : List (OutPoint × Row)) → All FitsRow rows → length (rows_bytes rows) ≡ 161 * length rows
rows-length [] fits = refl
rows-length (row ∷ rows) fits =
    length-append (row_bytes row) (rows_bytes rows)
    ∙ omega (arith, length-row row (All-head FitsRow row rows fits), rows-length rows (All-tail FitsRow row rows fits))

pub same-rows : (rows others : List (OutPoint × Row)) → length rows ≡ length others → All FitsRow rows → All FitsRow others
    → rows_bytes rows ≡ rows_bytes others → rows ≡ others
same-rows [] [] long fits as_fits same = refl
same-rows [] (other ∷ others) long fits as_fits same = absurd (cc)
same-rows (row ∷ rows) [] long fits as_fits same = absurd (cc)
same-rows (row ∷ rows) (other ∷ others) long fits as_fits same =
    let here = All-head FitsRow row rows fits in
    let there = All-head FitsRow other others as_fits in
    let both = same-parts (row_bytes row) (row_bytes other) _ _ 161 (length-row row here) (length-row other there) same in
    let first : row ≡ other = bytes-tell-rows row other here there both.0 in
    let rest : rows ≡ others = same-rows rows others (omega (arith, long)) (All-tail FitsRow row rows fits) (All-tail FitsRow other others as_fits) both.1 in
    (λ t. first t ∷ rest t)

-- ---- A snapshot

-- gate, number, tip, hash and count, which come before the rows
abbrev pub head_bytes : ℕ → ℕ → List ℕ → ℕ → List ℕ
head_bytes number tip hash count = 1 ∷ (to_le_bytes w32 number ++ (to_le_bytes w32 tip ++ (hash ++ to_le_bytes w64 count)))

pub head-length : (number tip : ℕ) (hash : List ℕ) (count : ℕ) → length hash ≡ 32 → length (head_bytes number tip hash count) ≡ 49
head-length number tip hash count long =
    omega (arith, length-append hash (to_le_bytes w64 count), long)

-- the parts of a head
pub record IsSameHead (number tip : ℕ) (hash : List ℕ) (count number1 tip1 : ℕ) (hash1 : List ℕ) (count1 : ℕ) : Type 0 where
  pub numbers : number ≡ number1
  pub tips : tip ≡ tip1
  pub hashes : hash ≡ hash1
  pub counts : count ≡ count1

pub same-head : (number tip : ℕ) (hash : List ℕ) (count number1 tip1 : ℕ) (hash1 : List ℕ) (count1 : ℕ)
    → number < 2 ^ 32 → tip < 2 ^ 32 → length hash ≡ 32 → count < 2 ^ 64 → number1 < 2 ^ 32 → tip1 < 2 ^ 32 → length hash1 ≡ 32 → count1 < 2 ^ 64
    → head_bytes number tip hash count ≡ head_bytes number1 tip1 hash1 count1 → IsSameHead number tip hash count number1 tip1 hash1 count1
same-head number tip hash count number1 tip1 hash1 count1 n t h c n1 t1 h1 c1 same =
    let numbers = same-parts (to_le_bytes w32 number) (to_le_bytes w32 number1) _ _ 4 refl refl (ap (drop 1) same) in
    let tips = same-parts (to_le_bytes w32 tip) (to_le_bytes w32 tip1) _ _ 4 refl refl numbers.1 in
    let hashes = same-parts hash hash1 _ _ 32 h h1 tips.1 in
    record {
      numbers = same-u32 number number1 n n1 numbers.0;
      tips = same-u32 tip tip1 t t1 tips.0;
      hashes = hashes.0;
      counts = same-u64 count count1 c c1 hashes.1;
    }

abbrev pub head_of : Snapshot → List ℕ
head_of s = head_bytes s.number s.tip s.hash (length s.rows)

regroup : (gate : ℕ) (a b c d e after : List ℕ) → gate ∷ (a ++ b ++ c ++ d ++ e) ++ after ≡ (gate ∷ (a ++ (b ++ (c ++ d)))) ++ (e ++ after)
regroup gate a b c d e after = simp append_assoc

-- the bytes of a snapshot: its head, its rows, and what follows
pub in-parts : (s : Snapshot) (after : List ℕ) → snapshot_bytes s ++ after ≡ head_of s ++ (rows_bytes s.rows ++ after)
unfolding body_bytes
in-parts s after =
    regroup 1 (to_le_bytes w32 s.number) (to_le_bytes w32 s.tip) s.hash (to_le_bytes w64 (length s.rows)) (rows_bytes s.rows) after
