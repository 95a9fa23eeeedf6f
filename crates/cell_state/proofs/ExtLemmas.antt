-- The fees and the rows of an ext, one after the other.
use Rattle.std.proofs.Common.{◌≡◌, ℕ, zero, suc, ◌+◌, ◌-◌, ◌*◌, ◌<◌, ◌≤◌, Bool, true, false, List, [], ◌∷◌, ◌++◌, length, map, take, drop, get_or, Option, Some, None, refl, sym, ap, ◌∙◌, append_assoc, ◌^◌, arith, add-one, eqb}
use Rattle.std.specs.Prelude.{◌&&◌, nat_le, if◌then◌else◌, is_some, IfSome}
use Rattle.std.specs.List.{All, slice_range, concat}
use Rattle.std.specs.Int.{w32, w64, to_le_bytes, from_le_bytes}
use Rattle.std.proofs.Math.Seq.{take-add}
use Rattle.std.proofs.lemmas.Bool.{false≢true, and_parts, and_from, and_left, eqb-true, ne_eqb, eq-eqb, le-leb}
use Rattle.std.proofs.lemmas.Nat.{from_le_bytes-to_le_bytes_4}
use Rattle.std.proofs.lemmas.List.{append-nil, map_push, take_more, drop-drop, take-append-le, drop-append-le, take_all, take_at, drop_at, nil_from_length, length-append, length-drop}
use Rattle.std.proofs.lemmas.List.Elements.{All-head, All-tail}
use Rattle.chain_defs.specs.Schema.{OutPoint}
use Rattle.chain_defs.specs.Row.{Row}
use Rattle.chain_defs.specs.Ext.{Ext, row_bytes, ext_bytes, count_at, row_size, is_row, are_rows, is_ext, fee_of}
use Rattle.chain_defs.specs.Fits.{FitsRow, FitsExt}
use Rattle.chain_defs.proofs.TellLaws.{length-row, bytes-tell-exts}
use Rattle.cell_state.proofs.RowByteLemmas.{next, whole, row-form}

-- ---- Pieces

concat-push : (pieces : List (List ℕ)) (piece : List ℕ) → concat (pieces ++ piece ∷ []) ≡ concat pieces ++ piece
concat-push [] piece = append-nil piece
concat-push (first ∷ pieces) piece =
    ap (λ (l : List ℕ). first ++ l) (concat-push pieces piece) ∙ sym (append_assoc first (concat pieces) piece)

pub one_piece_more : {X : Type 0} (f : X → List ℕ) (xs : List X) (x : X) → concat (map f (xs ++ x ∷ [])) ≡ concat (map f xs) ++ f x
one_piece_more f xs x = ap concat (map_push f xs x) ∙ concat-push (map f xs) (f x)

-- the next piece of bytes that are read
pub one_read_more : {X : Type 0} (f : X → List ℕ) (xs : List X) (x : X) (bytes : List ℕ) (at size next : ℕ) → next ≡ at + size
    → concat (map f xs) ≡ take at bytes → f x ≡ slice_range bytes at (at + size) → concat (map f (xs ++ x ∷ [])) ≡ take next bytes
one_read_more f xs x bytes at size next is front piece =
    let long : at + size - at ≡ size = omega arith in
    let here : slice_range bytes at (at + size) ≡ take size (drop at bytes) = ap (λ (n : ℕ). take n (drop at bytes)) long in
    one_piece_more f xs x ∙ (λ t. front t ++ (piece ∙ here) t) ∙ sym (take-add at size bytes) ∙ ap (λ (n : ℕ). take n bytes) (sym is)

-- the pieces up to one more
pub pieces_to : {X : Type 0} (f : X → List ℕ) (xs : List X) (i : ℕ) (x : X) → i < length xs → x ≡ get_or xs i x
    → concat (map f (take (i + 1) xs)) ≡ concat (map f (take i xs)) ++ f x
pieces_to f xs i x within is =
    ap (λ (l : List _). concat (map f l)) (take_more xs i x within ∙ ap (λ (y : _). take i xs ++ y ∷ []) (sym is)) ∙ one_piece_more f (take i xs) x

-- the next piece of what is written
pub one_put_more : {X : Type 0} (f : X → List ℕ) (start was now : List ℕ) (xs : List X) (i : ℕ) (x : X) → i < length xs → x ≡ get_or xs i x
    → was ≡ start ++ concat (map f (take i xs)) → now ≡ was ++ f x → now ≡ start ++ concat (map f (take (i + 1) xs))
one_put_more f start was now xs i x within is before put =
    put ∙ ap (λ (l : List ℕ). l ++ f x) before ∙ append_assoc start (concat (map f (take i xs))) (f x)
    ∙ ap (λ (l : List ℕ). start ++ l) (sym (pieces_to f xs i x within is))

-- ---- Rows that are read

rows-next : (count i : ℕ) (bytes : List ℕ) → i < count
    → are_rows (count - i) (drop (161 * i) bytes) ≡ (is_row (take 161 (drop (161 * i) bytes)) && are_rows (count - (i + 1)) (drop (161 * (i + 1)) bytes))
unfolding row_size
rows-next count i bytes below =
    let one : count - i ≡ suc (count - (i + 1)) = omega (arith, below) in
    let on : drop 161 (drop (161 * i) bytes) ≡ drop (161 * (i + 1)) bytes = drop-drop 161 (161 * i) bytes ∙ ap (λ (n : ℕ). drop n bytes) (omega arith) in
    ap (λ (n : ℕ). are_rows n (drop (161 * i) bytes)) one
    ∙ ap (λ (l : List ℕ). is_row (take 161 (drop (161 * i) bytes)) && are_rows (count - (i + 1)) l) on

row_here : (i : ℕ) (bytes : List ℕ) → slice_range bytes (161 * i) (161 * i + 161) ≡ take 161 (drop (161 * i) bytes)
row_here i bytes =
    let size : 161 * i + 161 - 161 * i ≡ 161 = omega arith in
    ap (λ (n : ℕ). take n (drop (161 * i) bytes)) size

pub one_row_more : (count i : ℕ) (bytes : List ℕ) → i < count → is_row (slice_range bytes (161 * i) (161 * i + 161)) ≡ true
    → are_rows (count - i) (drop (161 * i) bytes) ≡ are_rows (count - (i + 1)) (drop (161 * (i + 1)) bytes)
one_row_more count i bytes below row =
    rows-next count i bytes below
    ∙ ap (λ (b : Bool). b && are_rows (count - (i + 1)) (drop (161 * (i + 1)) bytes)) (ap is_row (sym (row_here i bytes)) ∙ row)

pub no_row : (count i : ℕ) (bytes : List ℕ) → i < count → is_row (slice_range bytes (161 * i) (161 * i + 161)) ≡ false
    → are_rows (count - i) (drop (161 * i) bytes) ≡ false
no_row count i bytes below row =
    rows-next count i bytes below
    ∙ ap (λ (b : Bool). b && are_rows (count - (i + 1)) (drop (161 * (i + 1)) bytes)) (ap is_row (sym (row_here i bytes)) ∙ row)

-- ---- Rows that are written

are_rows-push : (count : ℕ) (rows row : List ℕ) → length rows ≡ 161 * count → length row ≡ 161 → are_rows count rows ≡ true → is_row row ≡ true
    → are_rows (suc count) (rows ++ row) ≡ true
unfolding row_size
are_rows-push zero rows row long size are is =
    let front : take 161 (rows ++ row) ≡ row = ap (λ (l : List ℕ). take 161 (l ++ row)) (nil_from_length rows (omega (arith, long))) ∙ take_all 161 row (omega (arith, size)) in
    and_from (is_row (take 161 (rows ++ row))) true (ap is_row front ∙ is) refl
are_rows-push (suc count) rows row long size are is =
    let both = and_parts (is_row (take 161 rows)) (are_rows count (drop 161 rows)) are in
    let room : 161 ≤ length rows = omega (arith, long) in
    let rest : length (drop 161 rows) ≡ 161 * count = length-drop 161 rows ∙ omega (arith, long) in
    and_from
    (is_row (take 161 (rows ++ row)))
    (are_rows (suc count) (drop 161 (rows ++ row)))
    (ap is_row (take-append-le 161 rows row room) ∙ both.0)
    (ap (are_rows (suc count)) (drop-append-le 161 rows row room) ∙ are_rows-push count (drop 161 rows) row rest size both.1 is)

pub are_one_more : (count : ℕ) (rows more row : List ℕ) → more ≡ rows ++ row → length rows ≡ 161 * count → length row ≡ 161 → are_rows count rows ≡ true
    → is_row row ≡ true → are_rows (count + 1) more ≡ true
are_one_more count rows more row grown long size are is =
    ap (λ (n : ℕ). are_rows n more) (add-one count) ∙ ap (are_rows (suc count)) grown ∙ are_rows-push count rows row long size are is

-- ---- The form of an ext

pub no_ext : (bytes : List ℕ) → (length bytes ≡ 4 + 8 * count_at bytes 0 + 4 + 161 * count_at bytes (4 + 8 * count_at bytes 0) → ⊥) → is_ext bytes ≡ false
unfolding is_ext row_size
no_ext bytes wrong =
    let rows_at : ℕ = 4 + 8 * count_at bytes 0 in
    let rows : ℕ = count_at bytes rows_at in
    and_left (eqb (length bytes) (rows_at + 4 + 161 * rows)) (are_rows rows (drop (rows_at + 4) bytes)) (ne_eqb (length bytes) (rows_at + 4 + 161 * rows) wrong)

pub by_rows : (bytes rest : List ℕ) (fees rows : ℕ) → fees ≡ count_at bytes 0 → rows ≡ count_at bytes (4 + 8 * fees)
    → length bytes ≡ 4 + 8 * fees + 4 + 161 * rows → rest ≡ drop (4 + 8 * fees + 4) bytes → are_rows rows rest ≡ is_ext bytes
unfolding is_ext row_size
by_rows bytes rest fees rows first second long behind =
    let at : 4 + 8 * fees ≡ 4 + 8 * count_at bytes 0 = ap (λ (n : ℕ). 4 + 8 * n) first in
    let rows_is : rows ≡ count_at bytes (4 + 8 * count_at bytes 0) = second ∙ ap (count_at bytes) at in
    let whole : length bytes ≡ 4 + 8 * count_at bytes 0 + 4 + 161 * count_at bytes (4 + 8 * count_at bytes 0) = omega (arith, long, first, rows_is) in
    let test : eqb (length bytes) (4 + 8 * count_at bytes 0 + 4 + 161 * count_at bytes (4 + 8 * count_at bytes 0)) ≡ true =
    eq-eqb (length bytes) (4 + 8 * count_at bytes 0 + 4 + 161 * count_at bytes (4 + 8 * count_at bytes 0)) whole in
    (λ i. are_rows (rows_is i) (behind i)) ∙ ap (λ (n : ℕ). are_rows (count_at bytes (4 + 8 * count_at bytes 0)) (drop (n + 4) bytes)) at
    ∙ ap (λ (b : Bool). b && are_rows (count_at bytes (4 + 8 * count_at bytes 0)) (drop (4 + 8 * count_at bytes 0 + 4) bytes)) (sym test)

-- the bytes of an ext whose parts are those of the bytes
pub bytes_of_read : (bytes : List ℕ) (ext : Ext) (fees rows end : ℕ) → length ext.fees ≡ fees → length ext.spent ≡ rows → to_le_bytes w32 fees ≡ slice_range bytes 0 4
    → concat (map (to_le_bytes w64) ext.fees) ≡ slice_range bytes 4 (4 + 8 * fees)
    → to_le_bytes w32 rows ≡ slice_range bytes (4 + 8 * fees) (4 + 8 * fees + 4)
    → concat (map row_bytes ext.spent) ≡ slice_range bytes (4 + 8 * fees + 4) end → length bytes ≡ end → 4 + 8 * fees + 4 ≤ end → ext_bytes ext ≡ bytes
unfolding ext_bytes
bytes_of_read bytes ext fees rows end fees_are rows_are first fees_here second rows_here long within =
    let to_fees = next bytes (to_le_bytes w32 (length ext.fees)) (concat (map (to_le_bytes w64) ext.fees)) 4 (4 + 8 * fees) (omega arith) fees_here (ap (to_le_bytes w32) fees_are ∙ first) in
    let to_count = next bytes _ (to_le_bytes w32 (length ext.spent)) (4 + 8 * fees) (4 + 8 * fees + 4) (omega arith) (ap (to_le_bytes w32) rows_are ∙ second) to_fees in
    let to_rows = next bytes _ (concat (map row_bytes ext.spent)) (4 + 8 * fees + 4) end within rows_here to_count in
    whole bytes _ end long to_rows

-- ---- The bytes of an ext have its form

pub length-fees : (fees : List ℕ) → length (concat (map (to_le_bytes w64) fees)) ≡ 8 * length fees
length-fees [] = refl
length-fees (fee ∷ fees) =
    length-append (to_le_bytes w64 fee) (concat (map (to_le_bytes w64) fees)) ∙ omega (arith, length-fees fees)

split_one : (a b c d : List ℕ) → ((a ++ b) ++ c) ++ d ≡ a ++ (b ++ (c ++ d))
split_one a b c d = simp append_assoc

-- the parts of the bytes: a count of fees, as many fees, a count of rows, as many rows
pub has_form : (a b c d : List ℕ) (fees rows : ℕ) → length a ≡ 4 → length c ≡ 4 → from_le_bytes w32 a ≡ fees → from_le_bytes w32 c ≡ rows
    → length b ≡ 8 * fees → length d ≡ 161 * rows → are_rows rows d ≡ true → is_ext (((a ++ b) ++ c) ++ d) ≡ true
has_form a b c d fees rows four again fees_are rows_are fees_long rows_long are =
    let bytes : List ℕ = ((a ++ b) ++ c) ++ d in
    let front : length (a ++ b) ≡ 4 + 8 * fees = length-append a b ∙ omega (arith, four, fees_long) in
    let middle : length ((a ++ b) ++ c) ≡ 4 + 8 * fees + 4 = length-append (a ++ b) c ∙ omega (arith, front, again) in
    let long : length bytes ≡ 4 + 8 * fees + 4 + 161 * rows = length-append ((a ++ b) ++ c) d ∙ omega (arith, middle, rows_long) in
    let first : slice_range bytes 0 4 ≡ a = ap (take 4) (split_one a b c d) ∙ take_at a (b ++ (c ++ d)) 4 four in
    let size : 4 + 8 * fees + 4 - (4 + 8 * fees) ≡ 4 = omega arith in
    let second : slice_range bytes (4 + 8 * fees) (4 + 8 * fees + 4) ≡ c =
    (λ i. take (size i) (drop (4 + 8 * fees) (append_assoc (a ++ b) c d i))) ∙ ap (take 4) (drop_at (a ++ b) (c ++ d) (4 + 8 * fees) front) ∙ take_at c d 4 again in
    sym (by_rows bytes d fees rows (sym (ap (from_le_bytes w32) first ∙ fees_are)) (sym (ap (from_le_bytes w32) second ∙ rows_are)) long (sym (drop_at ((a ++ b) ++ c) d (4 + 8 * fees + 4) middle)))
    ∙ are

pub written_form : (ext : Ext) → length ext.fees < 2 ^ 32 → length ext.spent < 2 ^ 32 → length (concat (map row_bytes ext.spent)) ≡ 161 * length ext.spent
    → are_rows (length ext.spent) (concat (map row_bytes ext.spent)) ≡ true → is_ext (ext_bytes ext) ≡ true
unfolding ext_bytes
written_form ext few_fees few_rows size are =
    has_form
    (to_le_bytes w32 (length ext.fees))
    (concat (map (to_le_bytes w64) ext.fees))
    (to_le_bytes w32 (length ext.spent))
    (concat (map row_bytes ext.spent))
    (length ext.fees)
    (length ext.spent)
    refl
    refl
    (from_le_bytes-to_le_bytes_4 (length ext.fees) few_fees)
    (from_le_bytes-to_le_bytes_4 (length ext.spent) few_rows)
    (length-fees ext.fees)
    size
    are

-- ---- A fee stands within its ext

pub fees-within : (ext : List ℕ) (transaction : ℕ) → is_ext ext ≡ true → transaction ≤ count_at ext 0 → 8 * transaction + 4 ≤ length ext
unfolding is_ext row_size
fees-within ext transaction form paying =
    let rows : ℕ = count_at ext (4 + 8 * count_at ext 0) in
    let both = and_parts _ _ form in
    let long : length ext ≡ 4 + 8 * count_at ext 0 + 4 + 161 * rows = eqb-true _ _ both.0 in
    omega (arith, long, paying)

fee_here : (ext : List ℕ) (transaction value : ℕ) → 1 ≤ transaction
    → value ≡ from_le_bytes w64 (slice_range ext (8 * transaction - 4) (8 * transaction - 4 + 8)) → value ≡ fee_of ext transaction
unfolding fee_of
fee_here ext transaction value paying is =
    let end : 8 * transaction - 4 + 8 ≡ 8 * transaction + 4 = omega (arith, paying) in
    is ∙ ap (λ (n : ℕ). from_le_bytes w64 (slice_range ext (8 * transaction - 4) n)) end

pub fee-found : (ext : List ℕ) (transaction value : ℕ) → 1 ≤ transaction → transaction ≤ count_at ext 0
    → value ≡ from_le_bytes w64 (slice_range ext (8 * transaction - 4) (8 * transaction - 4 + 8))
    → Some value ≡ (if nat_le transaction (count_at ext 0) then Some (fee_of ext transaction) else None)
fee-found ext transaction value paying within is =
    ap (λ (fee : ℕ). Some fee) (fee_here ext transaction value paying is)
    ∙ sym (ap (λ (b : Bool). if b then Some (fee_of ext transaction) else None) (le-leb transaction (count_at ext 0) within))

-- ---- Of the exts that fit their bytes one has these

rows-form : (rows : List (OutPoint × Row)) → All FitsRow rows
    → (length (concat (map row_bytes rows)) ≡ 161 * length rows) × (are_rows (length rows) (concat (map row_bytes rows)) ≡ true)
unfolding row_size
rows-form [] fits = (refl, refl)
rows-form (row ∷ rows) fits =
    let rest = rows-form rows (All-tail FitsRow row rows fits) in
    let long : length (row_bytes row) ≡ 161 = length-row row (All-head FitsRow row rows fits) in
    let behind : List ℕ = concat (map row_bytes rows) in (
      length-append (row_bytes row) behind ∙ omega (arith, long, rest.0),
      and_from (is_row (take 161 (row_bytes row ++ behind))) (are_rows (length rows) (drop 161 (row_bytes row ++ behind)))
          (ap is_row (take_at (row_bytes row) behind 161 long) ∙ row-form row (All-head FitsRow row rows fits))
          (ap (are_rows (length rows)) (drop_at (row_bytes row) behind 161 long) ∙ rest.1),
    )

fits-form : (ext : Ext) → FitsExt ext → is_ext (ext_bytes ext) ≡ true
fits-form ext fits =
    let rows = rows-form ext.spent fits.rows in
    written_form ext fits.few_fees fits.few_rows rows.0 rows.1

pub exact : (found : Option Ext) (bytes : List ℕ) → is_some found ≡ is_ext bytes → IfSome found (λ it. ext_bytes it ≡ bytes) → IfSome found FitsExt
    → (it : Ext) → FitsExt it → ext_bytes it ≡ bytes → found ≡ Some it
exact None bytes found here fits it as_fits same = absurd (false≢true (found ∙ ap is_ext (sym same) ∙ fits-form it as_fits))
exact (Some one) bytes found here fits it as_fits same = ap (λ (x : Ext). Some x) (bytes-tell-exts one it fits as_fits (here ∙ sym same))
