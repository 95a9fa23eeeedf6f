-- The forms of a body and an ext.
use Rattle.std.proofs.Common.{◌≡◌, ℕ, suc, ◌+◌, ◌-◌, ◌*◌, ◌<◌, ◌≤◌, Bool, true, false, cond, eqb, leb, List, ◌++◌, length, take, drop, Option, Some, None, sym, ap, ◌∙◌, append_assoc, arith}
use Rattle.std.specs.Prelude.{◌&&◌}
use Rattle.std.specs.Int.{w32, to_le_bytes}
use Rattle.std.proofs.lemmas.Bool.{le-leb, lt-leb, and_from, and_left, and_right, ne_eqb, eq-eqb}
use Rattle.std.proofs.lemmas.List.{take_rest, drop-drop, length-drop, length-take-le, take-append-drop}
use Rattle.chain_defs.specs.Ext.{count_at, row_size, is_row, are_rows, is_ext}
use Rattle.disk_defs.specs.Log.{parts_of_body, body_of_parts}

abbrev made_parts : List ℕ → Option (List ℕ × List ℕ)
made_parts body = Some (take (count_at body 0) (drop 4 body), drop (4 + count_at body 0) body)

pub parts-short : (body : List ℕ) → length body < 4 → parts_of_body body ≡ None
unfolding parts_of_body
parts-short body short =
    ap (λ (b : Bool). cond b (made_parts body) None) (and_left (leb 4 (length body)) (leb (4 + count_at body 0) (length body)) (lt-leb 4 (length body) short))

pub parts-past : (body : List ℕ) → length body < 4 + count_at body 0 → parts_of_body body ≡ None
unfolding parts_of_body
parts-past body past =
    ap (λ (b : Bool). cond b (made_parts body) None) (and_right (leb 4 (length body)) (leb (4 + count_at body 0) (length body)) (lt-leb (4 + count_at body 0) (length body) past))

pub parts-there : (body first second : List ℕ) (size : ℕ) → size ≡ count_at body 0 → 4 + size ≤ length body → first ≡ take (4 + size - 4) (drop 4 body)
    → second ≡ take (length body - (4 + size)) (drop (4 + size) body) → Some (first, second) ≡ parts_of_body body
unfolding parts_of_body
parts-there body first second size is reach one two =
    let within : 4 + count_at body 0 ≤ length body = omega (arith, is, reach) in
    let item : first ≡ take (count_at body 0) (drop 4 body) = one ∙ ap (λ (n : ℕ). take n (drop 4 body)) (omega (arith, is)) in
    let ext : second ≡ drop (4 + count_at body 0) body = two ∙ take_rest body (4 + size) ∙ ap (λ (n : ℕ). drop (4 + n) body) is in
    (λ i. Some (item i, ext i)) ∙ sym (ap (λ (b : Bool). cond b (made_parts body) None)
    (and_from (leb 4 (length body)) (leb (4 + count_at body 0) (length body)) (le-leb 4 (length body) (omega (arith, within))) (le-leb (4 + count_at body 0) (length body) within)))

-- the parts make up the body
pub parts-whole : (body first second : List ℕ) (size : ℕ) → to_le_bytes w32 size ≡ take 4 body → 4 + size ≤ length body
    → first ≡ take (4 + size - 4) (drop 4 body) → second ≡ take (length body - (4 + size)) (drop (4 + size) body) → body ≡ body_of_parts first second
parts-whole body first second size here reach one two =
    let item : first ≡ take size (drop 4 body) = one ∙ ap (λ (n : ℕ). take n (drop 4 body)) (omega arith) in
    let ext : second ≡ drop size (drop 4 body) = two ∙ take_rest body (4 + size) ∙ sym (drop-drop size 4 body) in
    let long : length first ≡ size = ap length item ∙ length-take-le size (drop 4 body) (omega (arith, reach, length-drop 4 body)) in
    sym (
    ap (λ (l : List ℕ). l ++ first ++ second) (ap (to_le_bytes w32) long ∙ here) ∙ append_assoc (take 4 body) first second
    ∙ (λ i. take 4 body ++ (item i ++ ext i)) ∙ ap (λ (l : List ℕ). take 4 body ++ l) (take-append-drop size (drop 4 body)) ∙ take-append-drop 4 body
    )

-- ---- The ext

pub ext-wrong : (bytes : List ℕ) → (length bytes ≡ 4 + 8 * count_at bytes 0 + 4 + 161 * count_at bytes (4 + 8 * count_at bytes 0) → ⊥) → is_ext bytes ≡ false
unfolding is_ext row_size
ext-wrong bytes wrong =
    let rows_at : ℕ = 4 + 8 * count_at bytes 0 in
    let rows : ℕ = count_at bytes rows_at in
    and_left (eqb (length bytes) (rows_at + 4 + 161 * rows)) (are_rows rows (drop (rows_at + 4) bytes)) (ne_eqb (length bytes) (rows_at + 4 + 161 * rows) wrong)

-- rows, one after the other
rows-next : (count i : ℕ) (bytes : List ℕ) → i < count
    → are_rows (count - i) (drop (161 * i) bytes) ≡ (is_row (take 161 (drop (161 * i) bytes)) && are_rows (count - (i + 1)) (drop (161 * (i + 1)) bytes))
unfolding row_size
rows-next count i bytes below =
    let one : count - i ≡ suc (count - (i + 1)) = omega (arith, below) in
    let on : drop 161 (drop (161 * i) bytes) ≡ drop (161 * (i + 1)) bytes = drop-drop 161 (161 * i) bytes ∙ ap (λ (n : ℕ). drop n bytes) (omega arith) in
    ap (λ (n : ℕ). are_rows n (drop (161 * i) bytes)) one
    ∙ ap (λ (l : List ℕ). is_row (take 161 (drop (161 * i) bytes)) && are_rows (count - (i + 1)) l) on

pub rows-more : (count i size : ℕ) (bytes : List ℕ) → i < count → size ≡ 161 → is_row (take size (drop (161 * i) bytes)) ≡ true
    → are_rows (count - i) (drop (161 * i) bytes) ≡ are_rows (count - (i + 1)) (drop (161 * (i + 1)) bytes)
rows-more count i size bytes below is row =
    let one : is_row (take 161 (drop (161 * i) bytes)) ≡ true = ap (λ (n : ℕ). is_row (take n (drop (161 * i) bytes))) (sym is) ∙ row in
    rows-next count i bytes below ∙ ap (λ (b : Bool). b && are_rows (count - (i + 1)) (drop (161 * (i + 1)) bytes)) one

pub rows-wrong : (count i size : ℕ) (bytes : List ℕ) → i < count → size ≡ 161 → is_row (take size (drop (161 * i) bytes)) ≡ false
    → are_rows (count - i) (drop (161 * i) bytes) ≡ false
rows-wrong count i size bytes below is row =
    let one : is_row (take 161 (drop (161 * i) bytes)) ≡ false = ap (λ (n : ℕ). is_row (take n (drop (161 * i) bytes))) (sym is) ∙ row in
    rows-next count i bytes below ∙ ap (λ (b : Bool). b && are_rows (count - (i + 1)) (drop (161 * (i + 1)) bytes)) one

pub ext-right : (bytes rest : List ℕ) (fees rows : ℕ) → fees ≡ count_at bytes 0 → rows ≡ count_at bytes (4 + 8 * fees)
    → length bytes ≡ 4 + 8 * fees + 4 + 161 * rows → rest ≡ drop (4 + 8 * fees + 4) bytes → are_rows rows rest ≡ is_ext bytes
unfolding is_ext row_size
ext-right bytes rest fees rows first second long behind =
    let at : 4 + 8 * fees ≡ 4 + 8 * count_at bytes 0 = ap (λ (n : ℕ). 4 + 8 * n) first in
    let rows_is : rows ≡ count_at bytes (4 + 8 * count_at bytes 0) = second ∙ ap (count_at bytes) at in
    let whole : length bytes ≡ 4 + 8 * count_at bytes 0 + 4 + 161 * count_at bytes (4 + 8 * count_at bytes 0) = omega (arith, long, first, rows_is) in
    let test : eqb (length bytes) (4 + 8 * count_at bytes 0 + 4 + 161 * count_at bytes (4 + 8 * count_at bytes 0)) ≡ true =
    eq-eqb (length bytes) (4 + 8 * count_at bytes 0 + 4 + 161 * count_at bytes (4 + 8 * count_at bytes 0)) whole in
    (λ i. are_rows (rows_is i) (behind i)) ∙ ap (λ (n : ℕ). are_rows (count_at bytes (4 + 8 * count_at bytes 0)) (drop (n + 4) bytes)) at
    ∙ ap (λ (b : Bool). b && are_rows (count_at bytes (4 + 8 * count_at bytes 0)) (drop (4 + 8 * count_at bytes 0 + 4) bytes)) (sym test)
