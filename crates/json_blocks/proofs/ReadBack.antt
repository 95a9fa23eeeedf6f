-- A value is read from its own tree.
use Rattle.std.proofs.Common.{◌≡◌, ℕ, zero, suc, ◌/◌, ◌%◌, ◌==◌, Bool, true, false, ◌&&◌, List, [], ◌∷◌, map, slice_index, refl, ap, ◌∙◌, arith, ne_eqb, eq-eqb}
use Rattle.std.specs.Prelude.{if◌then◌else◌, Some, None}
use Rattle.std.specs.List.{list_all}
use Rattle.std.specs.Str.{bytes_eq}
use Rattle.std.specs.Fmt.{digits, digits_onto, digit_glyph}
use Rattle.std.proofs.lemmas.Bool.{and_parts, or_left, eqb-true}
use Rattle.std.proofs.lemmas.Bool.Decides.{nat_tests}
use Rattle.std.proofs.lemmas.Slice.Eq.{bytes_eq-Decides}
use Rattle.hex.specs.Hex.{encode_lower, encode_with, lower_digits}
use Rattle.json_defs.specs.Form.{Form, lower_digit, lowered, hex_text, hex_number, byte_string, named_byte, items, items_read, list, option}
use Rattle.json_defs.specs.Blocks as form
use Rattle.json_defs.specs.Laws.{IsReadBack}

pub both : (a b : Bool) → a ≡ true → b ≡ true → (a && b) ≡ true
both a b first second = ap (λ (x : Bool). x && b) first ∙ second

same_text : (s : List ℕ) → bytes_eq s s ≡ true
same_text s = (bytes_eq-Decides s s).1 refl

-- ---- digits in lower case

-- lower case stays as it is
abbrev is_lower : ℕ → Bool
is_lower c = lower_digit c == c

lower-same : (s : List ℕ) → list_all is_lower s ≡ true → map lower_digit s ≡ s
lower-same [] all = refl
lower-same (c ∷ s) all =
    let parts = and_parts (is_lower c) (list_all is_lower s) all in
    let first : lower_digit c ≡ c = eqb-true (lower_digit c) c parts.0 in
    ap (λ (x : ℕ). x ∷ map lower_digit s) first ∙ ap (λ (l : List ℕ). c ∷ l) (lower-same s parts.1)

item-lower : (table : List ℕ) (k : ℕ) → list_all is_lower table ≡ true → is_lower (slice_index table k) ≡ true
item-lower [] k all = refl
item-lower (c ∷ table) zero all = (and_parts (is_lower c) (list_all is_lower table) all).0
item-lower (c ∷ table) (suc k) all = item-lower table k (and_parts (is_lower c) (list_all is_lower table) all).1

encode_lower-lower : (bytes : List ℕ) → list_all is_lower (encode_lower bytes) ≡ true
unfolding encode_with
encode_lower-lower [] = refl
encode_lower-lower (b ∷ bytes) =
    both _ _ (item-lower lower_digits (b / 16) refl) (both _ _ (item-lower lower_digits (b % 16) refl) (encode_lower-lower bytes))

glyph-lower : (d : ℕ) → is_lower (digit_glyph false d) ≡ true
glyph-lower d = eq-eqb (lower_digit (digit_glyph false d)) (digit_glyph false d) (same d)
  where
    same : (d : ℕ) → lower_digit (digit_glyph false d) ≡ digit_glyph false d
    same d = grind (arith, nat_tests)

digits_onto-lower : (k n : ℕ) (s : List ℕ) → list_all is_lower s ≡ true → list_all is_lower (digits_onto k 16 false n s) ≡ true
digits_onto-lower zero n s all = all
digits_onto-lower (suc k) n s all =
    let first : list_all is_lower (digit_glyph false (n % 16) ∷ s) ≡ true = both _ _ (glyph-lower (n % 16)) all in
    by (n / 16 == 0) _ _ first (digits_onto-lower k (n / 16) (digit_glyph false (n % 16) ∷ s) first)
  where
    by : (b : Bool) (x y : List ℕ) → list_all is_lower x ≡ true → list_all is_lower y ≡ true → list_all is_lower (if b then x else y) ≡ true
    by true x y here there = here
    by false x y here there = there

digits-lower : (n : ℕ) → list_all is_lower (digits 16 false n) ≡ true
unfolding digits
digits-lower n = digits_onto-lower 64 n [] refl

lowered-same : (s : List ℕ) → list_all is_lower s ≡ true → bytes_eq (lowered (hex_text s)) (hex_text s) ≡ true
lowered-same s all = (bytes_eq-Decides (lowered (hex_text s)) (hex_text s)).1 (ap (λ (l : List ℕ). 48 ∷ 120 ∷ l) (lower-same s all))

-- ---- forms

pub number-back : IsReadBack hex_number
unfolding hex_number
number-back n = lowered-same (digits 16 false n) (digits-lower n)

pub byte_string-back : IsReadBack byte_string
unfolding byte_string
byte_string-back bytes = lowered-same (encode_lower bytes) (encode_lower-lower bytes)

pub named-back : (zeroth first : List ℕ) → IsReadBack (named_byte zeroth first)
unfolding named_byte
named-back zeroth first zero = same_text zeroth
named-back zeroth first (suc zero) = same_text first
named-back zeroth first (suc (suc b)) =
    let not_zero : (suc (suc b) == 0) ≡ false = ne_eqb (suc (suc b)) 0 (λ h. omega arith) in
    let not_one : (suc (suc b) == 1) ≡ false = ne_eqb (suc (suc b)) 1 (λ h. omega arith) in
    rw (not_zero, not_one) (byte_string-back (suc (suc b) ∷ []))

items-back : {V : Type 0} (of : Form V) → IsReadBack of → (vs : List V) → items_read of.reads vs (items of.tree vs) ≡ true
items-back of back [] = refl
items-back of back (v ∷ vs) = both _ _ (back v) (items-back of back vs)

list-back : {V : Type 0} (of : Form V) → IsReadBack of → IsReadBack (list of)
list-back of back vs = items-back of back vs

option-back : {V : Type 0} (of : Form V) → IsReadBack of → IsReadBack (option of)
option-back of back None = refl
option-back of back (Some v) = back v

-- ---- objects, row by row

pub script-back : IsReadBack form.script
unfolding form.script
script-back s = both _ _ (byte_string-back s.args) (both _ _ (byte_string-back s.code_hash) (both _ _ (named-back _ _ s.hash_type) refl))

pub cellbase_witness-back : IsReadBack form.cellbase_witness
unfolding form.cellbase_witness
cellbase_witness-back w = both _ _ (script-back w.lock) (both _ _ (byte_string-back w.message) refl)

out_point-back : IsReadBack form.out_point
unfolding form.out_point
out_point-back o = both _ _ (number-back o.index) (both _ _ (byte_string-back o.tx_hash) refl)

cell_input-back : IsReadBack form.cell_input
unfolding form.cell_input
cell_input-back i = both _ _ (out_point-back i.previous_output) (both _ _ (number-back i.since) refl)

cell_dep-back : IsReadBack form.cell_dep
unfolding form.cell_dep
cell_dep-back d = both _ _ (named-back _ _ d.dep_type) (both _ _ (out_point-back d.out_point) refl)

cell_output-back : IsReadBack form.cell_output
unfolding form.cell_output
cell_output-back o =
    both _ _ (number-back o.capacity) (both _ _ (script-back o.lock) (both _ _ (option-back form.script script-back o.type_script) refl))

pub transaction-back : IsReadBack form.transaction
unfolding form.transaction
transaction-back t =
    both _ _ (list-back form.cell_dep cell_dep-back t.raw.cell_deps)
    (both _ _ (list-back byte_string byte_string-back t.raw.header_deps)
    (both _ _ (list-back form.cell_input cell_input-back t.raw.inputs)
    (both _ _ (list-back form.cell_output cell_output-back t.raw.outputs)
    (both _ _ (list-back byte_string byte_string-back t.raw.outputs_data)
    (both _ _ (number-back t.raw.version)
    (both _ _ (list-back byte_string byte_string-back t.witnesses) refl))))))

header-back : IsReadBack form.header
unfolding form.header
header-back h =
    or_left _ _
    (both _ _ (number-back h.compact_target)
    (both _ _ (byte_string-back h.dao)
    (both _ _ (number-back h.epoch)
    (both _ _ (number-back h.nonce)
    (both _ _ (number-back h.number)
    (both _ _ (byte_string-back h.parent_hash)
    (both _ _ (byte_string-back h.proposals_hash)
    (both _ _ (number-back h.timestamp)
    (both _ _ (byte_string-back h.transactions_root)
    (both _ _ (byte_string-back h.uncles_hash)
    (both _ _ (number-back h.version) refl)))))))))))

uncle-back : IsReadBack form.uncle
unfolding form.uncle
uncle-back u = both _ _ (header-back u.header) (both _ _ (list-back byte_string byte_string-back u.proposals) refl)

pub block-back : IsReadBack form.block
unfolding form.block
block-back b =
    both _ _ (header-back b.header)
    (both _ _ (list-back byte_string byte_string-back b.proposals)
    (both _ _ (list-back form.transaction transaction-back b.transactions)
    (both _ _ (list-back form.uncle uncle-back b.uncles) refl)))
