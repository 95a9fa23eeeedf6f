-- Molecule's laws: the sizes of the encodings, where each part stands, and that an encoding has one list of parts.
use Rattle.std.proofs.Common.{◌≡◌, ℕ, ◌+◌, ◌-◌, ◌*◌, ◌^◌, ◌<◌, true, false, ltb, eqb, List, [], ◌∷◌, ◌++◌, length, map, take, refl, sym, ap, subst, ◌∙◌, append_assoc, arith, add-zero}
use Rattle.std.specs.Int.{w32, to_le_bytes, from_le_bytes}
use Rattle.std.specs.List.{concat, slice_range, range_with_len, AllByRecursion}
use Rattle.std.proofs.lemmas.Bool.{lt-ltb, le-ltb}
use Rattle.std.proofs.lemmas.List.{append-nil, take_at, drop_at, length-append}
use Rattle.std.proofs.lemmas.Nat.{from_le_bytes-to_le_bytes_4}
use Rattle.chain_defs.specs.Molecule.{fixvec, offsets, header_size, full_size, dynvec, IsFixvec, IsDynvec, IsTable, header_number, item_of_fixvec, items_of_fixvec, part_count, part_start, part_of, parts_of}

pub concat-append : (xs ys : List (List ℕ)) → concat (xs ++ ys) ≡ concat xs ++ concat ys
concat-append [] ys = refl
concat-append (x ∷ xs) ys = ap (λ (l : List ℕ). x ++ l) (concat-append xs ys) ∙ sym (append_assoc x (concat xs) (concat ys))

-- the number that was written at a place is read there
pub header_number-written : (front : List ℕ) (n : ℕ) (rest : List ℕ) (at : ℕ) → length front ≡ at → n < 2 ^ 32 → header_number (front ++ (to_le_bytes w32 n ++ rest)) at ≡ n
unfolding header_number
header_number-written front n rest at len fits =
    ap (λ (l : List ℕ). from_le_bytes w32 (take 4 l)) (drop_at front (to_le_bytes w32 n ++ rest) at len) ∙ from_le_bytes-to_le_bytes_4 n fits

slice-mid : (front mid back : List ℕ) (at : ℕ) → length front ≡ at → slice_range (front ++ (mid ++ back)) at (at + length mid) ≡ mid
slice-mid front mid back at len =
    let k : (at + length mid) - at ≡ length mid = omega arith in
    rw (k, drop_at front (mid ++ back) at len) (take_at mid back (length mid) refl)

-- ---- sizes

pub length-offsets : (start : ℕ) (parts : List (List ℕ)) → length (offsets start parts) ≡ 4 * length parts
unfolding offsets
length-offsets start [] = refl
length-offsets start (part ∷ parts) = let rest = length-offsets (start + length part) parts in omega arith

pub length-dynvec : (parts : List (List ℕ)) → length (dynvec parts) ≡ full_size parts
unfolding dynvec full_size header_size
length-dynvec parts =
    let sizes = length-append (to_le_bytes w32 (full_size parts) ++ offsets (header_size parts) parts) (concat parts) in
    let header = length-append (to_le_bytes w32 (full_size parts)) (offsets (header_size parts) parts) in
    omega (arith, length-offsets (header_size parts) parts)

pub length-fixvec : (items : List (List ℕ)) → length (fixvec items) ≡ 4 + length (concat items)
unfolding fixvec
length-fixvec items = length-append (to_le_bytes w32 (length items)) (concat items)

pub length-concat : (size : ℕ) (items : List (List ℕ)) → AllByRecursion (λ item. length item ≡ size) items → length (concat items) ≡ length items * size
length-concat size [] sizes = omega arith
length-concat size (item ∷ items) sizes =
    let rest = length-concat size items sizes.1 in
    let both = length-append item (concat items) in
    omega (arith, sizes.0)

-- ---- where the parts of a dynvec stand

offsets-append : (start : ℕ) (xs ys : List (List ℕ)) → offsets start (xs ++ ys) ≡ offsets start xs ++ offsets (start + length (concat xs)) ys
unfolding offsets
offsets-append start [] ys = ap (λ (n : ℕ). offsets n ys) (sym (add-zero start))
offsets-append start (x ∷ xs) ys =
    let next : (start + length x) + length (concat xs) ≡ start + length (x ++ concat xs) = omega (arith, length-append x (concat xs)) in
    ap (λ (l : List ℕ). to_le_bytes w32 start ++ l) (offsets-append (start + length x) xs ys ∙ ap (λ (n : ℕ). offsets (start + length x) xs ++ offsets n ys) next)

-- the encoding as its full size and the rest
sized : (parts : List (List ℕ)) → dynvec parts ≡ to_le_bytes w32 (full_size parts) ++ (offsets (header_size parts) parts ++ concat parts)
unfolding dynvec
sized parts = append_assoc (to_le_bytes w32 (full_size parts)) (offsets (header_size parts) parts) (concat parts)

pub header_number-dynvec : (parts : List (List ℕ)) → full_size parts < 2 ^ 32 → header_number (dynvec parts) 0 ≡ full_size parts
header_number-dynvec parts fits = ap (λ (b : List ℕ). header_number b 0) (sized parts) ∙ header_number-written [] (full_size parts) (offsets (header_size parts) parts ++ concat parts) 0 refl fits

-- the offset of the part after the parts `front`
offset_at : (front : List (List ℕ)) (part : List ℕ) (back : List (List ℕ)) (parts : List (List ℕ)) → front ++ part ∷ back ≡ parts → full_size parts < 2 ^ 32
    → header_number (dynvec parts) (4 + 4 * length front) ≡ header_size parts + length (concat front)
unfolding offsets full_size
offset_at front part back parts is fits =
    let H = header_size parts in
    let at = H + length (concat front) in
    let size = to_le_bytes w32 (full_size parts) in
    let tail = offsets (at + length part) back ++ concat parts in
    let split : offsets H parts ≡ offsets H front ++ offsets at (part ∷ back) = ap (offsets H) (sym is) ∙ offsets-append H front (part ∷ back) in
    let whole : dynvec parts ≡ (size ++ offsets H front) ++ (to_le_bytes w32 at ++ tail) =
    sized parts ∙ ap (λ (l : List ℕ). size ++ (l ++ concat parts)) split
    ∙ ap (λ (l : List ℕ). size ++ l) (append_assoc (offsets H front) (offsets at (part ∷ back)) (concat parts))
    ∙ sym (append_assoc size (offsets H front) (to_le_bytes w32 at ++ tail)) in
    let len : length (size ++ offsets H front) ≡ 4 + 4 * length front = length-append size (offsets H front) ∙ ap (λ (n : ℕ). 4 + n) (length-offsets H front) in
    let parts_len : length (concat parts) ≡ length (concat front) + length (part ++ concat back) = ap (λ (l : List (List ℕ)). length (concat l)) (sym is) ∙ ap length (concat-append front (part ∷ back)) ∙ length-append (concat front) (part ++ concat back) in
    let small : at < 2 ^ 32 = omega arith in
    ap (λ (b : List ℕ). header_number b (4 + 4 * length front)) whole ∙ header_number-written (size ++ offsets H front) at tail (4 + 4 * length front) len small

part_count-none : part_count (dynvec []) ≡ 0
unfolding part_count dynvec offsets full_size header_size
part_count-none = refl

pub part_count-dynvec : (parts : List (List ℕ)) → full_size parts < 2 ^ 32 → part_count (dynvec parts) ≡ length parts
unfolding part_count full_size header_size
part_count-dynvec [] fits = part_count-none
part_count-dynvec (part ∷ parts) fits =
    let first : header_number (dynvec (part ∷ parts)) 4 ≡ header_size (part ∷ parts) + 0 = offset_at [] part parts (part ∷ parts) refl fits in
    let len = length-dynvec (part ∷ parts) in
    let more : eqb (length (dynvec (part ∷ parts))) 4 ≡ false = grind arith in
    rw (more, first) (omega arith)

-- a part starts after the header and the parts before it; where none follows, that is the end
pub part_start-dynvec : (front back parts : List (List ℕ)) → front ++ back ≡ parts → full_size parts < 2 ^ 32 → part_start (dynvec parts) (length front) ≡ header_size parts + length (concat front)
unfolding part_start full_size
part_start-dynvec front [] parts is fits =
    let same : front ≡ parts = sym (append-nil front) ∙ is in
    let past : ltb (length front) (part_count (dynvec parts)) ≡ false = le-ltb _ _ (omega (arith, part_count-dynvec parts fits, ap length same)) in
    rw past (length-dynvec parts ∙ ap (λ (l : List (List ℕ)). header_size parts + length (concat l)) (sym same))
part_start-dynvec front (part ∷ back) parts is fits =
    let within : ltb (length front) (part_count (dynvec parts)) ≡ true = lt-ltb _ _ (omega (arith, part_count-dynvec parts fits, ap length (sym is), length-append front (part ∷ back))) in
    rw within (offset_at front part back parts is fits)

pub part_of-dynvec : (front : List (List ℕ)) (part : List ℕ) (back parts : List (List ℕ)) → front ++ part ∷ back ≡ parts → full_size parts < 2 ^ 32 → part_of (dynvec parts) (length front) ≡ part
unfolding part_of dynvec header_size
part_of-dynvec front part back parts is fits =
    let H = header_size parts in
    let header = to_le_bytes w32 (full_size parts) ++ offsets H parts in
    let next_is : (front ++ part ∷ []) ++ back ≡ parts = append_assoc front (part ∷ []) back ∙ is in
    let from = part_start-dynvec front (part ∷ back) parts is fits in
    let to = part_start-dynvec (front ++ part ∷ []) back parts next_is fits in
    let next_len : length (front ++ part ∷ []) ≡ length front + 1 = length-append front (part ∷ []) in
    let next_concat : concat (front ++ part ∷ []) ≡ concat front ++ part = concat-append front (part ∷ []) ∙ ap (λ (l : List ℕ). concat front ++ l) (append-nil part) in
    let to_is : part_start (dynvec parts) (length front + 1) ≡ (H + length (concat front)) + length part =
    ap (part_start (dynvec parts)) (sym next_len) ∙ to ∙ omega (arith, ap length next_concat, length-append (concat front) part) in
    let content : concat parts ≡ concat front ++ (part ++ concat back) = ap concat (sym is) ∙ concat-append front (part ∷ back) in
    let whole : dynvec parts ≡ (header ++ concat front) ++ (part ++ concat back) = ap (λ (l : List ℕ). header ++ l) content ∙ sym (append_assoc header (concat front) (part ++ concat back)) in
    let len : length (header ++ concat front) ≡ H + length (concat front) =
    omega (arith, length-append header (concat front), length-append (to_le_bytes w32 (full_size parts)) (offsets H parts), length-offsets H parts) in
    rw (from, to_is) (ap (λ (b : List ℕ). slice_range b (H + length (concat front)) ((H + length (concat front)) + length part)) whole ∙ slice-mid (header ++ concat front) part (concat back) (H + length (concat front)) len)

parts_from-dynvec : (front back parts : List (List ℕ)) → front ++ back ≡ parts → full_size parts < 2 ^ 32 → map (part_of (dynvec parts)) (range_with_len (length front) (length back)) ≡ back
parts_from-dynvec front [] parts is fits = refl
parts_from-dynvec front (part ∷ back) parts is fits =
    let next_is : (front ++ part ∷ []) ++ back ≡ parts = append_assoc front (part ∷ []) back ∙ is in
    let next_len : length (front ++ part ∷ []) ≡ length front + 1 = length-append front (part ∷ []) in
    let here = part_of-dynvec front part back parts is fits in
    let rest : map (part_of (dynvec parts)) (range_with_len (length front + 1) (length back)) ≡ back = ap (λ (n : ℕ). map (part_of (dynvec parts)) (range_with_len n (length back))) (sym next_len) ∙ parts_from-dynvec (front ++ part ∷ []) back parts next_is fits in
    cc

-- the parts of an encoding are read from it
pub parts_of-dynvec : (parts : List (List ℕ)) → full_size parts < 2 ^ 32 → parts_of (dynvec parts) ≡ parts
unfolding parts_of
parts_of-dynvec parts fits = rw (part_count-dynvec parts fits) (parts_from-dynvec [] parts parts refl fits)

full_size_fits : (bytes : List ℕ) (items : List (List ℕ)) → bytes ≡ dynvec items → length bytes < 2 ^ 32 → full_size items < 2 ^ 32
full_size_fits bytes items is fits = omega (arith, ap length is, length-dynvec items)

pub IsDynvec_only : (bytes : List ℕ) (items : List (List ℕ)) → IsDynvec bytes items → parts_of bytes ≡ items
IsDynvec_only bytes items h = ap parts_of h.encoding ∙ parts_of-dynvec items (full_size_fits bytes items h.encoding h.size)

pub IsTable_only : (n : ℕ) (bytes : List ℕ) (fields : List (List ℕ)) → IsTable n bytes fields → parts_of bytes ≡ fields
IsTable_only n bytes fields h = ap parts_of h.encoding ∙ parts_of-dynvec fields (full_size_fits bytes fields h.encoding h.size)

-- ---- where the items of a fixvec stand

pub header_number-fixvec : (items : List (List ℕ)) → length items < 2 ^ 32 → header_number (fixvec items) 0 ≡ length items
unfolding fixvec
header_number-fixvec items fits = header_number-written [] (length items) (concat items) 0 refl fits

sizes-append : (size : ℕ) (xs ys : List (List ℕ)) → AllByRecursion (λ item. length item ≡ size) (xs ++ ys) → AllByRecursion (λ item. length item ≡ size) xs × AllByRecursion (λ item. length item ≡ size) ys
sizes-append size [] ys sizes = (tt, sizes)
sizes-append size (x ∷ xs) ys sizes = let rest = sizes-append size xs ys sizes.1 in ((sizes.0, rest.0), rest.1)

pub item_of_fixvec-fixvec : (size : ℕ) (front : List (List ℕ)) (item : List ℕ) (back items : List (List ℕ)) → front ++ item ∷ back ≡ items → AllByRecursion (λ item. length item ≡ size) items → item_of_fixvec size (fixvec items) (length front) ≡ item
unfolding item_of_fixvec fixvec
item_of_fixvec-fixvec size front item back items is sizes =
    let count = to_le_bytes w32 (length items) in
    let parts = sizes-append size front (item ∷ back) (subst (AllByRecursion (λ item. length item ≡ size)) (sym is) sizes) in
    let content : concat items ≡ concat front ++ (item ++ concat back) = ap concat (sym is) ∙ concat-append front (item ∷ back) in
    let whole : fixvec items ≡ (count ++ concat front) ++ (item ++ concat back) = ap (λ (l : List ℕ). count ++ l) content ∙ sym (append_assoc count (concat front) (item ++ concat back)) in
    let len : length (count ++ concat front) ≡ 4 + length front * size = length-append count (concat front) ∙ ap (λ (n : ℕ). 4 + n) (length-concat size front parts.0) in
    let to : 4 + (length front + 1) * size ≡ (4 + length front * size) + length item = omega (arith, parts.1.0) in
    rw to (ap (λ (b : List ℕ). slice_range b (4 + length front * size) ((4 + length front * size) + length item)) whole ∙ slice-mid (count ++ concat front) item (concat back) (4 + length front * size) len)

items_from-fixvec : (size : ℕ) (front back items : List (List ℕ)) → front ++ back ≡ items → AllByRecursion (λ item. length item ≡ size) items → map (item_of_fixvec size (fixvec items)) (range_with_len (length front) (length back)) ≡ back
items_from-fixvec size front [] items is sizes = refl
items_from-fixvec size front (item ∷ back) items is sizes =
    let next_is : (front ++ item ∷ []) ++ back ≡ items = append_assoc front (item ∷ []) back ∙ is in
    let next_len : length (front ++ item ∷ []) ≡ length front + 1 = length-append front (item ∷ []) in
    let here = item_of_fixvec-fixvec size front item back items is sizes in
    let rest : map (item_of_fixvec size (fixvec items)) (range_with_len (length front + 1) (length back)) ≡ back = ap (λ (n : ℕ). map (item_of_fixvec size (fixvec items)) (range_with_len n (length back))) (sym next_len) ∙ items_from-fixvec size (front ++ item ∷ []) back items next_is sizes in
    cc

-- the items of an encoding are read from it
pub items_of_fixvec-fixvec : (size : ℕ) (items : List (List ℕ)) → AllByRecursion (λ item. length item ≡ size) items → length items < 2 ^ 32 → items_of_fixvec size (fixvec items) ≡ items
unfolding items_of_fixvec
items_of_fixvec-fixvec size items sizes fits = rw (header_number-fixvec items fits) (items_from-fixvec size [] items items refl sizes)

pub IsFixvec_only : (size : ℕ) (bytes : List ℕ) (items : List (List ℕ)) → IsFixvec size bytes items → items_of_fixvec size bytes ≡ items
IsFixvec_only size bytes items h = ap (items_of_fixvec size) h.encoding ∙ items_of_fixvec-fixvec size items h.sizes h.count
