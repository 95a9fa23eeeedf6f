-- Bytes that keep the reading rules are the encoding of the parts that stand in them, and each encoding keeps the rules.
use Rattle.std.proofs.Common.{◌≡◌, ℕ, zero, suc, ◌+◌, ◌-◌, ◌*◌, ◌^◌, ◌<◌, ◌≤◌, false, ltb, List, [], ◌∷◌, ◌++◌, length, get_or, map, take, drop, refl, sym, ap, subst, ◌∙◌, append_assoc, arith, inl, inr, Some}
use Rattle.std.specs.Prelude.{slice_get, ◌↔◌}
use Rattle.std.specs.Int.{w32, to_le_bytes, from_le_bytes}
use Rattle.std.specs.List.{concat, slice_range, range_with_len, AllByRecursion}
use Rattle.std.proofs.lemmas.Bool.{le-ltb}
use Rattle.std.proofs.lemmas.List.{nil_from_length, take-append-drop, take_more, drop-drop, drop_all, length-append, length-take, length-drop, get_or-take, get_or-drop, get_or_past}
use Rattle.std.proofs.lemmas.List.FromFn.{length-map-range_with_len, get_or-map-range_with_len}
use Rattle.std.proofs.lemmas.Option.{slice_get-get_or}
use Rattle.std.proofs.lemmas.Bool.{cases_lt}
use Rattle.std.proofs.lemmas.Nat.{le_bytes_4}
use Rattle.chain_defs.specs.Molecule.{fixvec, offsets, header_size, full_size, dynvec, IsFixvec, IsDynvec, IsTable, header_number, item_of_fixvec, items_of_fixvec, part_count, part_start, part_of, parts_of}
use Rattle.chain_defs.proofs.MoleculeLaws.{concat-append, length-dynvec, length-fixvec, length-concat, header_number-dynvec, header_number-fixvec, part_count-dynvec, part_start-dynvec, IsTable_only}
use Rattle.mol_schema.specs.Layout.{IsLaidOut, IsCounted}

abbrev pub IsBytes : List ℕ → Type 0
IsBytes bytes = (i : ℕ) → get_or bytes i 0 < 256

four_bytes : (bytes : List ℕ) (at : ℕ) → IsBytes bytes → IsBytes (take 4 (drop at bytes))
four_bytes bytes at byte i =
    elim (cases_lt i 4) [
      | inl lt ↦ rw (get_or-take 4 (drop at bytes) i 0 lt, get_or-drop at bytes i 0) (byte (at + i))
      | inr le ↦ rw (get_or_past (take 4 (drop at bytes)) i 0 (omega (arith, length-take 4 (drop at bytes)))) (omega arith)
    ]

-- a byte of the four at a place
pub get_or-four_bytes : (bytes : List ℕ) (at k : ℕ) → k < 4 → get_or (take 4 (drop at bytes)) k 0 ≡ get_or bytes (at + k) 0
get_or-four_bytes bytes at k lt = get_or-take 4 (drop at bytes) k 0 lt ∙ get_or-drop at bytes k 0

-- four bytes are the u32 that is read there
u32_bytes : (bytes : List ℕ) (at : ℕ) → IsBytes bytes → at + 4 ≤ length bytes → to_le_bytes w32 (header_number bytes at) ≡ take 4 (drop at bytes)
unfolding header_number
u32_bytes bytes at byte within =
    let len : length (take 4 (drop at bytes)) ≡ 4 = omega (arith, length-take 4 (drop at bytes), length-drop at bytes) in
    le_bytes_4 (take 4 (drop at bytes)) (from_le_bytes w32 (take 4 (drop at bytes))) len (four_bytes bytes at byte) refl

pub header_number-fits : (bytes : List ℕ) (at : ℕ) → IsBytes bytes → header_number bytes at < 2 ^ 32
unfolding header_number
header_number-fits bytes at byte = let each = four_bytes bytes at byte in omega (arith, each 0, each 1, each 2, each 3)

range-then-drop : (bytes : List ℕ) (a b : ℕ) → a ≤ b → slice_range bytes a b ++ drop b bytes ≡ drop a bytes
range-then-drop bytes a b le =
    let k : a + (b - a) ≡ b = omega arith in
    let rest : drop (b - a) (drop a bytes) ≡ drop b bytes = drop-drop (b - a) a bytes ∙ ap (λ (n : ℕ). drop n bytes) k in
    rw (← rest) (take-append-drop (b - a) (drop a bytes))

length-range : (bytes : List ℕ) (a b : ℕ) → a ≤ b → b ≤ length bytes → a + length (slice_range bytes a b) ≡ b
length-range bytes a b le within = omega (arith, length-take (b - a) (drop a bytes), length-drop a bytes)

-- ---- dynvec and table

start-end : (bytes : List ℕ) → part_start bytes (part_count bytes) ≡ length bytes
unfolding part_start
start-end bytes = let past : ltb (part_count bytes) (part_count bytes) ≡ false = le-ltb _ _ (omega arith) in rw past

-- from any part on the offsets stay within the bytes
start-below : (bytes : List ℕ) → IsLaidOut bytes → (k i : ℕ) → i + k ≡ part_count bytes → part_start bytes i ≤ length bytes
start-below bytes laid zero i at = let is : i ≡ part_count bytes = omega arith in rw is (omega (arith, start-end bytes))
start-below bytes laid (suc k) i at =
    let rest = start-below bytes laid k (i + 1) (omega arith) in
    omega (arith, laid.rises i (omega arith))

pub start-within : (bytes : List ℕ) → IsLaidOut bytes → (i : ℕ) → i ≤ part_count bytes → part_start bytes i ≤ length bytes
start-within bytes laid i le = start-below bytes laid (part_count bytes - i) i (omega arith)

pub header-within : (bytes : List ℕ) → IsLaidOut bytes → 4 + 4 * part_count bytes ≤ length bytes
header-within bytes laid = omega (arith, start-within bytes laid 0 (omega arith), laid.header)

-- bytes too short for an offset have no part
pub layout-short : (bytes : List ℕ) → IsLaidOut bytes → length bytes < 8 → length bytes ≡ 4
layout-short bytes laid short =
    let none : part_count bytes ≡ 0 = omega (arith, header-within bytes laid) in
    omega (arith, ap (part_start bytes) none, start-end bytes, laid.header)

pub layout-empty : (bytes : List ℕ) → length bytes ≡ 4 → header_number bytes 0 ≡ length bytes → IsLaidOut bytes
unfolding part_count part_start
layout-empty bytes len size =
    let none : part_count bytes ≡ 0 = rw len refl in
    record {
      whole = omega arith;
      size = size;
      header = omega (arith, ap (part_start bytes) none, start-end bytes);
      rises = λ i lt. absurd (omega arith);
    }

start-read : (bytes : List ℕ) (i : ℕ) → i < part_count bytes → part_start bytes i ≡ header_number bytes (4 + 4 * i)
unfolding part_start
start-read bytes i lt = grind arith

-- the parts from i on are what stands from the start of part i on
concat-parts : (bytes : List ℕ) → IsLaidOut bytes → (k i : ℕ) → i + k ≡ part_count bytes → concat (map (part_of bytes) (range_with_len i k)) ≡ drop (part_start bytes i) bytes
unfolding part_of
concat-parts bytes laid zero i at =
    let is : i ≡ part_count bytes = omega arith in
    rw is (sym (drop_all (part_start bytes (part_count bytes)) bytes (omega (arith, start-end bytes))))
concat-parts bytes laid (suc k) i at =
    rw (concat-parts bytes laid k (i + 1) (omega arith)) (range-then-drop bytes (part_start bytes i) (part_start bytes (i + 1)) (laid.rises i (omega arith)))

-- their offsets are what stands from offset i on, to the end of the header
offsets-parts : (bytes : List ℕ) → IsBytes bytes → IsLaidOut bytes → (k i : ℕ) → i + k ≡ part_count bytes
    → offsets (part_start bytes i) (map (part_of bytes) (range_with_len i k)) ++ drop (4 + 4 * part_count bytes) bytes ≡ drop (4 + 4 * i) bytes
unfolding offsets part_of
offsets-parts bytes byte laid zero i at = let is : i ≡ part_count bytes = omega arith in rw is refl
offsets-parts bytes byte laid (suc k) i at =
    let lt : i < part_count bytes = omega arith in
    let room = header-within bytes laid in
    let number : to_le_bytes w32 (part_start bytes i) ≡ take 4 (drop (4 + 4 * i) bytes) = ap (to_le_bytes w32) (start-read bytes i lt) ∙ u32_bytes bytes (4 + 4 * i) byte (omega arith) in
    let next : part_start bytes i + length (slice_range bytes (part_start bytes i) (part_start bytes (i + 1))) ≡ part_start bytes (i + 1) =
    length-range bytes (part_start bytes i) (part_start bytes (i + 1)) (laid.rises i lt) (start-within bytes laid (i + 1) (omega arith)) in
    let more = map (part_of bytes) (range_with_len (i + 1) k) in
    let rest : offsets (part_start bytes (i + 1)) more ++ drop (4 + 4 * part_count bytes) bytes ≡ drop (4 + 4 * (i + 1)) bytes = offsets-parts bytes byte laid k (i + 1) (omega arith) in
    let four : drop (4 + 4 * (i + 1)) bytes ≡ drop 4 (drop (4 + 4 * i) bytes) = ap (λ (n : ℕ). drop n bytes) (omega arith) ∙ sym (drop-drop 4 (4 + 4 * i) bytes) in
    ap (λ (n : ℕ). to_le_bytes w32 (part_start bytes i) ++ (offsets n more ++ drop (4 + 4 * part_count bytes) bytes)) next
    ∙ ap (λ (l : List ℕ). to_le_bytes w32 (part_start bytes i) ++ l) (rest ∙ four)
    ∙ ap (λ (l : List ℕ). l ++ drop 4 (drop (4 + 4 * i) bytes)) number
    ∙ take-append-drop 4 (drop (4 + 4 * i) bytes)

pub length-parts_of : (bytes : List ℕ) → length (parts_of bytes) ≡ part_count bytes
unfolding parts_of
length-parts_of bytes = length-map-range_with_len (part_of bytes) 0 (part_count bytes)

-- what keeps the rules is the encoding of its parts
dynvec-parts_of : (bytes : List ℕ) → IsBytes bytes → IsLaidOut bytes → bytes ≡ dynvec (parts_of bytes)
unfolding dynvec parts_of full_size header_size
dynvec-parts_of bytes byte laid =
    let parts = map (part_of bytes) (range_with_len 0 (part_count bytes)) in
    let content : concat parts ≡ drop (4 + 4 * part_count bytes) bytes = concat-parts bytes laid (part_count bytes) 0 (omega arith) ∙ ap (λ (n : ℕ). drop n bytes) laid.header in
    let count : length parts ≡ part_count bytes = length-map-range_with_len (part_of bytes) 0 (part_count bytes) in
    let header : 4 + 4 * length parts ≡ part_start bytes 0 = omega (arith, laid.header) in
    let size : 4 + 4 * length parts + length (concat parts) ≡ header_number bytes 0 = omega (arith, ap length content, length-drop (4 + 4 * part_count bytes) bytes, header-within bytes laid, laid.size) in
    let number : to_le_bytes w32 (4 + 4 * length parts + length (concat parts)) ≡ take 4 bytes = ap (to_le_bytes w32) size ∙ u32_bytes bytes 0 byte laid.whole in
    let rest : offsets (4 + 4 * length parts) parts ++ concat parts ≡ drop 4 bytes =
    ap (λ (n : ℕ). offsets n parts ++ concat parts) header ∙ ap (λ (l : List ℕ). offsets (part_start bytes 0) parts ++ l) content ∙ offsets-parts bytes byte laid (part_count bytes) 0 (omega arith) in
    sym (append_assoc (to_le_bytes w32 (4 + 4 * length parts + length (concat parts))) (offsets (4 + 4 * length parts) parts) (concat parts)
    ∙ ap (λ (l : List ℕ). to_le_bytes w32 (4 + 4 * length parts + length (concat parts)) ++ l) rest
    ∙ ap (λ (l : List ℕ). l ++ drop 4 bytes) number
    ∙ take-append-drop 4 bytes)

pub IsDynvec-from_layout : (bytes : List ℕ) → IsBytes bytes → IsLaidOut bytes → IsDynvec bytes (parts_of bytes)
IsDynvec-from_layout bytes byte laid = record { encoding = dynvec-parts_of bytes byte laid; size = omega (arith, header_number-fits bytes 0 byte, laid.size) }

-- an encoding keeps the rules
layout-dynvec : (parts : List (List ℕ)) → full_size parts < 2 ^ 32 → IsLaidOut (dynvec parts)
unfolding full_size header_size
layout-dynvec parts fits =
    let len = length-dynvec parts in
    let count = part_count-dynvec parts fits in
    record {
      whole = omega arith;
      size = header_number-dynvec parts fits ∙ sym len;
      header = omega (arith, part_start-dynvec [] parts parts refl fits);
      rises = λ i lt.
          let from = part_start-dynvec (take i parts) (drop i parts) parts (take-append-drop i parts) fits in
          let to = part_start-dynvec (take (i + 1) parts) (drop (i + 1) parts) parts (take-append-drop (i + 1) parts) fits in
          let from_len : length (take i parts) ≡ i = omega (arith, length-take i parts) in
          let to_len : length (take (i + 1) parts) ≡ i + 1 = omega (arith, length-take (i + 1) parts) in
          let more : take (i + 1) parts ≡ take i parts ++ get_or parts i [] ∷ [] = take_more parts i [] (omega arith) in
          let content : length (concat (take (i + 1) parts)) ≡ length (concat (take i parts)) + length (concat (get_or parts i [] ∷ [])) =
          ap (λ (l : List (List ℕ)). length (concat l)) more ∙ ap length (concat-append (take i parts) (get_or parts i [] ∷ [])) ∙ length-append (concat (take i parts)) (concat (get_or parts i [] ∷ [])) in
          let from_is : part_start (dynvec parts) i ≡ header_size parts + length (concat (take i parts)) = ap (part_start (dynvec parts)) (sym from_len) ∙ from in
          let to_is : part_start (dynvec parts) (i + 1) ≡ header_size parts + length (concat (take (i + 1) parts)) = ap (part_start (dynvec parts)) (sym to_len) ∙ to in
          omega arith;
    }

pub IsLaidOut-from_dynvec : (bytes : List ℕ) (items : List (List ℕ)) → IsDynvec bytes items → IsLaidOut bytes
IsLaidOut-from_dynvec bytes items h = subst IsLaidOut (sym h.encoding) (layout-dynvec items (omega (arith, ap length h.encoding, length-dynvec items, h.size)))

pub length-dynvec_empty : (bytes : List ℕ) (items : List (List ℕ)) → IsDynvec bytes items → (length bytes ≡ 4) ↔ (items ≡ [])
unfolding full_size header_size
length-dynvec_empty bytes items h =
    let len : length bytes ≡ full_size items = ap length h.encoding ∙ length-dynvec items in
    (λ four. nil_from_length items (omega arith), λ none. omega (arith, ap length none, ap (λ (l : List (List ℕ)). length (concat l)) none))

pub slice_get-parts_of : (bytes : List ℕ) (i : ℕ) → i < part_count bytes → slice_get (parts_of bytes) i ≡ Some (part_of bytes i)
unfolding parts_of
slice_get-parts_of bytes i lt =
    slice_get-get_or (parts_of bytes) i [] (omega (arith, length-parts_of bytes)) ∙ ap (λ (l : List ℕ). Some l) (get_or-map-range_with_len (part_of bytes) 0 (part_count bytes) i i [] lt (omega arith))

-- ---- table

pub IsTable-from_layout : (n : ℕ) (bytes : List ℕ) → IsBytes bytes → IsLaidOut bytes → part_count bytes ≡ n → IsTable n bytes (parts_of bytes)
IsTable-from_layout n bytes byte laid count =
    let h = IsDynvec-from_layout bytes byte laid in
    record { encoding = h.encoding; size = h.size; count = length-parts_of bytes ∙ count }

pub IsDynvec-from_table : (n : ℕ) (bytes : List ℕ) (fields : List (List ℕ)) → IsTable n bytes fields → IsDynvec bytes fields
IsDynvec-from_table n bytes fields h = record { encoding = h.encoding; size = h.size }

pub part_count-table : (n : ℕ) (bytes : List ℕ) (fields : List (List ℕ)) → IsTable n bytes fields → part_count bytes ≡ n
part_count-table n bytes fields h = sym (length-parts_of bytes) ∙ ap length (IsTable_only n bytes fields h) ∙ h.count

-- ---- fixvec

concat-items : (size : ℕ) (bytes : List ℕ) → IsCounted size bytes → (k i : ℕ) → i + k ≡ header_number bytes 0 → concat (map (item_of_fixvec size bytes) (range_with_len i k)) ≡ drop (4 + i * size) bytes
unfolding item_of_fixvec
concat-items size bytes h zero i at =
    let is : i ≡ header_number bytes 0 = omega arith in
    rw is (sym (drop_all (4 + header_number bytes 0 * size) bytes (omega (arith, h.count))))
concat-items size bytes h (suc k) i at =
    rw (concat-items size bytes h k (i + 1) (omega arith)) (range-then-drop bytes (4 + i * size) (4 + (i + 1) * size) (omega arith))

item-within : (size : ℕ) (bytes : List ℕ) → IsCounted size bytes → (i k : ℕ) → i + suc k ≡ header_number bytes 0 → 4 + (i + 1) * size ≤ length bytes
item-within size bytes h i k at = omega (arith, h.count, ap (λ (n : ℕ). n * size) at)

pub item-ends-within : (size : ℕ) (bytes : List ℕ) → IsCounted size bytes → (i : ℕ) → i < header_number bytes 0 → (4 + i * size) + size ≤ length bytes
item-ends-within size bytes h i lt = omega (arith, item-within size bytes h i (header_number bytes 0 - suc i) (omega arith))

sizes-items : (size : ℕ) (bytes : List ℕ) → IsCounted size bytes → (k i : ℕ) → i + k ≡ header_number bytes 0 → AllByRecursion (λ item. length item ≡ size) (map (item_of_fixvec size bytes) (range_with_len i k))
unfolding item_of_fixvec
sizes-items size bytes h zero i at = tt
sizes-items size bytes h (suc k) i at =
    let len = length-range bytes (4 + i * size) (4 + (i + 1) * size) (omega arith) (item-within size bytes h i k at) in
    (omega arith, sizes-items size bytes h k (i + 1) (omega arith))

pub length-items_of_fixvec : (size : ℕ) (bytes : List ℕ) → length (items_of_fixvec size bytes) ≡ header_number bytes 0
unfolding items_of_fixvec
length-items_of_fixvec size bytes = length-map-range_with_len (item_of_fixvec size bytes) 0 (header_number bytes 0)

pub IsFixvec-from_count : (size : ℕ) (bytes : List ℕ) → IsBytes bytes → IsCounted size bytes → IsFixvec size bytes (items_of_fixvec size bytes)
unfolding items_of_fixvec fixvec
IsFixvec-from_count size bytes byte h =
    let items = map (item_of_fixvec size bytes) (range_with_len 0 (header_number bytes 0)) in
    let count : length items ≡ header_number bytes 0 = length-map-range_with_len (item_of_fixvec size bytes) 0 (header_number bytes 0) in
    let number : to_le_bytes w32 (length items) ≡ take 4 bytes = ap (to_le_bytes w32) count ∙ u32_bytes bytes 0 byte h.whole in
    let front : 4 + 0 * size ≡ 4 = omega arith in
    let content : concat items ≡ drop 4 bytes = concat-items size bytes h (header_number bytes 0) 0 (omega arith) ∙ ap (λ (n : ℕ). drop n bytes) front in
    record {
      encoding = sym (ap (λ (l : List ℕ). to_le_bytes w32 (length items) ++ l) content ∙ ap (λ (l : List ℕ). l ++ drop 4 bytes) number ∙ take-append-drop 4 bytes);
      sizes = sizes-items size bytes h (header_number bytes 0) 0 (omega arith);
      count = omega (arith, count, header_number-fits bytes 0 byte);
    }

pub IsCounted-from_fixvec : (size : ℕ) (bytes : List ℕ) (items : List (List ℕ)) → IsFixvec size bytes items → IsCounted size bytes
IsCounted-from_fixvec size bytes items h =
    let len = ap length h.encoding ∙ length-fixvec items in
    let number : header_number bytes 0 ≡ length items = ap (λ (b : List ℕ). header_number b 0) h.encoding ∙ header_number-fixvec items h.count in
    record { whole = omega arith; count = omega (arith, length-concat size items h.sizes, ap (λ (n : ℕ). n * size) number) }

pub slice_get-items_of_fixvec : (size : ℕ) (bytes : List ℕ) (i : ℕ) → i < header_number bytes 0 → slice_get (items_of_fixvec size bytes) i ≡ Some (item_of_fixvec size bytes i)
unfolding items_of_fixvec
slice_get-items_of_fixvec size bytes i lt =
    slice_get-get_or (items_of_fixvec size bytes) i [] (omega (arith, length-items_of_fixvec size bytes)) ∙ ap (λ (l : List ℕ). Some l) (get_or-map-range_with_len (item_of_fixvec size bytes) 0 (header_number bytes 0) i i [] lt (omega arith))
