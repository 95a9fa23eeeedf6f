-- Reading gives the encoding of the one value that a tree is read as, and none where there is no such value: numbers, bytes,
-- names and lists.
use Rattle.std.proofs.Common.{◌≡◌, ℕ, zero, suc, ◌^◌, ◌<◌, ◌≤◌, ◌==◌, Bool, true, false, ◌&&◌, List, [], ◌∷◌, ◌++◌, length, map, Option, Some, None, refl, sym, ap, subst, ◌∙◌, arith, ltb-true, lt-ltb, le-leb, ne_eqb}
use Rattle.std.specs.Prelude.{IsTrue, if◌then◌else◌, nat_lt, nat_le}
use Rattle.std.specs.Int.{Width, byte_len, to_le_bytes, w32}
use Rattle.std.specs.Fmt.{digits}
use Rattle.std.specs.List.{concat}
use Rattle.std.specs.Str.{bytes_eq}
use Rattle.std.proofs.lemmas.Bool.{and_parts, and_from, eqb-false}
use Rattle.std.proofs.lemmas.List.{length-map}
use Rattle.hex.specs.Hex.{encode_lower, IsBytes}
use Rattle.chain_defs.specs.Molecule as molecule
use Rattle.chain_defs.specs.Shape as shape
use Rattle.chain_defs.proofs.ShapeLaws.{are_bytes-from}
use Rattle.chain_defs.proofs.MoleculeLaws.{length-dynvec}
use Rattle.serde_json.specs.Data.{Data, null, boolean, number, string, array, object, Items, no_items, item}
use Rattle.json_defs.specs.Form.{Form, has_digits, is_text, lower_digit, hex_number, byte_string, named_byte, items_read, list}
use Rattle.json_defs.specs.Laws.{IsReadOnce}
use Rattle.json_blocks.specs.Digits.{value_after, pairs_of}
use Rattle.json_blocks.specs.Reading.{◌>>=◌, digits_at, bytes_from, number_from, bytes_at, array_at, content_at, number_at, other_byte, named_at, array_items, items_at, fixvec_at, dynvec_at, table_from}
use Rattle.json_blocks.proofs.DigitLemmas.{value_of-below, value_after-lower, digits-value, digits-length, fits-limit, length-map_lower, found_again, bytes_again}
use Rattle.json_blocks.proofs.ReadOnce.{is_false, equal_texts, bytes_fit, same_bytes, bytes-once, array-once, Fits, items-once}

-- the bytes encode the one value that the tree is read as
pub record Found {V : Type 0} (form : Form V) (it : shape.Shape V) (t : Data) (bytes : List ℕ) : Type 0 where
  pub value : V
  pub fits : IsTrue (it.encoding value).fits
  pub read : form.reads value t ≡ true
  pub bytes_are : bytes ≡ shape.encoded it value
  pub alone : (w : V) → IsTrue (it.encoding w).fits → form.reads w t ≡ true → w ≡ value

abbrev pub Exact : {V : Type 0} → Form V → shape.Shape V → Data → Option (List ℕ) → Type 0
Exact {V} form it t None = (w : V) → IsTrue (it.encoding w).fits → form.reads w t ≡ true → ⊥
Exact form it t (Some bytes) = Found form it t bytes

opposite : {P : Type 0} {b : Bool} → b ≡ true → b ≡ false → P
opposite {P} {b} is is_not = is_false (sym is_not ∙ is)

-- ---- digits

digits_linked : (t : Data) (s ds : List ℕ) → digits_at t ≡ Some s → has_digits ds t ≡ bytes_eq (map lower_digit s) ds
digits_linked null s ds is = absurd (cc)
digits_linked (boolean b) s ds is = absurd (cc)
digits_linked (number n) s ds is = absurd (cc)
digits_linked (string []) s ds is = absurd (cc)
digits_linked (string (a ∷ [])) s ds is = absurd (cc)
digits_linked (string (a ∷ b ∷ r)) s ds is = by (a == 48) (b == 120) is
  where
    by : (x y : Bool) → (if x && y then Some r else None) ≡ Some s → (x && (y && bytes_eq (map lower_digit r) ds)) ≡ bytes_eq (map lower_digit s) ds
    by true true h = (let same : r ≡ s = cc in ap (λ (l : List ℕ). bytes_eq (map lower_digit l) ds) same)
    by true false h = absurd (cc)
    by false y h = absurd (cc)
digits_linked (array is') s ds is = absurd (cc)
digits_linked (object ms) s ds is = absurd (cc)

no_digits : (t : Data) (ds : List ℕ) → digits_at t ≡ None → has_digits ds t ≡ false
no_digits null ds is = refl
no_digits (boolean b) ds is = refl
no_digits (number n) ds is = refl
no_digits (string []) ds is = refl
no_digits (string (a ∷ [])) ds is = by (a == 48)
  where
    by : (x : Bool) → (x && false) ≡ false
    by true = refl
    by false = refl
no_digits (string (a ∷ b ∷ r)) ds is = by (a == 48) (b == 120) is
  where
    by : (x y : Bool) → (if x && y then Some r else None) ≡ None → (x && (y && bytes_eq (map lower_digit r) ds)) ≡ false
    by true true h = absurd (cc)
    by true false h = refl
    by false y h = refl
no_digits (array is') ds is = refl
no_digits (object ms) ds is = refl

-- ---- bytes

pairs-bytes : (s : List ℕ) → IsBytes (pairs_of s)
unfolding pairs_of
pairs-bytes [] i = omega arith
pairs-bytes (c ∷ []) i = omega arith
pairs-bytes (high ∷ low ∷ s) zero = omega (arith, value_of-below high, value_of-below low)
pairs-bytes (high ∷ low ∷ s) (suc i) = pairs-bytes s i

abbrev BytesRead : Data → Option (List ℕ) → Type 0
BytesRead t None = (w : List ℕ) → IsBytes w → byte_string.reads w t ≡ true → ⊥
BytesRead t (Some b) = IsBytes b × (byte_string.reads b t ≡ true)

bytes-read : (t : Data) → BytesRead t (bytes_at t)
unfolding byte_string bytes_from
bytes-read t = by (digits_at t) refl
  where
    tested : (s : List ℕ) (b : Bool) → digits_at t ≡ Some s → bytes_eq (map lower_digit s) (encode_lower (pairs_of s)) ≡ b → BytesRead t (if b then Some (pairs_of s) else None)
    tested s true is e = (pairs-bytes s, digits_linked t s (encode_lower (pairs_of s)) is ∙ e)
    tested s false is e =
        λ w fits read. opposite (bytes_again s (pairs_of s) (encode_lower (pairs_of s)) w fits refl refl
        (equal_texts (map lower_digit s) (encode_lower w) (sym (digits_linked t s (encode_lower w) is) ∙ read))) e

    by : (o : Option (List ℕ)) → digits_at t ≡ o → BytesRead t (o >>= bytes_from)
    by None is = λ w fits read. opposite read (no_digits t (encode_lower w) is)
    by (Some s) is = tested s (bytes_eq (map lower_digit s) (encode_lower (pairs_of s))) is refl

pub array-exact : (n : ℕ) (t : Data) → Exact byte_string (shape.byte_array n) t (array_at n t)
unfolding array_at
array-exact n t = by (bytes_at t) (bytes-read t)
  where
    sized : (b : List ℕ) (x : Bool) → (length b == n) ≡ x → IsBytes b → byte_string.reads b t ≡ true → Exact byte_string (shape.byte_array n) t (if x then Some b else None)
    sized b true e fits read = (
        let whole : IsTrue ((length b == n) && shape.are_bytes b) = and_from _ _ e (are_bytes-from b fits) in
        record { value = b; fits = whole; read = read; bytes_are = refl; alone = λ w f r. array-once n w b t f whole r read })
    sized b false e fits read =
        λ w f r. (
        let parts = and_parts (length w == n) (shape.are_bytes w) f in
        let same : w ≡ b = same_bytes w b t (bytes_fit w parts.1) fits r read in
        opposite (ap (λ (l : List ℕ). length l == n) (sym same) ∙ parts.0) e)

    by : (o : Option (List ℕ)) → BytesRead t o → Exact byte_string (shape.byte_array n) t (o >>= (λ b. if length b == n then Some b else None))
    by None none = λ w f r. none w (bytes_fit w (and_parts (length w == n) (shape.are_bytes w) f).1) r
    by (Some b) found = sized b (length b == n) refl found.0 found.1

side_by_side : (b : List ℕ) → concat (map (λ x. x ∷ []) b) ≡ b
side_by_side [] = refl
side_by_side (x ∷ b) = ap (λ (l : List ℕ). x ∷ l) (side_by_side b)

pub content-exact : (t : Data) → Exact byte_string shape.bytes t (content_at t)
unfolding content_at molecule.fixvec
content-exact t = by (bytes_at t) (bytes-read t)
  where
    encoding : (b : List ℕ) → to_le_bytes w32 (length b) ++ b ≡ shape.encoded shape.bytes b
    encoding b =
        ap (λ (n : ℕ). to_le_bytes w32 n ++ b) (sym (length-map b (λ x. x ∷ [])))
        ∙ ap (λ (l : List ℕ). to_le_bytes w32 (length (map (λ x. x ∷ []) b)) ++ l) (sym (side_by_side b))

    sized : (b : List ℕ) (x : Bool) → nat_lt (length b) (2 ^ 32) ≡ x → IsBytes b → byte_string.reads b t ≡ true
        → Exact byte_string shape.bytes t (if x then Some (to_le_bytes w32 (length b) ++ b) else None)
    sized b true e fits read = (
        let whole : IsTrue (nat_lt (length b) (2 ^ 32) && shape.are_bytes b) = and_from _ _ e (are_bytes-from b fits) in
        record { value = b; fits = whole; read = read; bytes_are = encoding b; alone = λ w f r. bytes-once w b t f whole r read })
    sized b false e fits read =
        λ w f r. (
        let parts = and_parts (nat_lt (length w) (2 ^ 32)) (shape.are_bytes w) f in
        let same : w ≡ b = same_bytes w b t (bytes_fit w parts.1) fits r read in
        opposite (ap (λ (l : List ℕ). nat_lt (length l) (2 ^ 32)) (sym same) ∙ parts.0) e)

    by : (o : Option (List ℕ)) → BytesRead t o → Exact byte_string shape.bytes t (o >>= (λ b. if nat_lt (length b) (2 ^ 32) then Some (to_le_bytes w32 (length b) ++ b) else None))
    by None none = λ w f r. none w (bytes_fit w (and_parts (nat_lt (length w) (2 ^ 32)) (shape.are_bytes w) f).1) r
    by (Some b) found = sized b (nat_lt (length b) (2 ^ 32)) refl found.0 found.1

-- ---- numbers

abbrev NumberRead : Data → Option ℕ → Type 0
NumberRead t None = (n : ℕ) → n < 2 ^ 128 → hex_number.reads n t ≡ true → ⊥
NumberRead t (Some n) = (hex_number.reads n t ≡ true) × ((m : ℕ) → m < 2 ^ 128 → hex_number.reads m t ≡ true → m ≡ n)

number-read : (t : Data) → NumberRead t (digits_at t >>= number_from)
unfolding hex_number number_from
number-read t = by (digits_at t) refl
  where
    value_is : (s : List ℕ) (m : ℕ) → digits_at t ≡ Some s → m < 2 ^ 128 → has_digits (digits 16 false m) t ≡ true → map lower_digit s ≡ digits 16 false m
    value_is s m is fits read = equal_texts (map lower_digit s) (digits 16 false m) (sym (digits_linked t s (digits 16 false m) is) ∙ read)

    few : (s : List ℕ) (m : ℕ) → m < 2 ^ 128 → map lower_digit s ≡ digits 16 false m → nat_le (length s) 32 ≡ true
    few s m fits same = le-leb (length s) 32 (let h = digits-length m fits in let l = length-map_lower s in let e = ap length same in omega (arith, h, l, e))

    tested : (s : List ℕ) (x y : Bool) → digits_at t ≡ Some s → nat_le (length s) 32 ≡ x → bytes_eq (map lower_digit s) (digits 16 false (value_after 0 s)) ≡ y
        → NumberRead t (if x && y then Some (value_after 0 s) else None)
    tested s true true is short e = (
      digits_linked t s (digits 16 false (value_after 0 s)) is ∙ e,
      λ m fits read. sym (sym (value_after-lower 0 s) ∙ ap (value_after 0) (value_is s m is fits read) ∙ digits-value m (fits-limit m fits)),
    )
    tested s true false is short e = λ m fits read. opposite (found_again s (digits 16 false (value_after 0 s)) (value_after 0 s) m fits refl refl (value_is s m is fits read)) e
    tested s false y is long e = λ m fits read. opposite (few s m fits (value_is s m is fits read)) long

    by : (o : Option (List ℕ)) → digits_at t ≡ o → NumberRead t (o >>= number_from)
    by None is = λ m fits read. opposite read (no_digits t (digits 16 false m) is)
    by (Some s) is = tested s (nat_le (length s) 32) (bytes_eq (map lower_digit s) (digits 16 false (value_after 0 s))) is refl refl

bound_assoc : {A B C : Type 0} (o : Option A) (f : A → Option B) (g : B → Option C) → ((o >>= f) >>= g) ≡ (o >>= (λ a. f a >>= g))
bound_assoc None f g = refl
bound_assoc (Some a) f g = refl

pub number-exact : (w : Width) → IsReadOnce hex_number (shape.uint w) → 256 ^ byte_len w ≤ 2 ^ 128 → (t : Data) → Exact hex_number (shape.uint w) t (number_at w t)
unfolding number_at
number-exact w once small t =
    subst (Exact hex_number (shape.uint w) t) (bound_assoc (digits_at t) number_from (λ n. if nat_lt n (256 ^ byte_len w) then Some (to_le_bytes w n) else None))
    (by (digits_at t >>= number_from) (number-read t))
  where
    fits128 : (n : ℕ) → nat_lt n (256 ^ byte_len w) ≡ true → n < 2 ^ 128
    fits128 n f = (let less = ltb-true n (256 ^ byte_len w) f in omega (arith, less, small))

    sized : (n : ℕ) (x : Bool) → nat_lt n (256 ^ byte_len w) ≡ x → hex_number.reads n t ≡ true → ((m : ℕ) → m < 2 ^ 128 → hex_number.reads m t ≡ true → m ≡ n)
        → Exact hex_number (shape.uint w) t (if x then Some (to_le_bytes w n) else None)
    sized n true e read alone = record { value = n; fits = e; read = read; bytes_are = refl; alone = λ m f r. alone m (fits128 m f) r }
    sized n false e read alone = λ m f r. opposite (ap (λ (k : ℕ). nat_lt k (256 ^ byte_len w)) (sym (alone m (fits128 m f) r)) ∙ f) e

    by : (o : Option ℕ) → NumberRead t o → Exact hex_number (shape.uint w) t (o >>= (λ n. if nat_lt n (256 ^ byte_len w) then Some (to_le_bytes w n) else None))
    by None none = λ m f r. none m (fits128 m f) r
    by (Some n) found = sized n (nat_lt n (256 ^ byte_len w)) refl found.0 found.1

-- ---- names

-- a byte with names is read as 0, 1, or a byte above 1
named_read : (zeroth first : List ℕ) (t : Data) (b : ℕ) → (named_byte zeroth first).reads b t ≡ true → is_text zeroth t ≡ false → is_text first t ≡ false
    → (byte_string.reads (b ∷ []) t ≡ true) × (1 < b)
unfolding named_byte
named_read zeroth first t b read no_zeroth no_first = by (b == 0) (b == 1) refl refl read
  where
    by : (x y : Bool) → (b == 0) ≡ x → (b == 1) ≡ y
        → (if x then is_text zeroth t else (if y then is_text first t else byte_string.reads (b ∷ []) t)) ≡ true → (byte_string.reads (b ∷ []) t ≡ true) × (1 < b)
    by true y e e' r = opposite r no_zeroth
    by false true e e' r = opposite r no_first
    by false false e e' r = (r, (let not_zero = eqb-false b 0 e in let not_one = eqb-false b 1 e' in omega (arith, not_zero, not_one)))

named_byte-reads : (zeroth first : List ℕ) (t : Data) (b : ℕ) → 1 < b → byte_string.reads (b ∷ []) t ≡ true → (named_byte zeroth first).reads b t ≡ true
unfolding named_byte
named_byte-reads zeroth first t b above read =
    let not_zero : (b == 0) ≡ false = ne_eqb b 0 (λ h. omega arith) in
    let not_one : (b == 1) ≡ false = ne_eqb b 1 (λ h. omega arith) in
    rw (not_zero, not_one) read

named_byte-zeroth : (zeroth first : List ℕ) (t : Data) → is_text zeroth t ≡ true → (named_byte zeroth first).reads 0 t ≡ true
unfolding named_byte
named_byte-zeroth zeroth first t read = read

named_byte-first : (zeroth first : List ℕ) (t : Data) → is_text first t ≡ true → (named_byte zeroth first).reads 1 t ≡ true
unfolding named_byte
named_byte-first zeroth first t read = read

one_byte : (b : ℕ) → nat_lt b 256 ≡ true → IsBytes (b ∷ [])
one_byte b fits zero = ltb-true b 256 fits
one_byte b fits (suc i) = omega arith

pub named-exact : (zeroth first : List ℕ) → IsReadOnce (named_byte zeroth first) shape.byte → (t : Data) → Exact (named_byte zeroth first) shape.byte t (named_at zeroth first t)
unfolding named_at
named-exact zeroth first once t = by (is_text zeroth t) (is_text first t) refl refl
  where
    just : (b : ℕ) → nat_lt b 256 ≡ true → (named_byte zeroth first).reads b t ≡ true → Found (named_byte zeroth first) shape.byte t (b ∷ [])
    just b fits read = record { value = b; fits = fits; read = read; bytes_are = refl; alone = λ w f r. once w b t f fits r read }

    above : (b : ℕ) (x : Bool) → nat_lt 1 b ≡ x → IsBytes (b ∷ []) → byte_string.reads (b ∷ []) t ≡ true → is_text zeroth t ≡ false → is_text first t ≡ false
        → Exact (named_byte zeroth first) shape.byte t (if x then Some (b ∷ []) else None)
    above b true e fits read no_zeroth no_first = just b (lt-ltb b 256 (fits 0)) (named_byte-reads zeroth first t b (ltb-true 1 b e) read)
    above b false e fits read no_zeroth no_first =
        λ w f r. (
        let other = named_read zeroth first t w r no_zeroth no_first in
        let same : w ∷ [] ≡ b ∷ [] = same_bytes (w ∷ []) (b ∷ []) t (one_byte w f) fits other.0 read in
        let equal : w ≡ b = cc in
        opposite (ap (nat_lt 1) (sym equal) ∙ lt-ltb 1 w other.1) e)

    others : (o : Option (List ℕ)) → BytesRead t o → is_text zeroth t ≡ false → is_text first t ≡ false → Exact (named_byte zeroth first) shape.byte t (o >>= other_byte)
    others None none no_zeroth no_first = λ w f r. none (w ∷ []) (one_byte w f) (named_read zeroth first t w r no_zeroth no_first).0
    others (Some []) found no_zeroth no_first =
        λ w f r. (let same : w ∷ [] ≡ [] = same_bytes (w ∷ []) [] t (one_byte w f) found.0 (named_read zeroth first t w r no_zeroth no_first).0 found.1 in absurd (cc))
    others (Some (b ∷ [])) found no_zeroth no_first = above b (nat_lt 1 b) refl found.0 found.1 no_zeroth no_first
    others (Some (b ∷ c ∷ s)) found no_zeroth no_first =
        λ w f r. (let same : w ∷ [] ≡ b ∷ c ∷ s = same_bytes (w ∷ []) (b ∷ c ∷ s) t (one_byte w f) found.0 (named_read zeroth first t w r no_zeroth no_first).0 found.1 in absurd (cc))

    by : (x y : Bool) → is_text zeroth t ≡ x → is_text first t ≡ y
        → Exact (named_byte zeroth first) shape.byte t (if x then Some (0 ∷ []) else (if y then Some (1 ∷ []) else (bytes_at t >>= other_byte)))
    by true y e e' = just 0 refl (named_byte-zeroth zeroth first t e)
    by false true e e' = just 1 refl (named_byte-first zeroth first t e')
    by false false e e' = others (bytes_at t) (bytes-read t) e e'

-- ---- lists

-- the encodings of the values of a list
abbrev pub all_parts : {V : Type 0} → shape.Shape V → List V → List (List ℕ)
all_parts it vs = shape.parts (map it.encoding vs)

record ItemsFound {V : Type 0} (form : Form V) (it : shape.Shape V) (ds : Items) (bs : List (List ℕ)) : Type 0 where
  values : List V
  fits : Fits it values
  read : items_read form.reads values ds ≡ true
  are : bs ≡ all_parts it values

abbrev ItemsExact : {V : Type 0} → Form V → shape.Shape V → Items → Option (List (List ℕ)) → Type 0
ItemsExact {V} form it ds None = (ws : List V) → Fits it ws → items_read form.reads ws ds ≡ true → ⊥
ItemsExact form it ds (Some bs) = ItemsFound form it ds bs

items-exact : {V : Type 0} (form : Form V) (it : shape.Shape V) (read : Data → Option (List ℕ)) → ((t : Data) → Exact form it t (read t))
    → (ds : Items) → ItemsExact form it ds (items_at read ds)
unfolding items_at
items-exact form it read each no_items = record { values = []; fits = refl; read = refl; are = refl }
items-exact {V} form it read each (item d ds) = by (read d) (items_at read ds) (each d) (items-exact form it read each ds)
  where
    no_first : ((w : V) → IsTrue (it.encoding w).fits → form.reads w d ≡ true → ⊥) → (ws : List V) → Fits it ws → items_read form.reads ws (item d ds) ≡ true → ⊥
    no_first first [] f r = is_false r
    no_first first (w ∷ ws) f r = first w (and_parts _ _ f).0 (and_parts (form.reads w d) (items_read form.reads ws ds) r).0

    no_rest : ((ws : List V) → Fits it ws → items_read form.reads ws ds ≡ true → ⊥) → (ws : List V) → Fits it ws → items_read form.reads ws (item d ds) ≡ true → ⊥
    no_rest rest [] f r = is_false r
    no_rest rest (w ∷ ws) f r = rest ws (and_parts _ _ f).1 (and_parts (form.reads w d) (items_read form.reads ws ds) r).1

    by : (o : Option (List ℕ)) (others : Option (List (List ℕ))) → Exact form it d o → ItemsExact form it ds others
        → ItemsExact form it (item d ds) (o >>= (λ b. others >>= (λ bs. Some (b ∷ bs))))
    by None others first rest = no_first first
    by (Some b) None first rest = no_rest rest
    by (Some b) (Some bs) first rest = record {
      values = first.value ∷ rest.values;
      fits = and_from _ _ first.fits rest.fits;
      read = and_from _ _ first.read rest.read;
      are = (λ i. first.bytes_are i ∷ rest.are i);
    }

-- what a list is read as, by what its items are read as: `make` of the encodings where `fit` holds of them
list-exact : {V : Type 0} (form : Form V) (it : shape.Shape V) (whole : shape.Shape (List V)) (read : Data → Option (List ℕ)) (fit : List (List ℕ) → Bool) (make : List (List ℕ) → List ℕ)
    → IsReadOnce form it → ((t : Data) → Exact form it t (read t))
    → ((vs : List V) → IsTrue (whole.encoding vs).fits → Fits it vs × (fit (all_parts it vs) ≡ true))
    → ((vs : List V) → Fits it vs → fit (all_parts it vs) ≡ true → IsTrue (whole.encoding vs).fits)
    → ((vs : List V) → shape.encoded whole vs ≡ make (all_parts it vs))
    → (t : Data) → Exact (list form) whole t (array_items t >>= (λ ds. items_at read ds >>= (λ bs. if fit bs then Some (make bs) else None)))
list-exact form it whole read fit make once each from to encoding null = λ w f r. is_false r
list-exact form it whole read fit make once each from to encoding (boolean b) = λ w f r. is_false r
list-exact form it whole read fit make once each from to encoding (number n) = λ w f r. is_false r
list-exact form it whole read fit make once each from to encoding (string s) = λ w f r. is_false r
list-exact form it whole read fit make once each from to encoding (object ms) = λ w f r. is_false r
list-exact form it whole read fit make once each from to encoding (array ds) = by (items_at read ds) (items-exact form it read each ds)
  where
    sized : (bs : List (List ℕ)) (x : Bool) → fit bs ≡ x → ItemsFound form it ds bs → Exact (list form) whole (array ds) (if x then Some (make bs) else None)
    sized bs true e found = (
        let whole_fits = to found.values found.fits (ap fit (sym found.are) ∙ e) in
        record {
          value = found.values;
          fits = whole_fits;
          read = found.read;
          bytes_are = ap make found.are ∙ sym (encoding found.values);
          alone = λ w f r. items-once form it once w found.values ds (from w f).0 found.fits r found.read;
        })
    sized bs false e found =
        λ w f r. (
        let same = items-once form it once w found.values ds (from w f).0 found.fits r found.read in
        opposite (ap fit found.are ∙ ap (λ vs. fit (all_parts it vs)) (sym same) ∙ (from w f).1) e)

    by : (o : Option (List (List ℕ))) → ItemsExact form it ds o → Exact (list form) whole (array ds) (o >>= (λ bs. if fit bs then Some (make bs) else None))
    by None none = λ w f r. none w (from w f).0 r
    by (Some bs) found = sized bs (fit bs) refl found

length-all_parts : {V : Type 0} (it : shape.Shape V) (vs : List V) → length (all_parts it vs) ≡ length vs
length-all_parts it [] = refl
length-all_parts it (v ∷ vs) = ap suc (length-all_parts it vs)

pub fixvec-exact : {V : Type 0} (form : Form V) (it : shape.Shape V) (size : ℕ) (read : Data → Option (List ℕ)) → IsReadOnce form it → ((t : Data) → Exact form it t (read t))
    → (t : Data) → Exact (list form) (shape.fixvec size it) t (fixvec_at read t)
unfolding fixvec_at
fixvec-exact form it size read once each t =
    list-exact form it (shape.fixvec size it) read (λ bs. nat_lt (length bs) (2 ^ 32)) molecule.fixvec once each
    (λ vs f. ((and_parts _ _ f).1, ap (λ (n : ℕ). nat_lt n (2 ^ 32)) (length-all_parts it vs) ∙ (and_parts _ _ f).0))
    (λ vs f e. and_from _ _ (ap (λ (n : ℕ). nat_lt n (2 ^ 32)) (sym (length-all_parts it vs)) ∙ e) f)
    (λ vs. refl)
    t

pub dynvec-exact : {V : Type 0} (form : Form V) (it : shape.Shape V) (read : Data → Option (List ℕ)) → IsReadOnce form it → ((t : Data) → Exact form it t (read t))
    → (t : Data) → Exact (list form) (shape.dynvec it) t (dynvec_at read t)
unfolding dynvec_at table_from
dynvec-exact form it read once each t =
    list-exact form it (shape.dynvec it) read (λ bs. nat_lt (molecule.full_size bs) (2 ^ 32)) molecule.dynvec once each
    (λ vs f. ((and_parts _ _ f).1, ap (λ (n : ℕ). nat_lt n (2 ^ 32)) (sym (length-dynvec (all_parts it vs))) ∙ (and_parts _ _ f).0))
    (λ vs f e. and_from _ _ (ap (λ (n : ℕ). nat_lt n (2 ^ 32)) (length-dynvec (all_parts it vs)) ∙ e) f)
    (λ vs. refl)
    t
