-- Epochs are read as one value at most, back from their own tree, and as the reading of the code has it.
use Rattle.std.proofs.Common.{◌≡◌, ℕ, ◌^◌, ◌<◌, Bool, true, false, ◌&&◌, List, Option, Some, None, refl, sym, ap, ◌∙◌, inl, inr, arith, ltb-true, lt-ltb}
use Rattle.std.specs.Prelude.{if◌then◌else◌, nat_lt, ◌||◌, IsTrue}
use Rattle.std.specs.Int.{w64, to_le_bytes}
use Rattle.std.specs.Str.{bytes_eq}
use Rattle.std.specs.Fmt.{digits}
use Rattle.std.proofs.lemmas.Bool.{and_parts, and_from, or_left}
use Rattle.chain_defs.specs.Shape as shape
use Rattle.chain_defs.specs.Epochs.{is_well_formed}
use Rattle.chain_defs.specs.Specification.{keeps_s6}
use Rattle.serde_json.specs.Data.{Data, null, boolean, number, string, array, object}
use Rattle.json_defs.specs.Form.{is_text, has_digits, hex_number}
use Rattle.json_defs.specs.Laws.{IsReadBack, IsReadOnce}
use Rattle.json_blocks.specs.Reading.{◌>>=◌, number_at, or_else}
use Rattle.json_blocks.proofs.ReadOnce.{is_false, equal_texts, or_cases, two_names, u64-once}
use Rattle.json_blocks.proofs.ReadBack.{number-back}
use Rattle.json_blocks.proofs.Exact.{Found, Exact}
use Rattle.json_blocks.proofs.ExactObjects.{u64-exact}
use Rattle.json_spec.specs.Form.{span_text, epochs}
use Rattle.json_spec.specs.Reading.{value_after, span_from, span_at, epochs_at}
use Rattle.json_spec.proofs.Spans.{span-after, span-no-hex}

pub epochs-back : IsReadBack epochs
unfolding epochs
epochs-back v = or_left _ _ (number-back v)

digits_of : (v : ℕ) (t : Data) → hex_number.reads v t ≡ true → has_digits (digits 16 false v) t ≡ true
unfolding hex_number
digits_of v t read = read

same_span : (v w : ℕ) (t : Data) → (keeps_s6 v && is_text (span_text v) t) ≡ true → (keeps_s6 w && is_text (span_text w) t) ≡ true → v ≡ w
same_span v w t read read' =
    let p = and_parts (keeps_s6 v) (is_text (span_text v) t) read in
    let q = and_parts (keeps_s6 w) (is_text (span_text w) t) read' in
    let same : span_text v ≡ span_text w = two_names (span_text v) (span_text w) t p.1 q.1 in
    let both : Some v ≡ Some w = sym (span-after v p.0) ∙ ap (value_after 0 0 0 0) same ∙ span-after w q.0 in
    cc

apart : {P : Type 0} (v w : ℕ) (t : Data) → hex_number.reads v t ≡ true → (keeps_s6 w && is_text (span_text w) t) ≡ true → P
apart v w t hex span = absurd (span-no-hex w (digits 16 false v) t (and_parts (keeps_s6 w) (is_text (span_text w) t) span).1 (digits_of v t hex))

pub epochs-once : IsReadOnce epochs shape.u64
unfolding epochs
epochs-once v w t fits fits' read read' =
    elim (or_cases (hex_number.reads v t) (keeps_s6 v && is_text (span_text v) t) read) [
      | inl hex ↦ elim (or_cases (hex_number.reads w t) (keeps_s6 w && is_text (span_text w) t) read') [
        | inl hex' ↦ u64-once v w t fits fits' hex hex'
        | inr span' ↦ apart v w t hex span'
      ]
      | inr span ↦ elim (or_cases (hex_number.reads w t) (keeps_s6 w && is_text (span_text w) t) read') [
        | inl hex' ↦ apart w v t hex' span
        | inr span' ↦ same_span v w t span span'
      ]
    ]

-- ---- what the reading gives

abbrev SpanRead : Data → Option ℕ → Type 0
SpanRead t None = (v : ℕ) → keeps_s6 v ≡ true → is_text (span_text v) t ≡ true → ⊥
SpanRead t (Some v) = (keeps_s6 v ≡ true) × (is_text (span_text v) t ≡ true)

none_some : {P : Type 0} (o : Option ℕ) (v : ℕ) → o ≡ None → o ≡ Some v → P
none_some o v none some = (let clash : None ≡ Some v = sym none ∙ some in absurd (cc))

span-read : (t : Data) → SpanRead t (span_at t)
unfolding span_from
span-read null = λ v kept read. is_false read
span-read (boolean b) = λ v kept read. is_false read
span-read (number n) = λ v kept read. is_false read
span-read (string s) = by (value_after 0 0 0 0 s) refl
  where
    after : (v : ℕ) → keeps_s6 v ≡ true → bytes_eq s (span_text v) ≡ true → value_after 0 0 0 0 s ≡ Some v
    after v kept read = ap (value_after 0 0 0 0) (equal_texts s (span_text v) read) ∙ span-after v kept

    tested : (x : ℕ) (b : Bool) → value_after 0 0 0 0 s ≡ Some x → (keeps_s6 x && bytes_eq s (span_text x)) ≡ b → SpanRead (string s) (if b then Some x else None)
    tested x true is e = (let parts = and_parts (keeps_s6 x) (bytes_eq s (span_text x)) e in (parts.0, parts.1))
    tested x false is e = λ v kept read. (
        let both : Some x ≡ Some v = sym is ∙ after v kept read in
        let same : v ≡ x = cc in
        let holds : (keeps_s6 x && bytes_eq s (span_text x)) ≡ true = ap (λ (n : ℕ). keeps_s6 n && bytes_eq s (span_text n)) (sym same) ∙ and_from _ _ kept read in
        is_false (sym e ∙ holds))

    by : (o : Option ℕ) → value_after 0 0 0 0 s ≡ o → SpanRead (string s) (o >>= (λ value. if keeps_s6 value && bytes_eq s (span_text value) then Some value else None))
    by None is = λ v kept read. none_some (value_after 0 0 0 0 s) v is (after v kept read)
    by (Some x) is = tested x (keeps_s6 x && bytes_eq s (span_text x)) is refl
span-read (array ds) = λ v kept read. is_false read
span-read (object ms) = λ v kept read. is_false read

or_second : (x y : Bool) → y ≡ true → (x || y) ≡ true
or_second true y h = refl
or_second false y h = h

kept-fits : (v : ℕ) → keeps_s6 v ≡ true → IsTrue (shape.u64.encoding v).fits
kept-fits v kept =
    let small : v < 2 ^ 56 = ltb-true v (2 ^ 56) (and_parts (nat_lt v (2 ^ 56)) (is_well_formed v) kept).0 in
    lt-ltb v (256 ^ 8) (omega (arith, small))

pub epochs-exact : (t : Data) → Exact epochs shape.u64 t (epochs_at t)
unfolding epochs_at epochs
epochs-exact t = by (number_at w64 t) (span_at t) (u64-exact t) (span-read t)
  where
    read-as : (v : ℕ) → (hex_number.reads v t || (keeps_s6 v && is_text (span_text v) t)) ≡ true → IsTrue (shape.u64.encoding v).fits → (b : List ℕ) → b ≡ to_le_bytes w64 v → Found epochs shape.u64 t b
    read-as v read fits b is = record { value = v; fits = fits; read = read; bytes_are = is; alone = λ w f r. epochs-once w v t f fits r read }

    by : (o : Option (List ℕ)) (s : Option ℕ) → Exact hex_number shape.u64 t o → SpanRead t s → Exact epochs shape.u64 t (or_else o (s >>= (λ value. Some (to_le_bytes w64 value))))
    by (Some b) s found span = read-as found.value (or_left _ _ found.read) found.fits b found.bytes_are
    by None (Some v) none (kept, read) = read-as v (or_second _ _ (and_from _ _ kept read)) (kept-fits v kept) (to_le_bytes w64 v) refl
    by None None none no_span = λ w f r. elim (or_cases (hex_number.reads w t) (keeps_s6 w && is_text (span_text w) t) r) [
      | inl hex ↦ none w f hex
      | inr span ↦ (let parts = and_parts (keeps_s6 w) (is_text (span_text w) t) span in no_span w parts.0 parts.1)
    ]
