-- The members of an object, one after another, without those of the free key.
use Rattle.std.proofs.Common.{◌≡◌, ℕ, Bool, true, false, List, ◌∷◌, Some, None, string_bytes, refl, sym, ap, ◌∙◌}
use Rattle.std.specs.Prelude.{if◌then◌else◌, not}
use Rattle.std.specs.Str.{bytes_eq}
use Rattle.serde_json.specs.Data.{Data, Members, member}
use Rattle.serde_json.specs.View.{view, members_view}
use Rattle.serde_json.proofs.Views.{Entry}
use Rattle.json_defs.specs.Form.{without}
use Rattle.json_defs.specs.Blocks.{free_key}
use Rattle.json_blocks.specs.Reading.{take_at}

not_false : (b : Bool) → not b ≡ false → b ≡ true
not_false true h = refl
not_false false h = absurd (cc)

not_true : (b : Bool) → not b ≡ true → b ≡ false
not_true true h = absurd (cc)
not_true false h = refl

-- a member of the free key is passed over
pub passed_over : (old rest : List Entry) (e : Entry) (text : List ℕ) (r : Bool) → old ≡ e ∷ rest → text ≡ string_bytes e.0
    → r ≡ not (bytes_eq text free_key) → r ≡ false → without free_key (members_view old) ≡ without free_key (members_view rest)
passed_over old rest e text r is text_is test apart =
    let same : bytes_eq (string_bytes e.0) free_key ≡ true = ap (λ (s : List ℕ). bytes_eq s free_key) (sym text_is) ∙ not_false (bytes_eq text free_key) (sym test ∙ apart) in
    ap (λ (es : List Entry). without free_key (members_view es)) is
    ∙ ap (λ (b : Bool). if b then without free_key (members_view rest) else member (string_bytes e.0) (view e.1) (without free_key (members_view rest))) same

-- another one stays
pub stays : (old rest : List Entry) (e : Entry) (text : List ℕ) (r : Bool) → old ≡ e ∷ rest → text ≡ string_bytes e.0
    → r ≡ not (bytes_eq text free_key) → r ≡ true
    → without free_key (members_view old) ≡ member (string_bytes e.0) (view e.1) (without free_key (members_view rest))
stays old rest e text r is text_is test here =
    let other : bytes_eq (string_bytes e.0) free_key ≡ false = ap (λ (s : List ℕ). bytes_eq s free_key) (sym text_is) ∙ not_true (bytes_eq text free_key) (sym test ∙ here) in
    ap (λ (es : List Entry). without free_key (members_view es)) is
    ∙ ap (λ (b : Bool). if b then without free_key (members_view rest) else member (string_bytes e.0) (view e.1) (without free_key (members_view rest))) other

-- taking the first member
pub taken : (key k text : List ℕ) (d : Data) (ms whole : Members) (r : Bool) → whole ≡ member k d ms → text ≡ k → r ≡ bytes_eq text key
    → take_at key whole ≡ (if r then Some (d, ms) else None)
taken key k text d ms whole r is text_is test =
    ap (take_at key) is ∙ ap (λ (b : Bool). if b then Some (d, ms) else None) (ap (λ (s : List ℕ). bytes_eq s key) (sym text_is) ∙ sym test)
