-- The loop over the instructions' names.
use Rattle.std.proofs.Common.{◌≡◌, ℕ, ◌+◌, ◌<◌, ◌≤◌, Bool, true, false, List, [], ◌∷◌, drop, length, get_or, Some, None, refl, sym, ap, ◌∙◌, add-one}
use Rattle.std.specs.Str.{bytes_eq}
use Rattle.std.proofs.lemmas.List.{drop_all}
use Rattle.std.proofs.Math.Seq.{drop-cons}
use Rattle.machine_defs.specs.declared.ins.Ins.{Ins}
use Rattle.machine_defs.specs.declared.operands.Operands.{Operands}
use Rattle.machine_defs.specs.Text.{Form, form, form_of}
use Rattle.rv_text.specs.Reading.{named_in}
use Rattle.rv_text.proofs.Steps.{named-here, named-later}

pub test-is : (i : Ins) (n text name : List ℕ) (w : ℕ) (o : Operands) (r b : Bool) → form n w o ≡ form_of i → text ≡ n
    → r ≡ bytes_eq text name → r ≡ b → bytes_eq (form_of i).name name ≡ b
test-is i n text name w o r b f t e h =
    ap (λ (x : Form). bytes_eq x.name name) (sym f) ∙ ap (λ x. bytes_eq x name) (sym t) ∙ sym e ∙ h

dropped : (d : Ins) (xs : List Ins) (i : ℕ) → i < length xs → drop i xs ≡ get_or xs i d ∷ drop (i + 1) xs
dropped d xs i h = rw (add-one, drop-cons xs i d) refl

pub named-found : (d : Ins) (xs : List Ins) (name : List ℕ) (i : ℕ) → i < length xs → bytes_eq (form_of (get_or xs i d)).name name ≡ true
    → named_in xs name ≡ named_in (drop i xs) name → Some (get_or xs i d) ≡ named_in xs name
named-found d xs name i h e so =
    sym (so ∙ ap (λ r. named_in r name) (dropped d xs i h) ∙ named-here (get_or xs i d) (drop (i + 1) xs) name e)

pub named-passed : (d : Ins) (xs : List Ins) (name : List ℕ) (i : ℕ) → i < length xs → bytes_eq (form_of (get_or xs i d)).name name ≡ false
    → named_in xs name ≡ named_in (drop i xs) name → named_in xs name ≡ named_in (drop (i + 1) xs) name
named-passed d xs name i h e so =
    so ∙ ap (λ r. named_in r name) (dropped d xs i h) ∙ named-later (get_or xs i d) (drop (i + 1) xs) name e

no-name : (name : List ℕ) → named_in [] name ≡ None
unfolding named_in
no-name name = refl

pub named-none : (xs : List Ins) (name : List ℕ) (i : ℕ) → length xs ≤ i → named_in xs name ≡ named_in (drop i xs) name
    → None ≡ named_in xs name
named-none xs name i h so = sym (so ∙ ap (λ r. named_in r name) (drop_all i xs h) ∙ no-name name)
