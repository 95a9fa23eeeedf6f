-- Lists that are gone through.
use Rattle.std.proofs.Common.{◌≡◌, ℕ, zero, suc, ◌+◌, ◌<◌, ◌≤◌, List, [], ◌∷◌, ◌++◌, length, map, take, get_or, Some, refl, sym, ap, ◌∙◌, subst, arith}
use Rattle.std.specs.Prelude.{slice_get}
use Rattle.std.specs.Option.{option_map}
use Rattle.std.specs.List.{AllZip, enumerate_from}
use Rattle.std.proofs.lemmas.List.{take_more, take_all, map-append, length-map, length-take-le}
use Rattle.std.proofs.lemmas.List.FromFn.{length-enumerate_from}
use Rattle.std.proofs.lemmas.Option.{slice_get_within, get_or_from_slice_get, same_Some}
use Rattle.chain_defs.specs.Schema.{Transaction, CellOutput}
use Rattle.chain_defs.specs.Cell.{script_hash}
use Rattle.chain_defs.specs.Row.{Row}
use Rattle.script_run.specs.Shown.{output_row, output_rows}

pub take-push : {X : Type 0} (xs : List X) (i : ℕ) (x : X) → slice_get xs i ≡ Some x → take (i + 1) xs ≡ take i xs ++ x ∷ []
take-push xs i x there =
    take_more xs i x (slice_get_within xs i x there) ∙ ap (λ y. take i xs ++ y ∷ []) (get_or_from_slice_get xs i x x there)

pub map-more : {X Y : Type 0} (f : X → Y) (xs : List X) (i : ℕ) (x : X) → slice_get xs i ≡ Some x → map f (take i xs) ++ f x ∷ [] ≡ map f (take (i + 1) xs)
map-more f xs i x there = sym (ap (map f) (take-push xs i x there) ∙ map-append f (take i xs) (x ∷ []))

pub map-taken : {X Y : Type 0} (f : X → Y) (xs : List X) (i : ℕ) → i ≤ length xs → i ≡ length (map f (take i xs))
map-taken f xs i within = sym (length-map (take i xs) f ∙ length-take-le i xs within)

-- what stands beside an element
pub record Beside {X Y : Type 0} (R : X → Y → Type 0) (x : X) (ys : List Y) (i : ℕ) : Type 0 where
  pub other : Y
  pub there : slice_get ys i ≡ Some other
  pub holds : R x other

pub beside : {X Y : Type 0} (R : X → Y → Type 0) (xs : List X) (ys : List Y) (i : ℕ) (x : X) → AllZip R xs ys → i < length xs → x ≡ get_or xs i x → Beside R x ys i
beside R [] ys i x zip within is = absurd (omega arith)
beside R (a ∷ xs) [] i x zip within is = absurd zip
beside R (a ∷ xs) (b ∷ ys) zero x zip within is = record { other = b; there = refl; holds = subst (λ (y : _). R y b) (sym is) zip.0 }
beside R (a ∷ xs) (b ∷ ys) (suc i) x zip within is =
    let rest = beside R xs ys i x zip.1 (omega arith) is in
    record { other = rest.other; there = rest.there; holds = rest.holds }

pub zip-long : {X Y : Type 0} (R : X → Y → Type 0) (xs : List X) (ys : List Y) → AllZip R xs ys → length xs ≡ length ys
zip-long R [] [] zip = refl
zip-long R [] (b ∷ ys) zip = absurd zip
zip-long R (a ∷ xs) [] zip = absurd zip
zip-long R (a ∷ xs) (b ∷ ys) zip = ap suc (zip-long R xs ys zip.1)

-- ---- Rows of outputs

row-there : (t : Transaction) (xs : List CellOutput) (n i : ℕ) (row : Row) (output : CellOutput) → slice_get xs i ≡ Some output
    → row ≡ get_or (map (output_row t) (enumerate_from n xs)) i row → row ≡ output_row t (n + i, output)
row-there t [] n i row output there is = absurd (cc)
row-there t (x ∷ xs) n zero row output there is =
    is ∙ ap (λ (o : CellOutput). output_row t (n, o)) (same_Some x output there)
    ∙ ap (λ (m : ℕ). output_row t (m, output)) (let e : n ≡ n + 0 = omega arith in e)
row-there t (x ∷ xs) n (suc i) row output there is =
    row-there t xs (n + 1) i row output there is ∙ ap (λ (m : ℕ). output_row t (m, output)) (let e : n + 1 + i ≡ n + suc i = omega arith in e)

pub row-typed : (t : Transaction) (rows : List Row) (i : ℕ) (row : Row) (output : CellOutput) → rows ≡ output_rows t → slice_get t.raw.outputs i ≡ Some output
    → row ≡ get_or rows i row → row.type_hash ≡ option_map script_hash output.type_script
unfolding output_rows
row-typed t rows i row output are there is =
    ap (λ (r : Row). r.type_hash) (row-there t t.raw.outputs 0 i row output there (is ∙ ap (λ (l : List Row). get_or l i row) are))

pub rows-long : (t : Transaction) → length (output_rows t) ≡ length t.raw.outputs
unfolding output_rows
rows-long t = length-map (enumerate_from 0 t.raw.outputs) (output_row t) ∙ length-enumerate_from 0 t.raw.outputs

pub enumerate-push : {X : Type 0} (n : ℕ) (xs : List X) (x : X) → enumerate_from n (xs ++ x ∷ []) ≡ enumerate_from n xs ++ (n + length xs, x) ∷ []
enumerate-push n [] x = ap (λ (m : ℕ). (m, x) ∷ []) (let e : n ≡ n + 0 = omega arith in e)
enumerate-push {X = X} n (y ∷ xs) x =
    ap (λ (l : List (ℕ × X)). (n, y) ∷ l) (enumerate-push (n + 1) xs x
    ∙ ap (λ (m : ℕ). enumerate_from (n + 1) xs ++ (m, x) ∷ []) (let e : n + 1 + length xs ≡ n + length (y ∷ xs) = omega arith in e))

-- the row of one output more
pub row-more : (t : Transaction) (i : ℕ) (row : Row) (output : CellOutput) (rows after : List Row) → slice_get t.raw.outputs i ≡ Some output
    → rows ≡ map (output_row t) (enumerate_from 0 (take i t.raw.outputs)) → row ≡ output_row t (i, output) → after ≡ rows ++ row ∷ []
    → after ≡ map (output_row t) (enumerate_from 0 (take (i + 1) t.raw.outputs))
row-more t i row output rows after there are is pushed =
    let outputs = t.raw.outputs in
    let within : i < length outputs = slice_get_within outputs i output there in
    let long : 0 + length (take i outputs) ≡ i = (let e : 0 + length (take i outputs) ≡ i = omega (arith, length-take-le i outputs (omega arith)) in e) in
    pushed
    ∙ ap (λ (r : Row). rows ++ r ∷ []) is
    ∙ ap (λ (l : List Row). l ++ output_row t (i, output) ∷ []) are
    ∙ sym (ap (λ (l : List CellOutput). map (output_row t) (enumerate_from 0 l)) (take-push outputs i output there)
    ∙ ap (map (output_row t)) (enumerate-push 0 (take i outputs) output)
    ∙ map-append (output_row t) (enumerate_from 0 (take i outputs)) ((0 + length (take i outputs), output) ∷ [])
    ∙ ap (λ (m : ℕ). map (output_row t) (enumerate_from 0 (take i outputs)) ++ output_row t (m, output) ∷ []) long)

pub rows-all : (t : Transaction) (i : ℕ) (rows : List Row) → length t.raw.outputs ≤ i → rows ≡ map (output_row t) (enumerate_from 0 (take i t.raw.outputs)) → rows ≡ output_rows t
unfolding output_rows
rows-all t i rows all are = are ∙ ap (λ (l : List CellOutput). map (output_row t) (enumerate_from 0 l)) (take_all i t.raw.outputs all)
