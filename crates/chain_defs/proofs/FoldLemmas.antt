-- The folds over more items.
use Rattle.std.proofs.Common.{◌≡◌, List, [], ◌∷◌, ◌++◌, refl, ap}
use Rattle.chain_defs.specs.Fold.{keep, verdicts}

pub keep-append : {K I : Type 0} (kept_after : K → I → K) (kept : K) (xs ys : List I)
    → keep kept_after kept (xs ++ ys) ≡ keep kept_after (keep kept_after kept xs) ys
keep-append kept_after kept [] ys = refl
keep-append kept_after kept (x ∷ xs) ys = keep-append kept_after (kept_after kept x) xs ys

pub verdicts-append : {K I V : Type 0} (kept_after : K → I → K) (verdict : K → I → V) (kept : K) (xs ys : List I)
    → verdicts kept_after verdict kept (xs ++ ys)
    ≡ verdicts kept_after verdict kept xs ++ verdicts kept_after verdict (keep kept_after kept xs) ys
verdicts-append kept_after verdict kept [] ys = refl
verdicts-append kept_after verdict kept (x ∷ xs) ys =
    ap (λ vs. verdict kept x ∷ vs) (verdicts-append kept_after verdict (kept_after kept x) xs ys)

-- one more item
pub keep-push : {K I : Type 0} (kept_after : K → I → K) (kept : K) (items : List I) (item : I)
    → keep kept_after kept (items ++ item ∷ []) ≡ kept_after (keep kept_after kept items) item
keep-push kept_after kept items item = keep-append kept_after kept items (item ∷ [])

pub verdicts-push : {K I V : Type 0} (kept_after : K → I → K) (verdict : K → I → V) (kept : K) (items : List I) (item : I)
    → verdicts kept_after verdict kept (items ++ item ∷ [])
    ≡ verdicts kept_after verdict kept items ++ verdict (keep kept_after kept items) item ∷ []
verdicts-push kept_after verdict kept items item = verdicts-append kept_after verdict kept items (item ∷ [])
